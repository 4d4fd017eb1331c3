-- `reservations::places::rekeyed` meets its contract.
-- Assumes nothing.
use Rattle.std.proofs.Common.{rules, tests}
use Rattle.rights.specs.Places.{rekeyed}
use Rattle.reservations.proofs.ChangeLaws.{mapped}
use Rattle.reservations.proofs.places.rekeyed.Goals as goal

pub returns : goal.returns
returns c = mapped _ (rekeyed c.args.nexus c.args.key) _ (λ x y q k. search (rules, tests)) _ _ _ c.map.ensures.items (search rules)
