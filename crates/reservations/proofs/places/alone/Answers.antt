-- `reservations::places::alone` meets its contract.
-- Assumes nothing.
use Rattle.std.proofs.Common.{rules, tests}
use Rattle.rights.specs.Places.{alone}
use Rattle.reservations.proofs.ChangeLaws.{mapped}
use Rattle.reservations.proofs.places.alone.Goals as goal

pub returns : goal.returns
unfolding alone
returns c = mapped _ (alone c.args.nexus) _ (λ x y q k. search (rules, tests)) _ _ _ c.map.ensures.items (search rules)
