-- `reservations::places::emptied` meets its contract.
-- Assumes nothing.
use Rattle.std.proofs.Common.{rules, tests}
use Rattle.rights.specs.Places.{unused}
use Rattle.reservations.proofs.ChangeLaws.{mapped}
use Rattle.reservations.proofs.places.emptied.Goals as goal

pub returns : goal.returns
returns c = mapped _ (λ p. unused) _ (λ x y q k. search (rules, tests)) _ _ _ c.map.ensures.items (search rules)
