-- `reservations::places::is_known` meets its contract.
-- Assumes nothing.
use Rattle.std.proofs.Common.{◌&&◌, eqb, rules, tests}
use Rattle.std.proofs.lemmas.Iterator.{YieldsList-from_slice}
use Rattle.std.proofs.lemmas.Iterator.Search.{any_from_yields_List}
use Rattle.rights.specs.Places.{used}
use Rattle.reservations.proofs.SearchLaws.{known_found}
use Rattle.reservations.proofs.places.is_known.Goals as goal

pub returns : goal.returns
returns c = known_found c.args.key _ _ (any_from_yields_List (λ p. used p && eqb p.key c.args.key) _ _ _ c.any.ensures.ran (YieldsList-from_slice c.args.places.now cc) (λ x b q k. search (rules, tests)))
