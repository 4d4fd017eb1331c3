-- `reservations::places::has_registrant` meets its contract.
-- Assumes nothing.
use Rattle.std.proofs.Common.{rules, tests}
use Rattle.std.proofs.lemmas.Iterator.{YieldsList-from_slice}
use Rattle.std.proofs.lemmas.Iterator.Search.{any_from_yields_List}
use Rattle.rights.specs.Places.{used}
use Rattle.reservations.proofs.SearchLaws.{somebody_found}
use Rattle.reservations.proofs.places.has_registrant.Goals as goal

pub returns : goal.returns
returns c = somebody_found _ _ (any_from_yields_List used _ _ _ c.any.ensures.ran (YieldsList-from_slice c.args.places.now cc) (λ x b q k. search (rules, tests)))
