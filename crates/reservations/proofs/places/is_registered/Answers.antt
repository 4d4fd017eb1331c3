-- `reservations::places::is_registered` meets its contract.
-- Assumes nothing.
use Rattle.std.proofs.Common.{rules, tests}
use Rattle.std.proofs.lemmas.Iterator.{YieldsList-from_slice}
use Rattle.std.proofs.lemmas.Iterator.Search.{any_from_yields_List}
use Rattle.rights.specs.Places.{is_of}
use Rattle.reservations.proofs.SearchLaws.{registered_found}
use Rattle.reservations.proofs.places.is_registered.Goals as goal

pub returns : goal.returns
returns c = registered_found c.args.nexus _ _ (any_from_yields_List (is_of c.args.nexus) _ _ _ c.any.ensures.ran (YieldsList-from_slice c.args.places.now cc) (λ x b q k. search (rules, tests)))
