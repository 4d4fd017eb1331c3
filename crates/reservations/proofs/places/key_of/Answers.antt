-- `reservations::places::key_of` meets its contract.
-- Assumes nothing.
use Rattle.std.proofs.Common.{◌≡◌, rules, tests, ◌∙◌}
use Rattle.std.proofs.lemmas.Iterator.{YieldsList-from_slice}
use Rattle.std.proofs.lemmas.Iterator.Search.{find_from_yields_List}
use Rattle.std.specs.Option.{option_map_or}
use Rattle.rights.specs.Places.{is_of}
use Rattle.reservations.proofs.SearchLaws.{key_of_found}
use Rattle.reservations.proofs.places.key_of.Goals as goal

pub returns : goal.returns
returns c =
    let found = find_from_yields_List (is_of c.args.nexus) _ _ c.find.result c.find.ensures.ran (YieldsList-from_slice c.args.places.now cc) (λ x b q k. search (rules, tests)) in
    let key : c.map_or.result ≡ option_map_or (λ p. p.now.key) c.find.result 0 = search rules in
    key ∙ key_of_found c.args.nexus c.args.places.now c.find.result found
