-- `reservations::places::enrol` meets its contract.
-- Assumes nothing.
use Rattle.std.proofs.Common.{not, rules, tests, ◌∙◌, sym}
use Rattle.std.proofs.lemmas.Iterator.{YieldsList-from_slice}
use Rattle.std.proofs.lemmas.Iterator.Search.{position_from_yields_List}
use Rattle.rights.specs.Places.{used}
use Rattle.reservations.proofs.ChangeLaws.{enrol_found, enrol_full}
use Rattle.reservations.proofs.places.enrol.Goals as goal

pub returns-in-Some : goal.returns-in-Some
returns-in-Some c =
    let found = position_from_yields_List (λ p. not (used p)) _ _ _ c.position.ensures.ran (YieldsList-from_slice c.args.places.now cc) (λ x b q k. search (rules, tests)) in
    enrol_found _ _ _ _ (sym c.in-Some.is ∙ found)

pub returns-in_default : goal.returns-in_default
returns-in_default c =
    let found = position_from_yields_List (λ p. not (used p)) _ _ _ c.position.ensures.ran (YieldsList-from_slice c.args.places.now cc) (λ x b q k. search (rules, tests)) in
    enrol_full _ _ _ (sym c.in_default.is ∙ found)
