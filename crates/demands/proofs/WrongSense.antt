-- Builds that are wrong in what sense tells fail: a clipped address, the last descriptor that fails, a place told as an address, bytes cleared past
-- the header.
-- Assumes nothing.
use mathlib.Core.Path.{◌≡◌, refl, sym, ap, ◌∙◌}
use mathlib.Core.Logic.{⊎_elim}
use mathlib.Core.Bool.{Bool, true, false, true≢false}
use mathlib.Core.List.{List, [], ◌∷◌, ◌++◌}
use Prim.Native.Nat.{ℕ, ◌+◌, ◌^◌}
use native.Mathlib.Omega.{arith}
use lib.Dec.{T, leb}
use Rattle.fields.specs.Field.{byte}
use Rattle.fields.specs.Bits.{within}
use Rattle.fields.proofs.Tests.{and_l, T_true}
use Rattle.answers.specs.declared.Refusal.TheVariants.{OutOfRange}
use Rattle.answers.specs.declared.Answer.{Answer}
use Rattle.answers.specs.declared.Answer.TheVariants.{Refused}
use Rattle.answers.specs.Answers.{codes_of, number_of, invalid_field, out_of_range}
use Rattle.answers.specs.Sense.{sense_after}
use Rattle.descriptors.specs.declared.Descriptor.{Descriptor}
use Rattle.forms.specs.declared.Move.TheVariants.{Unmap}
use Rattle.demands.specs.Demands.{Demand1}
use Rattle.demands.specs.Contents.{Asks, transfer_cdb, cdb16, descriptors_from, descriptors_of}
use Rattle.demands.specs.Pointed.{Pointed}
use Rattle.demands.specs.SenseRead.{response_code, is_descriptor, find_type, descriptor_in, Information, absent, present, fixed_valid, fixed_field, specific, sksv}
use Rattle.demands.specs.Sensed.{address_of, all_inside, Sensed}
use Rattle.demands.specs.SenseCases.{in_format}
use Rattle.demands.specs.WrongBuilds.{shown, showing}
use Rattle.demands.specs.WrongPointers.{answers, sensed}
use Rattle.demands.specs.WrongSense.{clipped, last_fails, last_told, place_as_address, cleared_past, shown_described, reads_far, unmaps_two, marked, controlled, unknown}
use Rattle.demands.proofs.Computing.{meaning}
use Rattle.demands.proofs.Sensed.{told_in}

-- ---- a clipped address

far_refused : (clipped shown reads_far).seen.answer ≡ Refused (OutOfRange (2 ^ 33 + 5))
unfolding meaning shown showing transfer_cdb cdb16 reads_far answers sensed clipped
far_refused = refl

valid_set : fixed_valid (clipped shown reads_far).seen.sense ≡ true
unfolding meaning shown showing transfer_cdb cdb16 reads_far answers sensed clipped fixed_valid
valid_set = refl

five_shown : fixed_field (clipped shown reads_far).seen.sense ≡ 5
unfolding meaning shown showing transfer_cdb cdb16 reads_far answers sensed clipped fixed_field
five_shown = refl

shown_fixed : shown.format ≡ 0x70
unfolding shown
shown_fixed = refl

-- the number in it
unfoldable number_in : Information → ℕ
number_in absent = 0
number_in (present n) = n

pub clipped_fails : Sensed clipped → ⊥
unfolding address_of number_in
clipped_fails p =
    ⊎_elim
    (λ h. let same = ap number_in h.1 ∙ five_shown in omega arith)
    (λ h. true≢false (sym valid_set ∙ h.0))
    (p.never_clipped shown reads_far (OutOfRange (2 ^ 33 + 5)) shown_fixed far_refused)

-- ---- the last descriptor that fails

unfoldable unmap_asked : Asks Unmap unmaps_two
unfolding meaning showing unmaps_two
unmap_asked = record { request = _; is = refl; command = refl }

nine_told : (last_told shown unmaps_two).seen.answer ≡ out_of_range 9
unfolding meaning shown showing unmaps_two answers last_told last_fails all_inside descriptors_from
nine_told = refl

-- the address of the first of a list of descriptors, and whether it ends within 8 blocks
unfoldable first_in : List Descriptor → ℕ
first_in [] = 0
first_in (d ∷ ds) = d.address.0

unfoldable first_inside : List Descriptor → Bool
first_inside [] = true
first_inside (d ∷ ds) = leb (d.address.0 + d.count) 8

first_eight : first_in (descriptors_of unmap_asked.request unmaps_two.data_out) ≡ 8
unfolding meaning showing unmaps_two unmap_asked descriptors_from descriptors_of first_in
first_eight = refl

first_outside : first_inside (descriptors_of unmap_asked.request unmaps_two.data_out) ≡ false
unfolding meaning showing unmaps_two unmap_asked descriptors_from descriptors_of first_inside
first_outside = refl

-- so none comes before the one that fails first, and it begins at 8
first_begins : (before behind : List Descriptor) (failing : Descriptor) → descriptors_of unmap_asked.request unmaps_two.data_out ≡ before ++ (failing ∷ behind)
    → T (all_inside 8 before) → failing.address.0 ≡ 8
unfolding all_inside first_in first_inside
first_begins [] behind failing e t = sym (ap first_in e) ∙ first_eight
first_begins (d ∷ ds) behind failing e t =
    absurd (true≢false (sym (T_true _ (and_l (leb (d.address.0 + d.count) 8) (all_inside 8 ds) t)) ∙ sym (ap first_inside e) ∙ first_outside))

shown_eight : shown.unit.capacity ≡ 8
unfolding shown
shown_eight = refl

nine_number : number_of (last_told shown unmaps_two).seen.answer ≡ 3
unfolding number_of codes_of
nine_number = ap number_of nine_told

pub last_told_fails : Sensed last_told → ⊥
unfolding shown told_in address_of number_in
last_told_fails p =
    let law = p.unmap_address shown unmaps_two unmap_asked nine_number in
    let first = law.2 in
    let begins = sym first.begins ∙ first_begins first.before first.behind first.failing first.list first.inside in
    let told = ap (λ (a : Answer). number_in (told_in a)) (sym nine_told ∙ law.1) in
    omega (arith, begins, told)

-- ---- a place told as an address

naca_refused : (place_as_address shown_described controlled).seen.answer ≡ invalid_field (within 5 2 1)
unfolding meaning shown in_format shown_described marked controlled answers sensed place_as_address
naca_refused = refl

unpointed : sksv (place_as_address shown_described controlled).seen.sense ≡ false
unfolding meaning shown in_format shown_described marked controlled answers sensed place_as_address response_code is_descriptor find_type descriptor_in specific sksv
unpointed = refl

pub place_as_address_fails : Pointed place_as_address → ⊥
place_as_address_fails p = true≢false (sym (p.cdb_told shown_described controlled (within 5 2 1) naca_refused).valid ∙ unpointed)

-- ---- bytes cleared past the header

past_cleared : byte 8 (cleared_past shown_described unknown).seen.sense ≡ 0
unfolding meaning shown in_format shown_described marked unknown answers sensed cleared_past
past_cleared = refl

past_lent : byte 8 (sense_after shown_described.format (cleared_past shown_described unknown).seen.answer unknown.sense) ≡ 0x99
unfolding meaning shown in_format shown_described marked unknown answers sensed cleared_past
past_lent = refl

pub cleared_past_fails : Demand1 cleared_past → ⊥
cleared_past_fails d =
    let same = sym past_cleared ∙ ap (byte 8) (d.sense_table shown_described unknown) ∙ past_lent in omega arith
