-- Builds that are wrong in where they point fail the laws of pointers, by computation: a store and a call on which a law is false of them.
-- Assumes nothing.
use mathlib.Core.Path.{◌≡◌, refl, sym, ap, ◌∙◌}
use mathlib.Core.Bool.{Bool, true, ◌&&◌, true≢false}
use mathlib.Core.List.{List, [], ◌∷◌}
use Prim.Native.Nat.{ℕ, zero, suc, ◌<◌}
use native.Mathlib.Omega.{arith}
use lib.Dec.{T, ltb, ltb→lt, lit<}
use Rattle.fields.specs.Field.{byte, field}
use Rattle.fields.specs.Bits.{Bits, within, bit_in, AgreeIn}
use Rattle.fields.proofs.Tests.{and_l, and_r, by_equal, agree, agree_same}
use Rattle.answers.specs.declared.Answer.TheVariants.{Good}
use Rattle.answers.specs.Answers.{codes_of, number_of, invalid_field, list_field, not_listed}
use Rattle.rights.specs.Actions.{flags_byte}
use Rattle.forms.specs.Forms.{kind_bits}
use Rattle.demands.specs.Pointed.{AreBytes, with_cdb, Pointed}
use Rattle.demands.specs.SenseRead.{response_code, is_descriptor, specific, command_data}
use Rattle.demands.specs.WrongBuilds.{shown, showing}
use Rattle.demands.specs.WrongPointers.{answers, type_for_scope, sensed, list_as_cdb, left_place, reserve_cdb, reserves, registers, unknown}
use Rattle.demands.proofs.Computing.{meaning}

-- ---- the type for a wrong scope: with another scope and the same type it is not wrong

unfoldable all_bytes : List ℕ → Bool
all_bytes [] = true
all_bytes (x ∷ xs) = ltb x 256 && all_bytes xs

are_bytes : (l : List ℕ) → T (all_bytes l) → AreBytes l
unfolding all_bytes byte
are_bytes [] t i = lit< tt
are_bytes (x ∷ xs) t zero = ltb→lt x 256 (and_l (ltb x 256) (all_bytes xs) t)
are_bytes (x ∷ xs) t (suc i) = are_bytes xs (and_r (ltb x 256) (all_bytes xs) t) i

unfoldable agree_below : ℕ → Bits → List ℕ → List ℕ → Bool
agree_below zero b l m = true
agree_below (suc n) b l m = agree (bit_in b n l) (bit_in b n m) && agree_below n b l m

agree_below_law : (n : ℕ) (b : Bits) (l m : List ℕ) → T (agree_below n b l m) → (i : ℕ) → i < n → bit_in b i l ≡ bit_in b i m
unfolding agree_below
agree_below_law zero b l m t i h = absurd (omega arith)
agree_below_law (suc n) b l m t i h =
    by_equal i n (λ _. bit_in b i l ≡ bit_in b i m)
    (λ e. rw e (agree_same _ _ (and_l (agree (bit_in b n l) (bit_in b n m)) (agree_below n b l m) t)))
    (λ d. agree_below_law n b l m (and_r (agree (bit_in b n l) (bit_in b n m)) (agree_below n b l m) t) i (omega arith))

-- scope 1 and scope 0, of type 1
wrong_bytes : AreBytes (reserves 0x11).cdb
unfolding meaning showing reserve_cdb reserves all_bytes
wrong_bytes = are_bytes (reserve_cdb 0x11) tt

right_bytes : AreBytes (reserve_cdb 0x01)
unfolding reserve_cdb all_bytes
right_bytes = are_bytes (reserve_cdb 0x01) tt

same_type : AgreeIn kind_bits (reserves 0x11).cdb (reserve_cdb 0x01)
unfolding meaning showing reserve_cdb reserves bit_in agree_below agree
same_type = agree_below_law 4 kind_bits (reserve_cdb 0x11) (reserve_cdb 0x01) tt

type_named : (type_for_scope shown (reserves 0x11)).seen.answer ≡ invalid_field kind_bits
unfolding meaning shown showing reserve_cdb reserves answers type_for_scope
type_named = refl

scope_passes : (type_for_scope shown (with_cdb (reserves 0x11) (reserve_cdb 0x01))).seen.answer ≡ Good
unfolding meaning shown showing reserve_cdb reserves answers type_for_scope
scope_passes = refl

pub type_for_scope_fails : Pointed type_for_scope → ⊥
unfolding meaning showing reserve_cdb reserves
type_for_scope_fails p =
    let law = p.cdb_stays shown (reserves 0x11) kind_bits type_named (reserve_cdb 0x01) wrong_bytes right_bytes refl refl same_type in
    let same = sym (ap number_of scope_passes) ∙ law in omega arith

-- ---- a field of the list as one of the CDB

flag_named : (list_as_cdb shown registers).seen.answer ≡ list_field (within flags_byte 0 1)
unfolding meaning shown showing registers answers sensed list_as_cdb
flag_named = refl

cdb_told : command_data (list_as_cdb shown registers).seen.sense ≡ true
unfolding meaning shown showing registers answers sensed list_as_cdb response_code is_descriptor specific command_data
cdb_told = refl

pub list_as_cdb_fails : Pointed list_as_cdb → ⊥
list_as_cdb_fails p = true≢false (sym cdb_told ∙ (p.list_told_law shown registers (within flags_byte 0 1) flag_named).which)

-- ---- a place where nothing is wrong

code_refused : (left_place shown unknown).seen.answer ≡ not_listed
unfolding meaning shown showing unknown answers sensed left_place
code_refused = refl

place_left : field 0 3 (specific (left_place shown unknown).seen.sense) ≡ 0xC80001
unfolding meaning shown showing unknown answers sensed left_place response_code is_descriptor specific
place_left = refl

code_number : number_of (left_place shown unknown).seen.answer ≡ 1
unfolding number_of codes_of
code_number = ap number_of code_refused

pub left_place_fails : Pointed left_place → ⊥
left_place_fails p =
    let law = p.nowhere shown unknown _ code_refused (λ e. omega (arith, code_number)) (λ e. omega (arith, code_number)) in
    omega (arith, place_left)
