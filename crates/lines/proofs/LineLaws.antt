-- Laws of the line of an outcome: which bytes are shown, and how large the answer's number is.
-- Assumes nothing.
use mathlib.Core.Path.{◌≡◌, refl, sym, ap}
use mathlib.Core.Bool.{Bool, true, false}
use mathlib.Core.List.{List, ◌++◌}
use Prim.Native.Nat.{ℕ, ◌+◌, ◌≤◌, ◌<◌, min}
use native.Mathlib.Omega.{arith}
use native.Mathlib.Nat.{le_of_lt}
use lib.Dec.{leb}
use lib.ListN.{length, take, length-take}
use lib.Seq.{take_all, take-take, length-take-le}
use borrow.Author.Tests.{leb-true, leb-false}
use Rattle.answers.specs.declared.Refusal.{Refusal}
use Rattle.answers.specs.declared.Refusal.TheVariants.{NotListed, InvalidField, OutOfRange, ListLength, ListField, NoPlace, OtherType, NoRoom, RegistrationsPreempted, ReservationsPreempted, ReservationsReleased}
use Rattle.answers.specs.declared.Answer.{Answer}
use Rattle.answers.specs.declared.Answer.TheVariants.{Good, Refused, Conflict, Unusable, Short}
use Rattle.answers.specs.Answers.{codes_of, number_of}
use Rattle.text.specs.Text.{decimal, hex}
use Rattle.text.proofs.DecimalLaws.{decimal_length, appended_length}
use Rattle.lines.specs.Line.{shown_bytes, data_text}

-- ---- the first of the bytes returned

module _ (returned n : ℕ) (l : List ℕ) (e : n ≡ min shown_bytes returned) where
  few : returned ≤ shown_bytes → take n l ≡ take shown_bytes (take returned l)
  few h =
      let same : n ≡ returned = omega arith in
      let short : length (take returned l) ≤ shown_bytes = simp length-take (omega arith) in
      rw same (sym (take_all shown_bytes (take returned l) short))

  many : shown_bytes ≤ returned → take n l ≡ take shown_bytes (take returned l)
  many h = let same : n ≡ shown_bytes = omega arith in rw same (sym (take-take shown_bytes returned l h))

  either : (b : Bool) → leb shown_bytes returned ≡ b → take n l ≡ take shown_bytes (take returned l)
  either true t = many (leb-true shown_bytes returned t)
  either false t = few (le_of_lt (leb-false shown_bytes returned t))

  pub data_shown : hex (take n l) ≡ data_text returned l
  unfolding data_text
  data_shown = ap hex (either (leb shown_bytes returned) refl)

  pub shown_most : n ≤ shown_bytes
  shown_most = omega arith

  pub shown_length : returned ≤ length l → length (take n l) ≡ n
  shown_length h = length-take-le n l (omega arith)

-- what shows them
pub ruleset shown_steps = (data_shown, shown_most, shown_length)

-- ---- a number

-- at most 4 digits
pub number_length : (x : ℕ) → x < 10000 → length (decimal x) ≤ 4
number_length x h = decimal_length 4 x (omega arith) h

-- behind the bytes `l` of a page too
pub number_room : (l : List ℕ) (x : ℕ) → x < 10000 → length (l ++ decimal x) ≤ length l + 4
number_room l x h = appended_length 4 l x (omega arith) h

-- ---- the answer's number

refusal_most : (x : Refusal) → (codes_of x).number ≤ 13
unfolding codes_of
refusal_most NotListed = omega arith
refusal_most (InvalidField at top n) = omega arith
refusal_most (OutOfRange address) = omega arith
refusal_most ListLength = omega arith
refusal_most (ListField at top n) = omega arith
refusal_most NoPlace = omega arith
refusal_most OtherType = omega arith
refusal_most (NoRoom address) = omega arith
refusal_most RegistrationsPreempted = omega arith
refusal_most ReservationsPreempted = omega arith
refusal_most ReservationsReleased = omega arith

pub number_most : (a : Answer) → number_of a ≤ 13
unfolding number_of
number_most Good = omega arith
number_most (Refused refusal) = refusal_most refusal
number_most Conflict = omega arith
number_most Unusable = omega arith
number_most Short = omega arith
