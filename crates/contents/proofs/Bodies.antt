-- What a good sheet says of its bodies: they lie one behind the other, and the last ends where the sheet does.
-- Assumes nothing.
use mathlib.Core.Path.{◌≡◌, refl}
use mathlib.Core.Bool.{Bool, true, false, ◌&&◌, false≢true}
use mathlib.Core.List.{List}
use Prim.Native.Nat.{ℕ, zero, suc, ◌+◌, ◌-◌, ◌≤◌, ◌<◌}
use native.Mathlib.Nat.{sub-zero}
use native.Mathlib.Omega.{arith}
use lib.Dec.{leb, eqb}
use lib.ListN.{length}
use borrow.Author.Tests.{leb-true, eqb-true}
use Rattle.contents.specs.Contents.{most_calls, most_bytes, calls, cdb_length, out_length, body_end, bodies_end, bodies_begin, good_sheet}
use Rattle.contents.proofs.Turns.{bodies_turn}

and_true_l : (a b : Bool) → (a && b) ≡ true → a ≡ true
and_true_l true b e = refl
and_true_l false b e = e

and_true_r : (a b : Bool) → (a && b) ≡ true → b ≡ true
and_true_r true b e = e
and_true_r false b e = absurd (false≢true e)

module _ (sheet : List ℕ) (good : good_sheet sheet ≡ true) where
  pub good_end : bodies_end sheet 0 (calls sheet) (bodies_begin sheet) ≡ length sheet
  unfolding good_sheet
  good_end = eqb-true _ _ (and_true_r (leb 1 (length sheet) && leb (length sheet) most_bytes && leb (calls sheet) most_calls) _ good)

  pub good_calls : calls sheet ≤ most_calls
  unfolding good_sheet
  good_calls =
      leb-true _ _
      (and_true_r (leb 1 (length sheet) && leb (length sheet) most_bytes) _
      (and_true_l _ (eqb (bodies_end sheet 0 (calls sheet) (bodies_begin sheet)) (length sheet)) good))

  pub good_length : length sheet ≤ most_bytes
  unfolding good_sheet
  good_length =
      leb-true _ _
      (and_true_r (leb 1 (length sheet)) _
      (and_true_l _ (leb (calls sheet) most_calls)
      (and_true_l _ (eqb (bodies_end sheet 0 (calls sheet) (bodies_begin sheet)) (length sheet)) good)))

-- the bodies lie one behind the other
pub bodies_rise : (sheet : List ℕ) (i n at : ℕ) → at ≤ bodies_end sheet i n at
unfolding bodies_end body_end
bodies_rise sheet i zero at = omega arith
bodies_rise sheet i (suc n) at = omega (arith, bodies_rise sheet (suc i) n (at + (cdb_length sheet i + out_length sheet i)))

module _ (sheet : List ℕ) (i n at : ℕ) (end : bodies_end sheet i (n - i) at ≡ length sheet) where
  pub body_begins : at ≤ length sheet
  body_begins = omega (arith, end, bodies_rise sheet i (n - i) at)

  pub body_ends : i < n → body_end sheet i at ≤ length sheet
  body_ends h =
      omega
      (arith, end, bodies_turn sheet i n at (body_end sheet i at) h refl, bodies_rise sheet (i + 1) (n - (i + 1)) (body_end sheet i at))

pub bodies_begin_law : (sheet : List ℕ) (n at : ℕ) → good_sheet sheet ≡ true → n ≡ calls sheet → at ≡ bodies_begin sheet → bodies_end sheet 0 (n - 0) at ≡ length sheet
bodies_begin_law sheet n at good e b = rw (sub-zero n, e, b) (good_end sheet good)
