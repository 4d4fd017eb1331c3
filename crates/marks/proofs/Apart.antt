-- The two words, taken apart: what is read off them, and both cleared.
-- Assumes nothing.
use mathlib.Core.Path.{◌≡◌, refl, sym, ap}
use mathlib.Core.Bool.{cond}
use mathlib.Core.List.{[], ◌∷◌}
use Prim.Native.Nat.{ℕ, ◌+◌, ◌-◌, ◌^◌, ◌<◌, ◌≤◌}
use native.Mathlib.Omega.{arith}
use lib.Count.{ones, count_trailing_zeros, trailing_le}
use lib.Dec.{eqb}
use lib.ListN.{replicate}
use borrow.Author.Tests.{eq-eqb, ne_eqb}
use Rattle.fields.specs.Bytes.{zeros}
use Rattle.fields.proofs.Tests.{by_equal}
use Rattle.pool.specs.Bounds.{word_slots, mark_words}
use Rattle.pool.specs.Marks.{marked, trailing_ones, lowest}

pub trailing_is : (w : ℕ) → count_trailing_zeros 64 (2 ^ 64 - 1 - w) ≡ trailing_ones w
unfolding trailing_ones
trailing_is w = refl

pub zeros_most : (w : ℕ) → count_trailing_zeros 64 (2 ^ 64 - 1 - w) ≤ word_slots
zeros_most w = trailing_le 64 (2 ^ 64 - 1 - w)

-- ---- lent words

pub cleared_two : (n : ℕ) → n ≡ mark_words → replicate n 0 ≡ zeros mark_words
unfolding zeros
cleared_two n e = rw e

-- ---- what is read off them

module _ (low high : ℕ) where
  pub marked_two : ones low + ones high ≡ marked (low ∷ high ∷ [])
  unfolding marked
  marked_two = omega arith

  pub lowest_first : trailing_ones low < word_slots → trailing_ones low ≡ lowest (low ∷ high ∷ [])
  unfolding lowest
  lowest_first h = rw (ne_eqb (trailing_ones low) word_slots (λ q. omega arith))

  whole_or_part : (t : ℕ) → t ≡ cond (eqb t word_slots) (word_slots + 0) t
  whole_or_part t = sym (by_equal t word_slots (λ b. cond b (word_slots + 0) t ≡ t) (λ e. sym e) (λ _. refl))

  pub lowest_second : trailing_ones low ≡ word_slots → word_slots + trailing_ones high ≡ lowest (low ∷ high ∷ [])
  unfolding lowest
  lowest_second e = rw (eq-eqb (trailing_ones low) word_slots e) (ap (λ (t : ℕ). word_slots + t) (whole_or_part (trailing_ones high)))
