-- The mark of a slot among those of its pool: setting and clearing it, and that the marks are right exactly if each slot's mark says what
-- its owner does. "slot i is bit i mod 64 of word i / 64". Assumes nothing.
use mathlib.Core.Path.{◌≡◌, refl, sym, ap, ◌∙◌}
use mathlib.Core.List.{List, [], ◌∷◌}
use mathlib.Core.Logic.{◌≢◌}
use Prim.Native.Nat.{ℕ, zero, suc, ◌+◌, ◌-◌, ◌*◌, ◌/◌, ◌%◌, ◌^◌, ◌<◌, ◌≤◌}
use native.Mathlib.Nat.{pow-suc, div-div-eq-div-mul, mul_comm}
use native.Mathlib.Omega.{arith}
use lib.Bits.{bit_and, bit_or}
use lib.Dec.{ltb, ltb→lt, nltb→le}
use lib.ListN.{length, get_or, take, drop, set, length-take, length-drop}
use lib.Seq.{take-set-le, take-set-lt, drop-set-lt, drop-set-add}
use Rattle.fields.proofs.Tests.{test}
use Rattle.pool.specs.Bounds.{most_slots, word_slots}
use Rattle.pool.specs.Marks.{mark_of, word_of, marks_of}
use Rattle.pool.proofs.Marking.{mark_free, mark_most, low_digit, high_digits, word_set, word_clear}

-- ---- one slot's mark is changed

-- what f makes of the slot's word is what the slot's new owner makes of it
changed_word : (f : ℕ → ℕ) (owners : List ℕ) (i x : ℕ) → length owners ≤ most_slots → i < length owners
    → ((xs : List ℕ) → length xs ≤ word_slots → i % word_slots < length xs → f (word_of xs) ≡ word_of (set xs (i % word_slots) x))
    → set (marks_of owners) (i / word_slots) (f (get_or (marks_of owners) (i / word_slots) 0)) ≡ marks_of (set owners i x)
unfolding marks_of
changed_word f owners i x few there made =
    test (ltb i word_slots)
    (λ t.
    let h = ltb→lt i word_slots t in
    let q : i / word_slots ≡ 0 = omega arith in
    let r : i % word_slots ≡ i = omega arith in
    let m = made (take word_slots owners) (omega (arith, length-take word_slots owners)) (omega (arith, length-take word_slots owners)) in
    rw (q, take-set-lt word_slots owners i x h, drop-set-lt word_slots owners i x h) (ap (λ (w : ℕ). w ∷ word_of (drop word_slots owners) ∷ []) (m ∙ rw r)))
    (λ t.
    let h = nltb→le i word_slots t in
    let q : i / word_slots ≡ 1 = omega arith in
    let r : word_slots + i % word_slots ≡ i = omega arith in
    let m = made (drop word_slots owners) (omega (arith, length-drop word_slots owners)) (omega (arith, length-drop word_slots owners)) in
    let d : drop word_slots (set owners i x) ≡ set (drop word_slots owners) (i % word_slots) x =
    ap (λ (k : ℕ). drop word_slots (set owners k x)) (sym r) ∙ drop-set-add word_slots owners (i % word_slots) x in
    rw (q, take-set-le word_slots owners i x h, d) (ap (λ (w : ℕ). word_of (take word_slots owners) ∷ w ∷ []) m))

module _ (owners : List ℕ) (i : ℕ) (few : length owners ≤ most_slots) (there : i < length owners) where
  -- a slot that takes a block
  pub marks_put : (x : ℕ) → x ≢ 0
      → set (marks_of owners) (i / word_slots) (bit_or (get_or (marks_of owners) (i / word_slots) 0) (2 ^ (i % word_slots))) ≡ marks_of (set owners i x)
  marks_put x d =
      changed_word (λ w. bit_or w (2 ^ (i % word_slots))) owners i x few there (λ xs l h. word_set xs (i % word_slots) x h d)

  -- a slot that is freed
  pub marks_cleared : set (marks_of owners) (i / word_slots) (bit_and (get_or (marks_of owners) (i / word_slots) 0) (2 ^ word_slots - 1 - 2 ^ (i % word_slots)))
      ≡ marks_of (set owners i 0)
  marks_cleared =
      changed_word (λ w. bit_and w (2 ^ word_slots - 1 - 2 ^ (i % word_slots))) owners i 0 few there (λ xs l h. word_clear word_slots xs (i % word_slots) l h)

-- ---- slot by slot

next_digit : (w j : ℕ) → w / 2 ^ suc j ≡ w / 2 / 2 ^ j
next_digit w j = sym (div-div-eq-div-mul w 2 (2 ^ j) ∙ ap (λ (n : ℕ). w / n) (mul_comm 2 (2 ^ j) ∙ sym (pow-suc 2 j)))

whole : (w : ℕ) → w / 2 ^ 0 ≡ w
whole w = omega arith

-- the digits of a word are the marks; past the slots there is none
pub word_digit : (xs : List ℕ) (j : ℕ) → word_of xs / 2 ^ j % 2 ≡ mark_of (get_or xs j 0)
unfolding word_of
word_digit [] j = rw mark_free (none j)
  where
    none : (j : ℕ) → 0 / 2 ^ j % 2 ≡ 0
    none zero = refl
    none (suc j) = rw (next_digit 0 j) (none j)
word_digit (y ∷ ys) zero = rw (whole (word_of ys * 2 + mark_of y)) (low_digit (word_of ys) (mark_of y) (mark_most y))
word_digit (y ∷ ys) (suc j) = rw (next_digit (word_of ys * 2 + mark_of y) j, high_digits (word_of ys) (mark_of y) (mark_most y)) (word_digit ys j)

-- and no other word has them
pub word_only : (k w : ℕ) (xs : List ℕ) → length xs ≤ k → w < 2 ^ k → ((j : ℕ) → j < k → w / 2 ^ j % 2 ≡ mark_of (get_or xs j 0)) → w ≡ word_of xs
unfolding word_of
word_only zero w [] l h each = omega arith
word_only zero w (y ∷ ys) l h each = absurd (omega arith)
word_only (suc k) w [] l h each =
    let low : w / 2 ^ 0 % 2 ≡ mark_of 0 = each 0 (omega arith) in
    let high = word_only k (w / 2) [] (omega arith) (omega (arith, pow-suc 2 k)) (λ j u. sym (ap (λ (n : ℕ). n % 2) (next_digit w j)) ∙ each (suc j) (omega arith)) in
    omega (arith, low, high, mark_free, whole w)
word_only (suc k) w (y ∷ ys) l h each =
    let low : w / 2 ^ 0 % 2 ≡ mark_of y = each 0 (omega arith) in
    let high = word_only k (w / 2) ys (omega arith) (omega (arith, pow-suc 2 k)) (λ j u. sym (ap (λ (n : ℕ). n % 2) (next_digit w j)) ∙ each (suc j) (omega arith)) in
    omega (arith, low, high, whole w)
