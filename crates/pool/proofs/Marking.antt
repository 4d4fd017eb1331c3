-- The marks: what the ones and the trailing ones of a word are, said once over the word, and what setting or clearing a bit makes of it.
-- Assumes nothing.
use mathlib.Core.Path.{◌≡◌, refl, sym, ap, ap₂, ◌∙◌}
use mathlib.Core.Bool.{cond}
use mathlib.Core.List.{List, [], ◌∷◌}
use mathlib.Core.Logic.{◌≢◌}
use Prim.Native.Nat.{ℕ, zero, suc, ◌+◌, ◌-◌, ◌*◌, ◌/◌, ◌%◌, ◌^◌, ◌<◌, ◌≤◌, min, max}
use native.Mathlib.Nat.{pow-suc, min-zero, max-zero, mod-eq_of_lt}
use native.Mathlib.Omega.{arith}
use lib.Bits.{bit_and, bit_or, or_step, and_step, or_zero_l, or_zero_r, and_mask}
use lib.Count.{ones, ones_step, count_trailing_zeros, under}
use lib.Dec.{T, eqb, eqb→eq, eqb_refl}
use lib.ListN.{length, get_or, take, drop, set, length-take, length-drop}
use lib.Pow.{pow_pos, pow-lt}
use borrow.Author.Tests.{ne_eqb}
use Rattle.fields.specs.Bytes.{zeros}
use Rattle.fields.proofs.Tests.{and_l, and_r, both, by_equal}
use Rattle.pool.specs.Bounds.{word_slots, mark_words}
use Rattle.pool.specs.Marks.{mark_of, word_of, marks_of, same_words, marks_ok, marked, trailing_ones, lowest}
use Rattle.pool.specs.Pool.{place, free}

-- ---- agreeing is being the same

same_words_law : (xs ys : List ℕ) → T (same_words xs ys) → xs ≡ ys
unfolding same_words
same_words_law [] [] t = refl
same_words_law [] (y ∷ ys) t = absurd t
same_words_law (x ∷ xs) [] t = absurd t
same_words_law (x ∷ xs) (y ∷ ys) t =
    ap₂ (λ (z : ℕ) (zs : List ℕ). z ∷ zs) (eqb→eq x y (and_l (eqb x y) (same_words xs ys) t)) (same_words_law xs ys (and_r (eqb x y) (same_words xs ys) t))

words_same : (xs : List ℕ) → T (same_words xs xs)
unfolding same_words
words_same [] = tt
words_same (x ∷ xs) = both (eqb x x) (same_words xs xs) (eqb_refl x) (words_same xs)

module _ (owners marks : List ℕ) where
  pub marks_ok_is : T (marks_ok owners marks) → marks ≡ marks_of owners
  unfolding marks_ok
  marks_ok_is t = same_words_law marks (marks_of owners) t

  pub is_marks_ok : marks ≡ marks_of owners → T (marks_ok owners marks)
  unfolding marks_ok
  is_marks_ok e = rw e (words_same (marks_of owners))

pub length_marks_of : (owners : List ℕ) → length (marks_of owners) ≡ mark_words
unfolding marks_of
length_marks_of owners = refl

-- ---- the mark of one slot, and a word's lowest digit

pub mark_free : mark_of 0 ≡ 0
unfolding mark_of
mark_free = refl

pub mark_used : (y : ℕ) → y ≢ 0 → mark_of y ≡ 1
unfolding mark_of
mark_used y d = rw (ne_eqb y 0 d)

pub mark_most : (y : ℕ) → mark_of y ≤ 1
unfolding mark_of
mark_most y = by_equal y 0 (λ b. cond b 0 1 ≤ 1) (λ e. omega arith) (λ d. omega arith)

pub low_digit : (m u : ℕ) → u ≤ 1 → (m * 2 + u) % 2 ≡ u
low_digit m u h = omega arith

pub high_digits : (m u : ℕ) → u ≤ 1 → (m * 2 + u) / 2 ≡ m
high_digits m u h = omega arith

pub word_lt : (k : ℕ) (xs : List ℕ) → length xs ≤ k → word_of xs < 2 ^ k
unfolding word_of
word_lt zero [] h = omega arith
word_lt zero (y ∷ ys) h = absurd (omega arith)
word_lt (suc k) [] h = pow_pos (suc k)
word_lt (suc k) (y ∷ ys) h = omega (arith, pow-suc 2 k, word_lt k ys (omega arith), mark_most y)

take_zeros : (k n : ℕ) → word_of (take k (zeros n)) ≡ 0
unfolding word_of zeros
take_zeros zero n = refl
take_zeros (suc k) zero = refl
take_zeros (suc k) (suc n) = omega (arith, take_zeros k n, mark_free)

drop_zeros : (k n : ℕ) → word_of (drop k (zeros n)) ≡ 0
unfolding word_of zeros
drop_zeros zero zero = refl
drop_zeros zero (suc n) = omega (arith, drop_zeros zero n, mark_free)
drop_zeros (suc k) zero = refl
drop_zeros (suc k) (suc n) = drop_zeros k n

-- "Fresh writes both words 0"
pub marks_zeros : (n : ℕ) → marks_of (zeros n) ≡ zeros mark_words
unfolding marks_of zeros
marks_zeros n = rw (take_zeros word_slots n, drop_zeros word_slots n)

-- ---- the ones of a word are its mapped slots

no_ones : ones 0 ≡ 0
unfolding ones
no_ones = refl

free_or_marked : (y n : ℕ) → cond (eqb y 0) 1 0 + n + mark_of y ≡ n + 1
unfolding mark_of
free_or_marked y n = by_equal y 0 (λ b. cond b 1 0 + n + cond b 0 1 ≡ n + 1) (λ e. omega arith) (λ d. omega arith)

pub ones_word : (xs : List ℕ) → ones (word_of xs) + free xs ≡ length xs
unfolding word_of free
ones_word [] = omega (arith, no_ones)
ones_word (y ∷ ys) =
    let s : ones (word_of ys * 2 + mark_of y) ≡ mark_of y + ones (word_of ys) =
    ones_step (word_of ys * 2 + mark_of y) ∙ rw (low_digit (word_of ys) (mark_of y) (mark_most y), high_digits (word_of ys) (mark_of y) (mark_most y)) in
    omega (arith, s, free_or_marked y (free ys), ones_word ys)

free_parts : (n : ℕ) (xs : List ℕ) → free (take n xs) + free (drop n xs) ≡ free xs
unfolding free
free_parts zero xs = omega arith
free_parts (suc n) [] = refl
free_parts (suc n) (y ∷ ys) = omega (arith, free_parts n ys)

-- "the free count is read off the marks": what is not marked is free
pub marked_free : (owners : List ℕ) → marked (marks_of owners) + free owners ≡ length owners
unfolding marks_of marked
marked_free owners =
    omega (arith, ones_word (take word_slots owners), ones_word (drop word_slots owners), free_parts word_slots owners, length-take word_slots owners, length-drop word_slots owners)

-- ---- the ones at the low end of a word reach to its lowest free slot

flipped_low : (p m u : ℕ) → m < p → u ≤ 1 → (p * 2 - 1 - (m * 2 + u)) % 2 ≡ 1 - u
flipped_low p m u h l = omega arith

flipped_high : (p m u : ℕ) → m < p → u ≤ 1 → (p * 2 - 1 - (m * 2 + u)) / 2 ≡ p - 1 - m
flipped_high p m u h l = omega arith

full_low : (p : ℕ) → 0 < p → (p * 2 - 1 - 0) % 2 ≡ 1
full_low p h = omega arith

under_mark : (y t n : ℕ) → t ≡ n → under (1 - mark_of y) t ≡ cond (eqb y 0) 0 (suc n)
unfolding mark_of
under_mark y t n e = by_equal y 0 (λ b. under (1 - cond b 0 1) t ≡ cond b 0 (suc n)) (λ _. refl) (λ _. ap suc e)

pub low_ones : (k : ℕ) (xs : List ℕ) → length xs ≤ k → count_trailing_zeros k (2 ^ k - 1 - word_of xs) ≡ place 0 xs
unfolding count_trailing_zeros word_of place
low_ones zero [] h = refl
low_ones zero (y ∷ ys) h = absurd (omega arith)
low_ones (suc k) [] h = rw (pow-suc 2 k, full_low (2 ^ k) (pow_pos k))
low_ones (suc k) (y ∷ ys) h =
    let w = word_lt k ys (omega arith) in
    rw (pow-suc 2 k, flipped_low (2 ^ k) (word_of ys) (mark_of y) w (mark_most y), flipped_high (2 ^ k) (word_of ys) (mark_of y) w (mark_most y))
    (under_mark y (count_trailing_zeros k (2 ^ k - 1 - word_of ys)) (place 0 ys) (low_ones k ys (omega arith)))

-- the first slot with a number is in the first part, or that part has none and it is behind it
place_within : (x n : ℕ) (xs : List ℕ) → place x (take n xs) ≢ n → place x xs ≡ place x (take n xs)
unfolding place
place_within x zero xs d = absurd (d refl)
place_within x (suc n) [] d = refl
place_within x (suc n) (y ∷ ys) d =
    by_equal y x (λ b. cond b 0 (suc (place x (take n ys))) ≢ suc n → cond b 0 (suc (place x ys)) ≡ cond b 0 (suc (place x (take n ys))))
    (λ _ _. refl) (λ _ u. ap suc (place_within x n ys (λ e. u (ap suc e)))) d

place_behind : (x n : ℕ) (xs : List ℕ) → place x (take n xs) ≡ n → place x xs ≡ n + place x (drop n xs)
unfolding place
place_behind x zero xs e = omega arith
place_behind x (suc n) [] e = absurd (omega arith)
place_behind x (suc n) (y ∷ ys) e =
    by_equal y x (λ b. cond b 0 (suc (place x (take n ys))) ≡ suc n → cond b 0 (suc (place x ys)) ≡ suc n + place x (drop n ys))
    (λ _ u. absurd (omega arith)) (λ _ u. let q = place_behind x n ys (omega arith) in omega arith) e

whole_or_part : (t : ℕ) → cond (eqb t word_slots) (word_slots + 0) t ≡ t
whole_or_part t = by_equal t word_slots (λ b. cond b (word_slots + 0) t ≡ t) (λ e. sym e) (λ _. refl)

-- "and so is the lowest free slot"
pub lowest_free : (owners : List ℕ) → length owners ≤ mark_words * word_slots → lowest (marks_of owners) ≡ place 0 owners
unfolding marks_of lowest trailing_ones
lowest_free owners h =
    let t = take word_slots owners in
    let d = drop word_slots owners in
    rw (low_ones word_slots t (omega (arith, length-take word_slots owners)), low_ones word_slots d (omega (arith, length-drop word_slots owners)), whole_or_part (place 0 d))
    (by_equal (place 0 t) word_slots (λ b. cond b (word_slots + place 0 d) (place 0 t) ≡ place 0 owners)
    (λ e. sym (place_behind 0 word_slots owners e)) (λ e. sym (place_within 0 word_slots owners e)))

-- ---- a bit that is set or cleared

bit_low : (n : ℕ) → 2 ^ suc n % 2 ≡ 0
bit_low n = omega (arith, pow-suc 2 n)

bit_high : (n : ℕ) → 2 ^ suc n / 2 ≡ 2 ^ n
bit_high n = omega (arith, pow-suc 2 n)

-- or with a bit, digit by digit: the lowest, or one above it
or_first : (m u : ℕ) → u ≤ 1 → bit_or (m * 2 + u) (2 ^ 0) ≡ m * 2 + 1
or_first m u h =
    or_step (m * 2 + u) 1 ∙ rw (low_digit m u h, high_digits m u h, or_zero_r m) (max_one u h)
  where
    max_one : (u : ℕ) → u ≤ 1 → m * 2 + max u 1 ≡ m * 2 + 1
    max_one zero h = refl
    max_one (suc zero) h = refl
    max_one (suc (suc u)) h = absurd (omega arith)

or_above : (m u n : ℕ) → u ≤ 1 → bit_or (m * 2 + u) (2 ^ suc n) ≡ bit_or m (2 ^ n) * 2 + u
or_above m u n h =
    or_step (m * 2 + u) (2 ^ suc n) ∙ rw (low_digit m u h, high_digits m u h, bit_low n, bit_high n, max-zero u)

-- the mark of a slot that takes a block
pub word_set : (xs : List ℕ) (j x : ℕ) → j < length xs → x ≢ 0 → bit_or (word_of xs) (2 ^ j) ≡ word_of (set xs j x)
unfolding word_of
word_set [] j x h d = absurd (omega arith)
word_set (y ∷ ys) zero x h d = or_first (word_of ys) (mark_of y) (mark_most y) ∙ rw (mark_used x d)
word_set (y ∷ ys) (suc j) x h d = or_above (word_of ys) (mark_of y) j (mark_most y) ∙ rw (word_set ys j x (omega arith) d)

-- and of one that is passed after the slots before it
pub word_used : (xs : List ℕ) (n : ℕ) → n < length xs → get_or xs n 0 ≢ 0 → word_of (take (suc n) xs) ≡ bit_or (word_of (take n xs)) (2 ^ n)
unfolding word_of
word_used [] n h d = absurd (omega arith)
word_used (y ∷ ys) zero h d = rw (mark_used y d, or_zero_l 1)
word_used (y ∷ ys) (suc n) h d = rw (word_used ys n (omega arith) d) (sym (or_above (word_of (take n ys)) (mark_of y) n (mark_most y)))

pub word_unused : (xs : List ℕ) (n : ℕ) → get_or xs n 0 ≡ 0 → word_of (take (suc n) xs) ≡ word_of (take n xs)
unfolding word_of
word_unused [] zero e = refl
word_unused [] (suc n) e = refl
word_unused (y ∷ ys) zero e = rw (e, mark_free)
word_unused (y ∷ ys) (suc n) e = rw (word_unused ys n e)

-- all bits of k but one
but_first_low : (p : ℕ) → 0 < p → (p * 2 - 1 - 1) % 2 ≡ 0
but_first_low p h = omega arith

but_first_high : (p : ℕ) → 0 < p → (p * 2 - 1 - 1) / 2 ≡ p - 1
but_first_high p h = omega arith

but_above_low : (p q : ℕ) → q < p → (p * 2 - 1 - q * 2) % 2 ≡ 1
but_above_low p q h = omega arith

but_above_high : (p q : ℕ) → q < p → (p * 2 - 1 - q * 2) / 2 ≡ p - 1 - q
but_above_high p q h = omega arith

-- the mark of a slot that is freed
pub word_clear : (k : ℕ) (xs : List ℕ) (j : ℕ) → length xs ≤ k → j < length xs → bit_and (word_of xs) (2 ^ k - 1 - 2 ^ j) ≡ word_of (set xs j 0)
unfolding word_of
word_clear k [] j l h = absurd (omega arith)
word_clear zero (y ∷ ys) j l h = absurd (omega arith)
word_clear (suc k) (y ∷ ys) zero l h =
    and_step (word_of ys * 2 + mark_of y) (2 ^ suc k - 1 - 1)
    ∙ rw (pow-suc 2 k, low_digit (word_of ys) (mark_of y) (mark_most y), high_digits (word_of ys) (mark_of y) (mark_most y), but_first_low (2 ^ k) (pow_pos k), but_first_high (2 ^ k) (pow_pos k), and_mask (word_of ys) k, mod-eq_of_lt (word_lt k ys (omega arith)), min-zero (mark_of y), mark_free)
word_clear (suc k) (y ∷ ys) (suc j) l h =
    let q : 2 ^ j < 2 ^ k = pow-lt (omega arith) in
    and_step (word_of ys * 2 + mark_of y) (2 ^ suc k - 1 - 2 ^ suc j)
    ∙ rw (pow-suc 2 k, pow-suc 2 j, low_digit (word_of ys) (mark_of y) (mark_most y), high_digits (word_of ys) (mark_of y) (mark_most y), but_above_low (2 ^ k) (2 ^ j) q, but_above_high (2 ^ k) (2 ^ j) q, word_clear k ys j (omega arith) (omega arith))
    (min_one (mark_of y) (mark_most y))
  where
    min_one : (u : ℕ) → u ≤ 1 → word_of (set ys j 0) * 2 + min u 1 ≡ word_of (set ys j 0) * 2 + u
    min_one zero h = refl
    min_one (suc zero) h = refl
    min_one (suc (suc u)) h = absurd (omega arith)
