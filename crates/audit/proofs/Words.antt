-- The marks in the pass over the slots by which `sound` is proved: the word made so far has the marks of the slots passed, and the words
-- before it agree with theirs. Assumes nothing.
use mathlib.Core.Path.{◌≡◌, refl, sym, ap, ◌∙◌}
use mathlib.Core.Bool.{Bool, true, false, ◌&&◌}
use mathlib.Core.List.{List}
use mathlib.Core.Logic.{◌≢◌}
use Prim.Native.Nat.{ℕ, zero, suc, ◌+◌, ◌-◌, ◌*◌, ◌%◌, ◌<◌, ◌≤◌, min}
use native.Mathlib.Omega.{arith}
use lib.Bits.{bit_or}
use lib.ListN.{length, get_or, take, drop, length-drop}
use lib.Seq.{take_all, get_or-drop, ext_get_or}
use borrow.Author.Count.{below_more}
use Rattle.fields.proofs.Tests.{test, by_equal, T_true, T_false}
use Rattle.pool.specs.Bounds.{most_slots, word_slots, mark_words}
use Rattle.pool.specs.Marks.{word_of, marks_of, marks_ok}
use Rattle.pool.specs.Valid.{map_ok}
use Rattle.pool.proofs.Marking.{marks_ok_is, is_marks_ok, length_marks_of, word_used, word_unused}
use Rattle.marks.specs.Words.{bit_of}
use Rattle.audit.proofs.Chains.{Passed, passed_past}

-- the marks of n slots of a word
unfoldable pub marks_in : List ℕ → ℕ → ℕ → ℕ
marks_in xs word n = word_of (take n (drop (word * word_slots) xs))

-- ---- one word

-- the number has the marks of the word's slots before slot i
pub record Made (xs : List ℕ) (word i made : ℕ) : Type 0 where
  pub after : word * word_slots ≤ i
  pub within : i ≤ word * word_slots + word_slots
  pub marks : made ≡ marks_in xs word (i - word * word_slots)

pub made_none : {xs : List ℕ} {word : ℕ} → Made xs word (word * word_slots) 0
unfolding marks_in word_of
made_none {xs} {word} =
    let e : word * word_slots - word * word_slots ≡ 0 = omega arith in
    record { after = omega arith; within = omega arith; marks = rw e }

module _ {xs : List ℕ} {word i made : ℕ} (m : Made xs word i made) where
  -- slot i, counted from the word's first
  there : get_or (drop (word * word_slots) xs) (i - word * word_slots) 0 ≡ get_or xs i 0
  there =
      let e : word * word_slots + (i - word * word_slots) ≡ i = omega arith in
      get_or-drop (word * word_slots) xs (i - word * word_slots) 0 ∙ rw e

  next : i + 1 - word * word_slots ≡ suc (i - word * word_slots)
  next = omega arith

  module _ {end : ℕ} (ends : end ≡ min (word * word_slots + word_slots) (length xs)) (h : i < end) where
    -- a free slot
    pub made_free : get_or xs i 0 ≡ 0 → Made xs word (i + 1) made
    unfolding marks_in
    made_free e =
        record {
          after = omega arith;
          within = omega arith;
          marks = rw next (m.marks ∙ sym (word_unused (drop (word * word_slots) xs) (i - word * word_slots) (there ∙ e)));
        }

    -- a slot with its mark
    pub made_used : get_or xs i 0 ≢ 0 → Made xs word (i + 1) (bit_or made (bit_of i))
    unfolding marks_in
    made_used d =
        let e : i % word_slots ≡ i - word * word_slots = omega arith in
        record {
          after = omega arith;
          within = omega arith;
          marks = rw (next, e, m.marks)
              (sym (word_used (drop (word * word_slots) xs) (i - word * word_slots) (omega (arith, length-drop (word * word_slots) xs)) (λ z. d (sym there ∙ z))));
        }

  module _ {end : ℕ} (ends : end ≡ min (word * word_slots + word_slots) (length xs)) (h : end ≤ i) where
    -- all slots of the word
    pub made_all : made ≡ marks_in xs word word_slots
    unfolding marks_in
    made_all =
        let rest = drop (word * word_slots) xs in
        m.marks ∙ by_equal i (word * word_slots + word_slots) (λ b. word_of (take (i - word * word_slots) rest) ≡ word_of (take word_slots rest))
        (λ e. let n : i - word * word_slots ≡ word_slots = omega arith in rw n)
        (λ d. rw (
          take_all (i - word * word_slots) rest (omega (arith, length-drop (word * word_slots) xs)),
          take_all word_slots rest (omega (arith, length-drop (word * word_slots) xs)),
        ))

    pub made_passed : {capacity : ℕ} {last earlier : List ℕ} → Passed capacity xs last earlier i → Passed capacity xs last earlier ((word + 1) * word_slots)
    made_passed {capacity} {last} {earlier} p =
        let past : ℕ = (word + 1) * word_slots - i in
        by_equal i ((word + 1) * word_slots) (λ b. Passed capacity xs last earlier ((word + 1) * word_slots)) (λ e. rw (sym e) p)
        (λ d. let e : (word + 1) * word_slots ≡ i + past = omega arith in rw e (passed_past p (omega arith) past))

-- ---- the words

-- a word of the marks has those of its slots
word_at : (xs : List ℕ) → length xs ≤ most_slots → (k : ℕ) → k < mark_words → get_or (marks_of xs) k 0 ≡ marks_in xs k word_slots
unfolding marks_of marks_in
word_at xs few zero h = refl
word_at xs few (suc zero) h = ap word_of (sym (take_all word_slots (drop word_slots xs) (omega (arith, length-drop word_slots xs))))
word_at xs few (suc (suc k)) h = absurd (omega arith)

-- the words before this one have the marks of their slots
pub record Agreed (xs marks : List ℕ) (word : ℕ) : Type 0 where
  pub each : (k : ℕ) → k < word → get_or marks k 0 ≡ marks_in xs k word_slots

pub agreed_none : {xs marks : List ℕ} → Agreed xs marks 0
agreed_none = record { each = λ k h. absurd (omega arith) }

module _ {xs marks : List ℕ} {word : ℕ} (a : Agreed xs marks word) where
  pub agreed_more : get_or marks word 0 ≡ marks_in xs word word_slots → Agreed xs marks (word + 1)
  agreed_more e = record { each = below_more (λ (k : ℕ). get_or marks k 0 ≡ marks_in xs k word_slots) word a.each e }

  module _ (few : length xs ≤ most_slots) where
    pub agreed_all : mark_words ≤ word → length marks ≡ mark_words → marks_ok xs marks ≡ true
    agreed_all h l =
        T_true (marks_ok xs marks)
        (is_marks_ok xs marks (ext_get_or 0 marks (marks_of xs) (l ∙ sym (length_marks_of xs))
        (λ k u. a.each k (omega arith) ∙ sym (word_at xs few k (omega arith)))))

    -- a word that does not have the marks of its slots
    pub agreed_not : word < mark_words → get_or marks word 0 ≢ marks_in xs word word_slots → marks_ok xs marks ≡ false
    agreed_not h d =
        test (marks_ok xs marks)
        (λ t. absurd (d (rw (marks_ok_is xs marks t) (word_at xs few word h))))
        (λ t. T_false (marks_ok xs marks) t)

-- marks that are not two words
pub other_words : (xs marks : List ℕ) → length marks ≢ mark_words → marks_ok xs marks ≡ false
other_words xs marks d =
    test (marks_ok xs marks)
    (λ t. absurd (d (rw (marks_ok_is xs marks t) (length_marks_of xs))))
    (λ t. T_false (marks_ok xs marks) t)

-- ---- what the check answers

second_false : (a b : Bool) → b ≡ false → false ≡ (a && b)
second_false true b e = sym e
second_false false b e = refl

module _ (capacity : ℕ) (xs marks : List ℕ) where
  pub both_right : map_ok capacity xs ≡ true → marks_ok xs marks ≡ true → true ≡ (map_ok capacity xs && marks_ok xs marks)
  both_right e f = rw (e, f)

  pub map_wrong : map_ok capacity xs ≡ false → false ≡ (map_ok capacity xs && marks_ok xs marks)
  map_wrong e = rw e

  pub marks_wrong : marks_ok xs marks ≡ false → false ≡ (map_ok capacity xs && marks_ok xs marks)
  marks_wrong e = second_false (map_ok capacity xs) (marks_ok xs marks) e
