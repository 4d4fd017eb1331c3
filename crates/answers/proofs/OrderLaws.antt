-- Laws of an order of tests, at the store's answers.
-- Assumes nothing.
use mathlib.Core.Path.{◌≡◌, refl}
use mathlib.Core.Bool.{Bool, true, false, true≢false}
use mathlib.Core.List.{List, [], ◌∷◌, ◌++◌, map}
use Prim.Native.Nat.{ℕ}
use lib.Dec.{T}
use Rattle.fields.specs.Bits.{Bits}
use Rattle.order.specs.Order.{OneGood}
use Rattle.order.proofs.OrderLaws as Laws
use Rattle.answers.specs.declared.Answer.{Answer}
use Rattle.answers.specs.declared.Answer.TheVariants.{Good, Refused, Conflict, Unusable, Short}
use Rattle.answers.specs.Answers.{not_listed, invalid_field, out_of_range, list_length, list_field, no_place, other_type, no_room, codes_of, number_of}
use Rattle.answers.specs.Order.{Row, ◌if◌, refuses, first, next, if_good, refusing, refusing_by}

good_alone : (a : Answer) → refuses a ≡ false → a ≡ Good
unfolding refuses
good_alone Good e = refl
good_alone (Refused s) e = absurd (true≢false e)
good_alone Conflict e = absurd (true≢false e)
good_alone Unusable e = absurd (true≢false e)
good_alone Short e = absurd (true≢false e)

-- GOOD is the one answer that does not refuse
pub one_good : OneGood Good refuses
unfolding refuses
one_good = record { passes = refl; alone = good_alone }

-- ---- one row

module _ (a : Answer) (b : Bool) (rows : List Row) where
  pub row_pass : b ≡ false → first (a if b ∷ rows) ≡ first rows
  row_pass = Laws.row_pass Good a b rows

  pub row_stop : b ≡ true → first (a if b ∷ rows) ≡ a
  row_stop = Laws.row_stop Good a b rows

  -- where no row stops, each fails
  pub row_fails : T (refuses a) → first (a if b ∷ rows) ≡ Good → b ≡ false
  row_fails = Laws.row_fails one_good a b rows

  pub rows_after : T (refuses a) → first (a if b ∷ rows) ≡ Good → first rows ≡ Good
  rows_after = Laws.rows_after one_good a b rows

pub row_end : first [] ≡ Good
row_end = Laws.row_end Good

-- ---- one order after another

pub next_good : (b : Answer) → next Good b ≡ b
next_good = Laws.next_good one_good

pub next_after : (a b : Answer) → a ≡ Good → next a b ≡ b
next_after = Laws.next_after one_good

pub next_refuses : (a b : Answer) → T (refuses a) → next a b ≡ a
next_refuses = Laws.next_refuses refuses

-- a later refusal is one of the whole
pub next_refused : (a b : Answer) → T (refuses b) → T (refuses (next a b))
next_refused = Laws.next_refused refuses

pub next_end : (a : Answer) → next a Good ≡ a
next_end = Laws.next_end one_good

-- both are GOOD where the whole is
pub next_first : (a b : Answer) → next a b ≡ Good → a ≡ Good
next_first = Laws.next_first one_good

pub next_second : (a b : Answer) → next a b ≡ Good → b ≡ Good
next_second = Laws.next_second one_good

pub next_next : (a b c : Answer) → next (next a b) c ≡ next a (next b c)
next_next = Laws.next_next refuses

pub refusing_append : (xs ys : List Row) → T (refusing xs) → T (refusing ys) → T (refusing (xs ++ ys))
refusing_append = Laws.refusing_append refuses

-- rows one after another are one order after another
pub first_append : (xs ys : List Row) → T (refusing xs) → first (xs ++ ys) ≡ next (first xs) (first ys)
first_append = Laws.first_append one_good

-- ---- a rule of answers

module _ (P : Answer → Bool) where
  pub first_obeys : (rows : List Row) → T (P Good) → T (refusing_by P rows) → T (P (first rows))
  first_obeys = Laws.first_obeys P Good

  pub next_obeys : (a b : Answer) → T (P a) → T (P b) → T (P (next a b))
  next_obeys = Laws.next_obeys P refuses

-- ---- what is done, and what is kept

module _ {A : Type 0} where
  pub if_good_law : (a : Answer) (done kept : A) → a ≡ Good → if_good a done kept ≡ done
  if_good_law = Laws.if_good_law one_good

  pub if_refused : (a : Answer) (done kept : A) → T (refuses a) → if_good a done kept ≡ kept
  if_refused = Laws.if_refused refuses

  pub if_same : (a : Answer) (x : A) → if_good a x x ≡ x
  if_same = Laws.if_same refuses

-- no answer refuses and is GOOD
pub not_good : {X : Type 0} (a : Answer) → T (refuses a) → a ≡ Good → X
not_good = Laws.not_good one_good

-- an answer is GOOD, or refuses
pub good_cases : {X : Type 0} (a : Answer) → (a ≡ Good → X) → (T (refuses a) → X) → X
good_cases = Laws.good_cases one_good

-- ---- the eight refusals have the numbers 1 to 8, whatever they tell

pub numbers_told : (b : Bits) (address : ℕ) →
    map number_of (not_listed ∷ invalid_field b ∷ out_of_range address ∷ list_length ∷ list_field b ∷ no_place ∷ other_type ∷ no_room address ∷ []) ≡ 1 ∷ 2 ∷ 3 ∷ 4 ∷ 5 ∷ 6 ∷ 7 ∷ 8 ∷ []
unfolding number_of codes_of
numbers_told b address = refl
