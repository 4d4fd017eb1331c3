-- Laws of an order of tests: which row answers, and what follows where none does.
-- Assumes nothing.
use mathlib.Core.Path.{◌≡◌, refl, sym, subst}
use mathlib.Core.Bool.{Bool, true, false, cond}
use mathlib.Core.List.{List, [], ◌∷◌, ◌++◌}
use lib.Dec.{T}
use Rattle.fields.proofs.Tests.{both, and_l, and_r, test, by_test, T_true, T_false}
use Rattle.order.specs.Order.{Row, ◌if◌, first_of, next_by, if_good_by, refusing_by, OneGood}

-- ---- one row

module _ {A : Type 0} (good a : A) (b : Bool) (rows : List (Row A)) where
  pub row_pass : b ≡ false → first_of good (a if b ∷ rows) ≡ first_of good rows
  unfolding first_of
  row_pass e = rw e

  pub row_stop : b ≡ true → first_of good (a if b ∷ rows) ≡ a
  unfolding first_of
  row_stop e = rw e

pub row_end : {A : Type 0} (good : A) → first_of good [] ≡ good
unfolding first_of
row_end good = refl

-- ---- one order after another, and what is done or kept, of any type of answers

module _ {A : Type 0} (refuses : A → Bool) where
  pub next_refuses : (a b : A) → T (refuses a) → next_by refuses a b ≡ a
  unfolding next_by
  next_refuses a b t = rw (T_true (refuses a) t)

  pub next_passes : (a b : A) → refuses a ≡ false → next_by refuses a b ≡ b
  unfolding next_by
  next_passes a b e = rw e

  -- a later refusal is one of the whole
  pub next_refused : (a b : A) → T (refuses b) → T (refuses (next_by refuses a b))
  next_refused a b t =
      test (refuses a) (λ h. rw (next_refuses a b h) h) (λ h. rw (next_passes a b (T_false (refuses a) h)) t)

  pub next_next : (a b c : A) → next_by refuses (next_by refuses a b) c ≡ next_by refuses a (next_by refuses b c)
  unfolding next_by
  next_next a b c =
      test (refuses a)
      (λ t. rw (T_true (refuses a) t) (rw (T_true (refuses a) t)))
      (λ t. rw (T_false (refuses a) t))

  pub if_refused : {X : Type 0} (a : A) (done kept : X) → T (refuses a) → if_good_by refuses a done kept ≡ kept
  unfolding if_good_by
  if_refused a done kept t = rw (T_true (refuses a) t)

  pub if_passes : {X : Type 0} (a : A) (done kept : X) → refuses a ≡ false → if_good_by refuses a done kept ≡ done
  unfolding if_good_by
  if_passes a done kept e = rw e

  pub if_same : {X : Type 0} (a : A) (x : X) → if_good_by refuses a x x ≡ x
  unfolding if_good_by
  if_same a x = test (refuses a) (λ t. rw (T_true (refuses a) t)) (λ t. rw (T_false (refuses a) t))

  -- rows that refuse, one after another
  pub refusing_append : (xs ys : List (Row A)) → T (refusing_by refuses xs) → T (refusing_by refuses ys) → T (refusing_by refuses (xs ++ ys))
  unfolding refusing_by
  refusing_append [] ys s t = t
  refusing_append ((a if b) ∷ xs) ys s t =
      both (refuses a) (refusing_by refuses (xs ++ ys)) (and_l (refuses a) (refusing_by refuses xs) s)
      (refusing_append xs ys (and_r (refuses a) (refusing_by refuses xs) s) t)

-- ---- a rule of answers: what holds of every row, and of `good`, holds of the answer

module _ {A : Type 0} (P : A → Bool) where
  pub first_obeys : (good : A) (rows : List (Row A)) → T (P good) → T (refusing_by P rows) → T (P (first_of good rows))
  unfolding first_of refusing_by
  first_obeys good [] g t = g
  first_obeys good ((a if b) ∷ rows) g t =
      by_test b (λ x. T (P (elim x [ true ↦ a | false ↦ first_of good rows ]))) (λ _. and_l (P a) (refusing_by P rows) t)
      (λ _. first_obeys good rows g (and_r (P a) (refusing_by P rows) t))

  pub next_obeys : (refuses : A → Bool) (a b : A) → T (P a) → T (P b) → T (P (next_by refuses a b))
  unfolding next_by
  next_obeys refuses a b s t = by_test (refuses a) (λ x. T (P (cond x a b))) (λ _. s) (λ _. t)

-- ---- where one answer alone does not refuse

module _ {A : Type 0} {good : A} {refuses : A → Bool} (one : OneGood good refuses) where
  -- no answer refuses and is good
  pub not_good : {X : Type 0} (a : A) → T (refuses a) → a ≡ good → X
  not_good a t e =
      absurd (subst (λ (b : Bool). T b) one.passes (subst (λ (x : A). T (refuses x)) e t))

  -- where no row stops, each fails
  pub row_fails : (a : A) (b : Bool) (rows : List (Row A)) → T (refuses a) → first_of good (a if b ∷ rows) ≡ good → b ≡ false
  unfolding first_of
  row_fails a true rows t e = not_good a t e
  row_fails a false rows t e = refl

  pub rows_after :
      (a : A) (b : Bool) (rows : List (Row A)) → T (refuses a) → first_of good (a if b ∷ rows) ≡ good → first_of good rows ≡ good
  unfolding first_of
  rows_after a true rows t e = not_good a t e
  rows_after a false rows t e = e

  pub next_good : (b : A) → next_by refuses good b ≡ b
  next_good b = next_passes refuses good b one.passes

  pub next_after : (a b : A) → a ≡ good → next_by refuses a b ≡ b
  next_after a b e = rw e (next_good b)

  pub next_end : (a : A) → next_by refuses a good ≡ a
  next_end a =
      test (refuses a) (λ t. next_refuses refuses a good t)
      (λ t. rw (one.alone a (T_false (refuses a) t)) (next_good good))

  -- both are good where the whole is
  pub next_first : (a b : A) → next_by refuses a b ≡ good → a ≡ good
  next_first a b e =
      test (refuses a) (λ t. rw (next_refuses refuses a b t) at e) (λ t. one.alone a (T_false (refuses a) t))

  pub next_second : (a b : A) → next_by refuses a b ≡ good → b ≡ good
  next_second a b e =
      test (refuses a) (λ t. not_good a t (rw (next_refuses refuses a b t) at e))
      (λ t. rw (next_passes refuses a b (T_false (refuses a) t)) at e)

  -- rows one after another are one order after another
  pub first_append :
      (xs ys : List (Row A)) → T (refusing_by refuses xs) → first_of good (xs ++ ys) ≡ next_by refuses (first_of good xs) (first_of good ys)
  unfolding first_of refusing_by
  first_append [] ys t = sym (next_good (first_of good ys))
  first_append ((a if true) ∷ xs) ys t =
      sym (next_refuses refuses a (first_of good ys) (and_l (refuses a) (refusing_by refuses xs) t))
  first_append ((a if false) ∷ xs) ys t = first_append xs ys (and_r (refuses a) (refusing_by refuses xs) t)

  pub if_good_law : {X : Type 0} (a : A) (done kept : X) → a ≡ good → if_good_by refuses a done kept ≡ done
  if_good_law a done kept e = rw e (if_passes refuses good done kept one.passes)

  -- an answer is good, or refuses
  pub good_cases : {X : Type 0} (a : A) → (a ≡ good → X) → (T (refuses a) → X) → X
  good_cases a f g = test (refuses a) g (λ t. f (one.alone a (T_false (refuses a) t)))
