-- A list written from its front, one element after another: the first i are those of the new list, the others those of the old one. And the test of
-- every element so far. Assumes nothing.
use mathlib.Core.Path.{◌≡◌, refl, sym, ap, ◌∙◌}
use mathlib.Core.Bool.{Bool, true, false, ◌&&◌}
use mathlib.Core.List.{List, [], ◌∷◌, ◌++◌}
use Rattle.std.proofs.Math.Bool.{and_assoc}
use Prim.Native.Nat.{ℕ, zero, suc, ◌+◌, ◌<◌}
use native.Mathlib.Numerals.{add-one}
use native.Mathlib.Omega.{arith}
use lib.Dec.{leb}
use lib.ListN.{length, get_or, set}
use Rattle.rights.specs.declared.Rights.{Rights}
use Rattle.rights.specs.declared.Action.{Action}
use Rattle.rights.specs.Attentions.{each_ok}
use Rattle.rights.specs.Notices.{renewed, notified_from, notified}

-- ---- what is sent

module _ (a : Action) (before after : Rights) (n : ℕ) where
  -- the first i of them are told, from the nexus m on
  unfoldable pub first_told : ℕ → ℕ → List ℕ → List ℕ
  first_told m zero xs = xs
  first_told m (suc i) [] = []
  first_told m (suc i) (x ∷ xs) = renewed a before after n m x ∷ first_told (suc m) i xs

  unfoldable pub told : ℕ → List ℕ → List ℕ
  told i xs = first_told 0 i xs

  pub told_none : (xs : List ℕ) → xs ≡ told 0 xs
  unfolding told first_told
  told_none xs = refl

  first_at : (m i : ℕ) (xs : List ℕ) (d : ℕ) → get_or (first_told m i xs) i d ≡ get_or xs i d
  unfolding first_told
  first_at m zero xs d = refl
  first_at m (suc i) [] d = refl
  first_at m (suc i) (x ∷ xs) d = first_at (suc m) i xs d

  pub told_at : (i : ℕ) (xs : List ℕ) (d : ℕ) → get_or (told i xs) i d ≡ get_or xs i d
  unfolding told
  told_at i xs d = first_at 0 i xs d

  first_more : (m i : ℕ) (xs : List ℕ) (d : ℕ) → i < length xs
      → set (first_told m i xs) i (renewed a before after n (m + i) (get_or xs i d)) ≡ first_told m (suc i) xs
  unfolding first_told
  first_more m i [] d h = absurd (omega arith)
  first_more m zero (x ∷ xs) d h = ap (λ (k : ℕ). renewed a before after n k x ∷ xs) (omega arith)
  first_more m (suc i) (x ∷ xs) d h =
      ap (λ (l : List ℕ). renewed a before after n m x ∷ l)
      (ap (λ (k : ℕ). set (first_told (suc m) i xs) i (renewed a before after n k (get_or xs i d))) (omega arith) ∙ first_more (suc m) i xs d (omega arith))

  -- a turn
  pub told_more : (i : ℕ) (xs : List ℕ) (d : ℕ) → i < length xs → set (told i xs) i (renewed a before after n i (get_or xs i d)) ≡ told (i + 1) xs
  unfolding told
  told_more i xs d h =
      let e : i ≡ 0 + i = omega arith in
      ap (λ (k : ℕ). set (first_told 0 i xs) i (renewed a before after n k (get_or xs i d))) e ∙ rw add-one (first_more 0 i xs d h)

  first_all : (m : ℕ) (xs : List ℕ) → first_told m (length xs) xs ≡ notified_from a before after n m xs
  unfolding first_told notified_from
  first_all m [] = refl
  first_all m (x ∷ xs) = ap (λ (l : List ℕ). renewed a before after n m x ∷ l) (first_all (suc m) xs)

  pub told_all : (k : ℕ) (xs : List ℕ) → length xs ≡ k → told k xs ≡ notified a before after n xs
  unfolding told notified
  told_all k xs e = rw (← e) (first_all 0 xs)

-- ---- each is one that can wait

each_push : (xs : List ℕ) (x : ℕ) → each_ok (xs ++ x ∷ []) ≡ (each_ok xs && leb x 3)
unfolding each_ok
each_push [] x = go (leb x 3)
  where
    go : (b : Bool) → (b && true) ≡ b
    go true = refl
    go false = refl
each_push (y ∷ ys) x = ap (λ (b : Bool). leb y 3 && b) (each_push ys x) ∙ sym (and_assoc (leb y 3) (each_ok ys) (leb x 3))

-- one more is looked at
pub each_more : (xs : List ℕ) (x : ℕ) (old new : Bool) → old ≡ each_ok xs → new ≡ (old && leb x 3) → new ≡ each_ok (xs ++ x ∷ [])
each_more xs x old new e n = n ∙ ap (λ (b : Bool). b && leb x 3) e ∙ sym (each_push xs x)
