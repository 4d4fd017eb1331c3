-- A test of every type, and what it says of each; two tests that agree on every type.
-- Assumes nothing.
use mathlib.Core.Path.{◌≡◌, refl, sym, subst}
use mathlib.Core.Bool.{Bool, true, false, ◌&&◌, ◌||◌}
use mathlib.Core.List.{List, [], ◌∷◌}
use Prim.Native.Nat.{ℕ}
use lib.Dec.{T, eqb, eqb→eq}
use Rattle.fields.proofs.Tests.{and_l, and_r, by_test, both_bits, agree, agree_same}
use Rattle.rights.specs.Rights.{is_one_of}

-- the six types
abbrev pub six_types : List ℕ
six_types = 1 ∷ 3 ∷ 5 ∷ 6 ∷ 7 ∷ 8 ∷ []

-- no reservation, then the six types
abbrev pub types : List ℕ
types = 0 ∷ six_types

unfoldable pub every : (ℕ → Bool) → List ℕ → Bool
every P [] = true
every P (x ∷ xs) = P x && every P xs

pub every_one : (P : ℕ → Bool) (k : ℕ) (ks : List ℕ) → T (every P ks) → T (is_one_of k ks) → T (P k)
unfolding every is_one_of
every_one P k [] s t = absurd t
every_one P k (x ∷ xs) s t =
    by_test (eqb k x) (λ b. eqb k x ≡ b → T (b || is_one_of k xs) → T (P k))
    (λ h e _. subst (λ (y : ℕ). T (P y)) (sym (eqb→eq k x h)) (and_l (P x) (every P xs) s))
    (λ _ _ u. every_one P k xs (and_r (P x) (every P xs) s) u) refl t

-- two tests of the type and of two facts more
module _ (F G : ℕ → Bool → Bool → Bool) where
  abbrev agrees_for : ℕ → Bool → Bool → Bool
  agrees_for kind a b = agree (F kind a b) (G kind a b)

  abbrev agrees_at : ℕ → Bool → Bool
  agrees_at kind a = agrees_for kind a true && agrees_for kind a false

  -- do they agree under a type, whatever the facts
  unfoldable pub agrees_under : ℕ → Bool
  agrees_under kind = agrees_at kind true && agrees_at kind false

  pub agree_under : (ks : List ℕ) → T (every agrees_under ks) → (kind : ℕ) (a b : Bool) → T (is_one_of kind ks) → F kind a b ≡ G kind a b
  unfolding agrees_under
  agree_under ks all kind a b t =
      agree_same _ _ (both_bits (agrees_for kind a) (both_bits (agrees_at kind) (every_one agrees_under kind ks all t) a) b)
