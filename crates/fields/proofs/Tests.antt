-- Laws of tests: `and`, `or`, `not` under T.
-- Assumes nothing.
use mathlib.Core.Path.{◌≡◌, refl, sym, subst}
use mathlib.Core.Bool.{Bool, true, false, not, ◌&&◌, ◌||◌, false≢true, true≢false}
use mathlib.Core.Logic.{◌≢◌}
use Prim.Native.Nat.{ℕ}
use borrow.Author.Tests.{eqb-true, eqb-false}
use lib.Dec.{T, eqb, eqb→eq, eqb_refl, T_not}

pub and_l : (a b : Bool) → T (a && b) → T a
and_l true b t = tt
and_l false b t = t

pub and_r : (a b : Bool) → T (a && b) → T b
and_r true b t = t
and_r false b t = absurd t

pub both : (a b : Bool) → T a → T b → T (a && b)
both true b s t = t
both false b s t = s

pub or_l : (a b : Bool) → T a → T (a || b)
or_l true b t = tt
or_l false b t = absurd t

pub or_r : (a b : Bool) → T b → T (a || b)
or_r true b t = tt
or_r false b t = t

pub or_map : (a b b' : Bool) → (T b → T b') → T (a || b) → T (a || b')
or_map true b b' f t = tt
or_map false b b' f t = f t

pub or_map² : (a a' b b' : Bool) → (T a → T a') → (T b → T b') → T (a || b) → T (a' || b')
or_map² true a' b b' f g t = or_l a' b' (f tt)
or_map² false a' b b' f g t = or_r a' b' (g t)

pub and_map : (a a' b b' : Bool) → (T a → T a') → (T b → T b') → T (a && b) → T (a' && b')
and_map true a' b b' f g t = both a' b' (f tt) (g t)
and_map false a' b b' f g t = absurd t

pub nor : (a b : Bool) → T (not a) → T (not b) → T (not (a || b))
nor true b s t = s
nor false b s t = t

pub nor_l : (a b : Bool) → T (not (a || b)) → T (not a)
nor_l true b t = t
nor_l false b t = tt

pub nor_r : (a b : Bool) → T (not (a || b)) → T (not b)
nor_r true b t = absurd t
nor_r false b t = t

pub not_map : (a b : Bool) → (T b → T a) → T (not a) → T (not b)
not_map a true f t = T_not a t (f tt)
not_map a false f t = tt

pub or_other : (a b : Bool) → T (not a) → T (a || b) → T b
or_other true b n t = absurd n
or_other false b n t = t

pub nand_rest : (a b : Bool) → T a → T (not (a && b)) → T (not b)
nand_rest true b h t = t
nand_rest false b h t = absurd h

pub not_not : (a : Bool) → T (not (not a)) → T a
not_not true t = tt
not_not false t = t

pub not_not_intro : (a : Bool) → T a → T (not (not a))
not_not_intro true t = tt
not_not_intro false t = absurd t

pub not_eqb_sym : (x y : ℕ) → T (not (eqb x y)) → T (not (eqb y x))
not_eqb_sym x y t = not_map (eqb x y) (eqb y x) (λ h. subst (λ (z : ℕ). T (eqb x z)) (sym (eqb→eq y x h)) (eqb_refl x)) t

pub true→T : (b : Bool) → b ≡ true → T b
true→T true e = tt
true→T false e = absurd (false≢true e)

pub false→T : (b : Bool) → b ≡ false → T (not b)
false→T true e = absurd (true≢false e)
false→T false e = tt

-- a test, and what it says
pub test {ℓ} : {X : Type ℓ} (b : Bool) → (T b → X) → (T (not b) → X) → X
test true f g = f tt
test false f g = g tt

-- two ways, at a test and at an equality, of what is said of the test
pub by_test : (b : Bool) (P : Bool → Type 0) → (T b → P true) → (T (not b) → P false) → P b
by_test true P f g = f tt
by_test false P f g = g tt

pub by_equal : (x y : ℕ) (P : Bool → Type 0) → (x ≡ y → P true) → (x ≢ y → P false) → P (eqb x y)
by_equal x y P f g = go (eqb x y) refl
  where
    go : (b : Bool) → eqb x y ≡ b → P b
    go true e = f (eqb-true x y e)
    go false e = g (eqb-false x y e)

pub T_true : (b : Bool) → T b → b ≡ true
T_true true t = refl
T_true false t = absurd t

pub T_false : (b : Bool) → T (not b) → b ≡ false
T_false true t = absurd t
T_false false t = refl

-- a test at both values
pub both_bits : (P : Bool → Bool) → T (P true && P false) → (b : Bool) → T (P b)
both_bits P t true = and_l (P true) (P false) t
both_bits P t false = and_r (P true) (P false) t

-- two tests that say the same
unfoldable pub agree : Bool → Bool → Bool
agree a b = elim a [ true ↦ b | false ↦ not b ]

pub agree_same : (a b : Bool) → T (agree a b) → a ≡ b
unfolding agree
agree_same true true t = refl
agree_same true false t = absurd t
agree_same false true t = absurd t
agree_same false false t = refl
