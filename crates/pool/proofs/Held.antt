-- Which slot has which owner number: laws of `place`, `has`, `free`, `fill`, `freed`.
-- Assumes nothing.
use mathlib.Core.Path.{◌≡◌, refl, sym, ap, ◌∙◌}
use mathlib.Core.Bool.{Bool, false, not, ◌&&◌, ◌||◌, cond}
use mathlib.Core.List.{List, [], ◌∷◌}
use mathlib.Core.Logic.{◌≢◌}
use Prim.Native.Nat.{ℕ, zero, suc, ◌+◌, ◌≤◌, ◌<◌}
use native.Mathlib.Omega.{arith}
use borrow.Author.Tests.{ne_eqb}
use lib.Dec.{T, eqb, leb, ltb, eqb_refl, leb→le, nleb→lt, ltb→lt, nltb→le}
use lib.ListN.{length, get_or, set}
use Rattle.fields.specs.Bytes.{zeros}
use Rattle.fields.proofs.Tests.{or_l, or_r, nor_l, nor_r, test, by_test, by_equal, T_true, T_false}
use Rattle.pool.specs.Pool.{place, has, free, fill, names, freed}

-- ---- places

pub place_at : (x : ℕ) (l : List ℕ) → T (has x l) → get_or l (place x l) 0 ≡ x
unfolding has place
place_at x [] t = absurd t
place_at x (y ∷ ys) t =
    by_equal y x (λ b. T (b || has x ys) → get_or (y ∷ ys) (cond b 0 (suc (place x ys))) 0 ≡ x) (λ e u. e) (λ d u. place_at x ys u) t

pub place_below : (x : ℕ) (l : List ℕ) → T (has x l) → place x l < length l
unfolding has place
place_below x [] t = absurd t
place_below x (y ∷ ys) t =
    by_equal y x (λ b. T (b || has x ys) → cond b 0 (suc (place x ys)) < suc (length ys))
    (λ e u. omega arith) (λ d u. let h = place_below x ys u in omega arith) t

pub place_none : (x : ℕ) (l : List ℕ) → T (not (has x l)) → place x l ≡ length l
unfolding has place
place_none x [] t = refl
place_none x (y ∷ ys) t =
    by_equal y x (λ b. T (not (b || has x ys)) → cond b 0 (suc (place x ys)) ≡ suc (length ys))
    (λ e u. absurd u) (λ d u. ap suc (place_none x ys u)) t

pub below_has : (x : ℕ) (l : List ℕ) → place x l < length l → T (has x l)
below_has x l h = test (has x l) (λ t. t) (λ t. let e = place_none x l t in absurd (omega arith))

pub at_has : (x : ℕ) (l : List ℕ) (i : ℕ) → i < length l → get_or l i 0 ≡ x → T (has x l)
unfolding has
at_has x [] i h e = absurd (omega arith)
at_has x (y ∷ ys) zero h e = or_l (eqb y x) (has x ys) (rw e (eqb_refl x))
at_has x (y ∷ ys) (suc i) h e = or_r (eqb y x) (has x ys) (at_has x ys i (omega arith) e)

pub place_lowest : (x : ℕ) (l : List ℕ) (i : ℕ) → i < place x l → get_or l i 0 ≢ x
unfolding place
place_lowest x [] i h = absurd (omega arith)
place_lowest x (y ∷ ys) zero h = by_equal y x (λ b. 0 < cond b 0 (suc (place x ys)) → y ≢ x) (λ e u. absurd (omega arith)) (λ d u. d) h
place_lowest x (y ∷ ys) (suc i) h =
    by_equal y x (λ b. suc i < cond b 0 (suc (place x ys)) → get_or ys i 0 ≢ x)
    (λ e u. absurd (omega arith)) (λ d u. place_lowest x ys i (omega arith)) h

-- a number that is held is in a slot of its own
pub places_apart_law : (x y : ℕ) (l : List ℕ) → x ≢ y → T (has x l) → place x l ≢ place y l
places_apart_law x y l d s e =
    test (has y l)
    (λ t. d (sym (place_at x l s) ∙ ap (λ (i : ℕ). get_or l i 0) e ∙ place_at y l t))
    (λ t. let h = place_below x l s in let z = place_none y l t in absurd (omega arith))

-- ---- the lowest free slot is filled

pub fill_set : (x : ℕ) (l : List ℕ) → fill x l ≡ set l (place 0 l) x
unfolding fill place
fill_set x [] = refl
fill_set x (y ∷ ys) =
    by_equal y 0 (λ b. cond b (x ∷ ys) (y ∷ fill x ys) ≡ set (y ∷ ys) (cond b 0 (suc (place 0 ys))) x)
    (λ e. refl) (λ d. ap (λ (l : List ℕ). y ∷ l) (fill_set x ys))

pub length_fill : (x : ℕ) (l : List ℕ) → length (fill x l) ≡ length l
unfolding fill
length_fill x [] = refl
length_fill x (y ∷ ys) =
    by_equal y 0 (λ b. length (cond b (x ∷ ys) (y ∷ fill x ys)) ≡ suc (length ys)) (λ e. refl) (λ d. ap suc (length_fill x ys))

pub has_fill : (x : ℕ) (l : List ℕ) → T (has 0 l) → T (has x (fill x l))
unfolding has fill
has_fill x [] t = absurd t
has_fill x (y ∷ ys) t =
    by_equal y 0 (λ b. T (b || has 0 ys) → T (has x (cond b (x ∷ ys) (y ∷ fill x ys))))
    (λ e u. or_l (eqb x x) (has x ys) (eqb_refl x)) (λ d u. or_r (eqb y x) (has x (fill x ys)) (has_fill x ys u)) t

pub place_fill : (x : ℕ) (l : List ℕ) → T (not (has x l)) → place x (fill x l) ≡ place 0 l
unfolding has place fill
place_fill x [] t = refl
place_fill x (y ∷ ys) t =
    by_equal y 0 (λ b. place x (cond b (x ∷ ys) (y ∷ fill x ys)) ≡ cond b 0 (suc (place 0 ys)))
    (λ e. rw (T_true (eqb x x) (eqb_refl x)))
    (λ d. rw (T_false (eqb y x) (nor_l (eqb y x) (has x ys) t)) (ap suc (place_fill x ys (nor_r (eqb y x) (has x ys) t))))

-- another number stays where it is
pub has_fill_other : (x y : ℕ) (l : List ℕ) → y ≢ x → y ≢ 0 → has y (fill x l) ≡ has y l
unfolding has fill
has_fill_other x y [] d n = refl
has_fill_other x y (z ∷ zs) d n =
    by_equal z 0 (λ b. has y (cond b (x ∷ zs) (z ∷ fill x zs)) ≡ (eqb z y || has y zs))
    (λ e. rw (ne_eqb x y (omega arith), ne_eqb z y (omega arith)))
    (λ e. ap (λ (q : Bool). eqb z y || q) (has_fill_other x y zs d n))

pub place_fill_other : (x y : ℕ) (l : List ℕ) → y ≢ x → y ≢ 0 → place y (fill x l) ≡ place y l
unfolding place fill
place_fill_other x y [] d n = refl
place_fill_other x y (z ∷ zs) d n =
    by_equal z 0 (λ b. place y (cond b (x ∷ zs) (z ∷ fill x zs)) ≡ cond (eqb z y) 0 (suc (place y zs)))
    (λ e. rw (ne_eqb x y (omega arith), ne_eqb z y (omega arith)))
    (λ e. ap (λ (i : ℕ). cond (eqb z y) 0 (suc i)) (place_fill_other x y zs d n))

-- ---- free slots

pub free_has : (l : List ℕ) → T (has 0 l) → 0 < free l
unfolding has free
free_has [] t = absurd t
free_has (y ∷ ys) t =
    by_equal y 0 (λ b. T (b || has 0 ys) → 0 < cond b 1 0 + free ys) (λ e u. omega arith) (λ d u. let h = free_has ys u in omega arith) t

pub has_free : (l : List ℕ) → 0 < free l → T (has 0 l)
unfolding has free
has_free [] h = absurd (omega arith)
has_free (y ∷ ys) h =
    by_equal y 0 (λ b. 0 < cond b 1 0 + free ys → T (b || has 0 ys)) (λ e u. tt) (λ d u. has_free ys (omega arith)) h

pub free_most : (l : List ℕ) → free l ≤ length l
unfolding free
free_most [] = omega arith
free_most (y ∷ ys) =
    by_equal y 0 (λ b. cond b 1 0 + free ys ≤ suc (length ys)) (λ e. let h = free_most ys in omega arith) (λ d. let h = free_most ys in omega arith)

pub free_fill : (x : ℕ) (l : List ℕ) → x ≢ 0 → T (has 0 l) → suc (free (fill x l)) ≡ free l
unfolding has free fill
free_fill x [] n t = absurd t
free_fill x (y ∷ ys) n t =
    by_equal y 0 (λ b. T (b || has 0 ys) → suc (free (cond b (x ∷ ys) (y ∷ fill x ys))) ≡ cond b 1 0 + free ys)
    (λ e u. rw (ne_eqb x 0 n) (omega arith))
    (λ d u. rw (ne_eqb y 0 d) (let ih = free_fill x ys n u in omega arith)) t

-- where every slot is free none has a number but 0
pub all_free : (x : ℕ) (l : List ℕ) → x ≢ 0 → free l ≡ length l → has x l ≡ false
unfolding has free
all_free x [] n e = refl
all_free x (y ∷ ys) n e =
    by_equal y 0 (λ b. cond b 1 0 + free ys ≡ suc (length ys) → (eqb y x || has x ys) ≡ false)
    (λ z u. rw (ne_eqb y x (omega arith)) (all_free x ys n (omega arith)))
    (λ z u. let h = free_most ys in absurd (omega arith)) e

pub free_zeros : (n : ℕ) → free (zeros n) ≡ n
unfolding free zeros
free_zeros zero = refl
free_zeros (suc n) = let ih = free_zeros n in omega arith

-- ---- an owner number after the n blocks from a on are unmapped: 0 where it names one of them, itself where not

pub freed_ways : (a n y : ℕ) (P : ℕ → Type 0) → (a < y → y ≤ a + n → P 0) → ((a < y → a + n < y) → P y) → P (freed a n y)
unfolding freed names
freed_ways a n zero P f g = g (λ h. absurd (omega arith))
freed_ways a n (suc b) P f g =
    by_test (leb a b) (λ q. P (cond (q && ltb b (a + n)) 0 (suc b)))
    (λ s. let h = leb→le a b s in by_test (ltb b (a + n)) (λ q. P (cond q 0 (suc b)))
    (λ t. let k = ltb→lt b (a + n) t in f (omega arith) (omega arith))
    (λ t. let k = nltb→le b (a + n) t in g (λ u. omega arith)))
    (λ s. let h = nleb→lt a b s in g (λ u. absurd (omega arith)))

-- the three ways of a number against a range
module _ (a n y : ℕ) where
  pub freed_low : y ≤ a → freed a n y ≡ y
  freed_low h = freed_ways a n y (λ z. z ≡ y) (λ u v. absurd (omega arith)) (λ u. refl)

  pub freed_in : a < y → y ≤ a + n → freed a n y ≡ 0
  freed_in h k = freed_ways a n y (λ z. z ≡ 0) (λ u v. refl) (λ u. let v = u h in absurd (omega arith))

  pub freed_high : a + n < y → freed a n y ≡ y
  freed_high k = freed_ways a n y (λ z. z ≡ y) (λ u v. absurd (omega arith)) (λ u. refl)
