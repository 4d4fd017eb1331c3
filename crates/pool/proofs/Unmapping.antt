-- What unmapping does to the owners: which blocks are mapped after it, where they are, how many slots get free.
-- An owner number x names none of the n blocks from a on where `a < x → a + n < x`.
-- Assumes nothing.
use mathlib.Core.Path.{◌≡◌, refl, ap}
use mathlib.Core.Bool.{Bool, true, false, not, ◌||◌, cond}
use mathlib.Core.List.{List, [], ◌∷◌, map}
use mathlib.Core.Logic.{◌≢◌}
use Prim.Native.Nat.{ℕ, zero, suc, ◌+◌, ◌≤◌, ◌<◌}
use native.Mathlib.Omega.{arith}
use borrow.Author.Tests.{ne_eqb}
use lib.Dec.{T, eqb}
use lib.ListN.{length}
use Rattle.fields.proofs.Tests.{by_equal, T_false}
use Rattle.pool.specs.Pool.{place, has, mapped, free, unmapped, freed, unmap_owners}
use Rattle.pool.specs.Valid.{distinct}
use Rattle.pool.proofs.Held.{freed_ways}
use Rattle.pool.proofs.Keeping.{distinct_head, distinct_tail}

-- ---- owner numbers

pub has_unmap_in : (a n x : ℕ) (l : List ℕ) → a < x → x ≤ a + n → has x (map (freed a n) l) ≡ false
unfolding has
has_unmap_in a n x [] h k = refl
has_unmap_in a n x (y ∷ ys) h k =
    freed_ways a n y (λ z. (eqb z x || has x (map (freed a n) ys)) ≡ false)
    (λ u v. rw (ne_eqb 0 x (omega arith)) (has_unmap_in a n x ys h k))
    (λ out. rw (ne_eqb y x (λ e. let z = out (omega arith) in absurd (omega arith))) (has_unmap_in a n x ys h k))

pub has_unmap_out : (a n x : ℕ) (l : List ℕ) → x ≢ 0 → (a < x → a + n < x) → has x (map (freed a n) l) ≡ has x l
unfolding has
has_unmap_out a n x [] d out = refl
has_unmap_out a n x (y ∷ ys) d out =
    freed_ways a n y (λ z. (eqb z x || has x (map (freed a n) ys)) ≡ (eqb y x || has x ys))
    (λ u v. rw (ne_eqb 0 x (omega arith), ne_eqb y x (λ e. let z = out (omega arith) in absurd (omega arith))) (has_unmap_out a n x ys d out))
    (λ u. ap (λ (q : Bool). eqb y x || q) (has_unmap_out a n x ys d out))

pub place_unmap_out : (a n x : ℕ) (l : List ℕ) → x ≢ 0 → (a < x → a + n < x) → place x (map (freed a n) l) ≡ place x l
unfolding place
place_unmap_out a n x [] d out = refl
place_unmap_out a n x (y ∷ ys) d out =
    freed_ways a n y (λ z. cond (eqb z x) 0 (suc (place x (map (freed a n) ys))) ≡ cond (eqb y x) 0 (suc (place x ys)))
    (λ u v. rw (ne_eqb 0 x (omega arith), ne_eqb y x (λ e. let z = out (omega arith) in absurd (omega arith))) (ap suc (place_unmap_out a n x ys d out)))
    (λ u. ap (λ (i : ℕ). cond (eqb y x) 0 (suc i)) (place_unmap_out a n x ys d out))

-- ---- blocks

module _ (owners : List ℕ) (a n : ℕ) where
  pub mapped_unmap_in : (i : ℕ) → i < n → mapped (unmap_owners owners a n) (a + i) ≡ false
  unfolding mapped unmap_owners
  mapped_unmap_in i h = has_unmap_in a n (suc (a + i)) owners (omega arith) (omega arith)

  pub mapped_unmap_out : (b : ℕ) → (a ≤ b → a + n ≤ b) → mapped (unmap_owners owners a n) b ≡ mapped owners b
  unfolding mapped unmap_owners
  mapped_unmap_out b out = has_unmap_out a n (suc b) owners (omega arith) (λ h. let z = out (omega arith) in omega arith)

  pub place_unmapped_out : (b : ℕ) → (a ≤ b → a + n ≤ b) → place (suc b) (unmap_owners owners a n) ≡ place (suc b) owners
  unfolding unmap_owners
  place_unmapped_out b out = place_unmap_out a n (suc b) owners (omega arith) (λ h. let z = out (omega arith) in omega arith)

-- ---- free slots

unmapped_none : (a n : ℕ) → unmapped [] a n ≡ n
unfolding unmapped mapped has
unmapped_none a zero = refl
unmapped_none a (suc n) = let ih = unmapped_none (suc a) n in omega arith

-- a slot that names no block of the range does not count for it
unmapped_other : (y : ℕ) (ys : List ℕ) (a n : ℕ) → (a < y → a + n < y) → unmapped (y ∷ ys) a n ≡ unmapped ys a n
unfolding unmapped mapped has
unmapped_other y ys a zero out = refl
unmapped_other y ys a (suc n) out =
    rw (ne_eqb y (suc a) (λ e. let z = out (omega arith) in absurd (omega arith)))
    (ap (λ (m : ℕ). cond (has (suc a) ys) 0 1 + m) (unmapped_other y ys (suc a) n (λ h. let z = out (omega arith) in omega arith)))

-- one that does, and is the only one, counts once
unmapped_one : (y : ℕ) (ys : List ℕ) (a n : ℕ) → a < y → y ≤ a + n → T (not (has y ys)) → suc (unmapped (y ∷ ys) a n) ≡ unmapped ys a n
unfolding unmapped mapped has
unmapped_one y ys a zero h k t = absurd (omega arith)
unmapped_one y ys a (suc n) h k t =
    by_equal y (suc a) (λ q. suc (cond (q || has (suc a) ys) 0 1 + unmapped (y ∷ ys) (suc a) n) ≡ cond (has (suc a) ys) 0 1 + unmapped ys (suc a) n)
    (λ e. let d = unmapped_other y ys (suc a) n (λ u. absurd (omega arith)) in rw (T_false (has (suc a) ys) (rw e at t)) (omega arith))
    (λ e. let ih = unmapped_one y ys (suc a) n (omega arith) (omega arith) t in omega arith)

-- the free slots and those of the mapped blocks of the range are free after
pub free_unmap : (owners : List ℕ) (a n : ℕ) → T (distinct owners) → free (unmap_owners owners a n) + unmapped owners a n ≡ free owners + n
unfolding unmap_owners free
free_unmap [] a n t = let e = unmapped_none a n in omega arith
free_unmap (y ∷ ys) a n t =
    let ih = free_unmap ys a n (distinct_tail y ys t) in
    freed_ways a n y (λ z. cond (eqb z 0) 1 0 + free (map (freed a n) ys) + unmapped (y ∷ ys) a n ≡ cond (eqb y 0) 1 0 + free ys + n)
    (λ h k. let e = unmapped_one y ys a n h k (distinct_head y ys t (omega arith)) in rw (ne_eqb y 0 (omega arith)) (omega arith))
    (λ out. let e = unmapped_other y ys a n out in omega arith)

-- ---- no more blocks are mapped than there are slots, whether or not two of these name one block

-- a slot more maps one block more at most
unmapped_slot : (y : ℕ) (ys : List ℕ) (a n : ℕ) → unmapped ys a n ≤ suc (unmapped (y ∷ ys) a n)
unfolding unmapped mapped has
unmapped_slot y ys a zero = omega arith
unmapped_slot y ys a (suc n) =
    by_equal y (suc a) (λ q. cond (has (suc a) ys) 0 1 + unmapped ys (suc a) n ≤ suc (cond (q || has (suc a) ys) 0 1 + unmapped (y ∷ ys) (suc a) n))
    (λ e. let d = unmapped_other y ys (suc a) n (λ u. absurd (omega arith)) in let h = missing_most (has (suc a) ys) in omega arith)
    (λ e. let ih = unmapped_slot y ys (suc a) n in omega arith)
  where
    missing_most : (b : Bool) → cond b 0 1 ≤ 1
    missing_most true = omega arith
    missing_most false = omega arith

pub mapped_most : (owners : List ℕ) (a n : ℕ) → n ≤ unmapped owners a n + length owners
mapped_most [] a n = let e = unmapped_none a n in omega arith
mapped_most (y ∷ ys) a n = let ih = mapped_most ys a n in let h = unmapped_slot y ys a n in omega arith
