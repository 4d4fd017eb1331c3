-- The check of the map says what is so: `Ok` exactly where the map is valid, `Beyond` of the first slot whose number is above the capacity,
-- `Clash` of the first pair of slots that name the same block, "pairs taken by lower slot, then higher".
-- Assumes nothing.
use mathlib.Core.Path.{◌≡◌, refl, sym, ap, ap₂, ◌∙◌, subst}
use mathlib.Core.Bool.{not, ◌||◌, cond}
use mathlib.Core.List.{List, [], ◌∷◌}
use mathlib.Core.Logic.{◌≢◌}
use Prim.Native.Nat.{ℕ, zero, suc, ◌+◌, ◌≤◌, ◌<◌}
use native.Mathlib.Omega.{arith}
use native.Mathlib.Nat.{add-zero, add-suc, suc-add, zero-add}
use lib.Dec.{T, leb, ltb, T_not, leb→le, le→leb, ltb→lt, nltb→le}
use lib.ListN.{get_or}
use Rattle.fields.proofs.Tests.{and_l, and_r, both, by_test, by_equal}
use Rattle.pool.specs.Pool.{has, place}
use Rattle.pool.specs.Valid.{within, distinct, map_ok, slot, beyond_from, again_from, clash_from, checked, Check}
use Rattle.pool.specs.Faults.{FirstBeyond, Clashing, FirstClash}
use Rattle.pool.specs.declared.Slot.{Slot}
use Rattle.pool.specs.declared.Flaw.TheVariants.{Beyond, Clash}
use Rattle.std.specs.Prelude.{Ok, Err}
use Rattle.pool.proofs.Held.{at_has, place_at, place_below, place_lowest}
use Rattle.pool.proofs.Keeping.{map_ok_within, map_ok_distinct, map_ok_of, distinct_head, distinct_tail, distinct_more}

-- ---- above the capacity

pub within_at : (capacity : ℕ) (l : List ℕ) → T (within capacity l) → (i : ℕ) → get_or l i 0 ≤ capacity
unfolding within
within_at capacity [] t i = omega arith
within_at capacity (y ∷ ys) t zero = leb→le y capacity (and_l (leb y capacity) (within capacity ys) t)
within_at capacity (y ∷ ys) t (suc i) = within_at capacity ys (and_r (leb y capacity) (within capacity ys) t) i

later_beyond : (capacity y : ℕ) (ys : List ℕ) (i : ℕ) → y ≤ capacity → FirstBeyond capacity ys i → FirstBeyond capacity (y ∷ ys) (suc i)
later_beyond capacity y ys i h b = record { there = let t = b.there in omega arith; above = b.above; lowest = below }
  where
    below : (k : ℕ) → k < suc i → get_or (y ∷ ys) k 0 ≤ capacity
    below zero u = h
    below (suc k) u = b.lowest k (omega arith)

beyond_ways : (capacity j : ℕ) (l : List ℕ) (next : Check) (P : Check → Type 0) → (T (within capacity l) → P next)
    → ((i : ℕ) → FirstBeyond capacity l i → P (Err (Beyond (slot (j + i))))) → P (beyond_from capacity j l next)
unfolding within beyond_from
beyond_ways capacity j [] next P f g = f tt
beyond_ways capacity j (y ∷ ys) next P f g =
    by_test (ltb capacity y) (λ b. P (cond b (Err (Beyond (slot j))) (beyond_from capacity (suc j) ys next)))
    (λ t. subst (λ (k : ℕ). P (Err (Beyond (slot k)))) (add-zero j)
    (g 0 (record { there = omega arith; above = ltb→lt capacity y t; lowest = λ k h. absurd (omega arith) })))
    (λ t. beyond_ways capacity (suc j) ys next P (λ w. f (both (leb y capacity) (within capacity ys) (le→leb y capacity (nltb→le capacity y t)) w))
    (λ i b. subst (λ (k : ℕ). P (Err (Beyond (slot k)))) (add-suc j i ∙ sym (suc-add j i)) (g (suc i) (later_beyond capacity y ys i (nltb→le capacity y t) b))))

one_beyond : (capacity : ℕ) (owners : List ℕ) (i k : ℕ) → FirstBeyond capacity owners i → FirstBeyond capacity owners k → i ≤ k
one_beyond capacity owners i k b c =
    by_test (ltb k i) (λ q. i ≤ k)
    (λ t. let h = b.lowest k (ltb→lt k i t) in let z = c.above in absurd (omega arith)) (λ t. nltb→le k i t)

-- ---- the same block

apart_head : (y : ℕ) (ys : List ℕ) → T (not (has y ys)) → (m : ℕ) → Clashing (y ∷ ys) 0 m → ⊥
apart_head y ys n zero c = let h = c.rising in absurd (omega arith)
apart_head y ys n (suc m) c = T_not (has y ys) n (at_has y ys m (let h = c.there in omega arith) (sym c.same))

pub distinct_apart : (l : List ℕ) → T (distinct l) → (i j : ℕ) → Clashing l i j → ⊥
distinct_apart [] t i j c = let h = c.there in absurd (omega arith)
distinct_apart (y ∷ ys) t i zero c = let h = c.rising in absurd (omega arith)
distinct_apart (y ∷ ys) t zero (suc j) c = apart_head y ys (distinct_head y ys t c.used) (suc j) c
distinct_apart (y ∷ ys) t (suc i) (suc j) c =
    distinct_apart ys (distinct_tail y ys t) i j
    (record { rising = let h = c.rising in omega arith; there = let h = c.there in omega arith; same = c.same; used = c.used })

-- the first pair of what follows, where slot 0 is in none
later_clash : (y : ℕ) (ys : List ℕ) (i j : ℕ) → ((m : ℕ) → Clashing (y ∷ ys) 0 m → ⊥) → FirstClash ys i j → FirstClash (y ∷ ys) (suc i) (suc j)
later_clash y ys i j none c =
    record {
      clash = record { rising = let h = c.clash.rising in omega arith; there = let h = c.clash.there in omega arith; same = c.clash.same; used = c.clash.used };
      lower = lower;
      higher = higher;
    }
  where
    back : (k m : ℕ) → Clashing (y ∷ ys) (suc k) (suc m) → Clashing ys k m
    back k m d = record { rising = let h = d.rising in omega arith; there = let h = d.there in omega arith; same = d.same; used = d.used }

    lower : (k m : ℕ) → Clashing (y ∷ ys) k m → suc i ≤ k
    lower zero m d = absurd (none m d)
    lower (suc k) zero d = let h = d.rising in absurd (omega arith)
    lower (suc k) (suc m) d = let h = c.lower k m (back k m d) in omega arith

    higher : (m : ℕ) → Clashing (y ∷ ys) (suc i) m → suc j ≤ m
    higher zero d = let h = d.rising in absurd (omega arith)
    higher (suc m) d = let h = c.higher m (back i m d) in omega arith

-- the first pair where slot 0 is in one
clash_here : (y : ℕ) (ys : List ℕ) → y ≢ 0 → T (has y ys) → FirstClash (y ∷ ys) 0 (suc (place y ys))
clash_here y ys d t =
    record {
      clash = record { rising = omega arith; there = let h = place_below y ys t in omega arith; same = sym (place_at y ys t); used = d };
      lower = λ k m c. omega arith;
      higher = higher;
    }
  where
    higher : (m : ℕ) → Clashing (y ∷ ys) 0 m → suc (place y ys) ≤ m
    higher zero c = let h = c.rising in absurd (omega arith)
    higher (suc m) c =
        by_test (ltb m (place y ys)) (λ q. suc (place y ys) ≤ suc m)
        (λ u. absurd (place_lowest y ys m (ltb→lt m (place y ys) u) (sym c.same))) (λ u. let h = nltb→le m (place y ys) u in omega arith)

moved : (P : Check → Type 0) (i i' j j' : ℕ) → i ≡ i' → j ≡ j' → P (Err (Clash (slot i) (slot j))) → P (Err (Clash (slot i') (slot j')))
moved P i i' j j' d e h = subst P (ap₂ (λ (k m : ℕ). Err (Clash (slot k) (slot m))) d e) h

again_ways : (i y j : ℕ) (l : List ℕ) (next : Check) (P : Check → Type 0) → (T (not (has y l)) → P next)
    → (T (has y l) → P (Err (Clash (slot i) (slot (j + place y l))))) → P (again_from i y j l next)
unfolding has place again_from
again_ways i y j [] next P f g = f tt
again_ways i y j (z ∷ zs) next P f g =
    by_equal z y
    (λ b. (T (not (b || has y zs)) → P next) → (T (b || has y zs) → P (Err (Clash (slot i) (slot (j + cond b 0 (suc (place y zs)))))))
    → P (cond b (Err (Clash (slot i) (slot j))) (again_from i y (suc j) zs next)))
    (λ e f' g'. moved P i i (j + 0) j refl (add-zero j) (g' tt))
    (λ d f' g'. again_ways i y (suc j) zs next P f' (λ t. moved P i i (j + suc (place y zs)) (suc j + place y zs) refl (add-suc j _ ∙ sym (suc-add j _)) (g' t)))
    f g

clash_ways : (j : ℕ) (l : List ℕ) (P : Check → Type 0) → (T (distinct l) → P (Ok tt))
    → ((i m : ℕ) → FirstClash l i m → P (Err (Clash (slot (j + i)) (slot (j + m))))) → P (clash_from j l)
unfolding clash_from distinct
clash_ways j [] P f g = f tt
clash_ways j (y ∷ ys) P f g =
    let rest : ((m : ℕ) → Clashing (y ∷ ys) 0 m → ⊥) → (y ≢ 0 → T (not (has y ys))) → P (clash_from (suc j) ys) =
    λ none apart. clash_ways (suc j) ys P (λ t. f (distinct_more y ys apart t))
    (λ i m c. moved P (j + suc i) (suc j + i) (j + suc m) (suc j + m) (add-suc j i ∙ sym (suc-add j i)) (add-suc j m ∙ sym (suc-add j m))
    (g (suc i) (suc m) (later_clash y ys i m none c))) in
    by_equal y 0 (λ b. P (cond b (clash_from (suc j) ys) (again_from j y (suc j) ys (clash_from (suc j) ys))))
    (λ e. rest (λ m c. c.used e) (λ d. absurd (d e)))
    (λ d. again_ways j y (suc j) ys (clash_from (suc j) ys) P
    (λ n. rest (λ m c. apart_head y ys n m c) (λ u. n))
    (λ t. moved P (j + 0) j (j + suc (place y ys)) (suc j + place y ys) (add-zero j) (add-suc j _ ∙ sym (suc-add j _))
    (g 0 (suc (place y ys)) (clash_here y ys d t))))

-- ---- the whole check

-- three ways: what is said of the answer is so where the map is valid, where a slot is the first above the capacity, and where two are the first that clash
pub checked_ways : (capacity : ℕ) (owners : List ℕ) (P : Check → Type 0) → (T (map_ok capacity owners) → P (Ok tt))
    → ((i : ℕ) → FirstBeyond capacity owners i → P (Err (Beyond (slot i))))
    → ((i j : ℕ) → T (within capacity owners) → FirstClash owners i j → P (Err (Clash (slot i) (slot j)))) → P (checked capacity owners)
unfolding checked
checked_ways capacity owners P valid beyond clash =
    beyond_ways capacity 0 owners (clash_from 0 owners) P
    (λ w. clash_ways 0 owners P (λ t. valid (map_ok_of capacity owners w t))
    (λ i j c. moved P i (0 + i) j (0 + j) (sym (zero-add i)) (sym (zero-add j)) (clash i j w c)))
    (λ i b. subst (λ (k : ℕ). P (Err (Beyond (slot k)))) (sym (zero-add i)) (beyond i b))

module _ (capacity : ℕ) (owners : List ℕ) where
  not_beyond : T (within capacity owners) → (i : ℕ) → FirstBeyond capacity owners i → ⊥
  not_beyond w i b = let h = within_at capacity owners w i in let z = b.above in absurd (omega arith)

  pub checked_valid : checked capacity owners ≡ Ok tt → T (map_ok capacity owners)
  checked_valid =
      checked_ways capacity owners (λ r. r ≡ Ok tt → T (map_ok capacity owners)) (λ t e. t)
      (λ i b e. let z : ◌≡◌ {A = ℕ} 0 1 = cc in absurd (omega arith)) (λ i j w c e. let z : ◌≡◌ {A = ℕ} 0 1 = cc in absurd (omega arith))

  pub valid_checked : T (map_ok capacity owners) → checked capacity owners ≡ Ok tt
  valid_checked t =
      checked_ways capacity owners (λ r. r ≡ Ok tt) (λ s. refl) (λ i b. absurd (not_beyond (map_ok_within capacity owners t) i b))
      (λ i j w c. absurd (distinct_apart owners (map_ok_distinct capacity owners t) i j c.clash))

  pub checked_beyond : (i : ℕ) → checked capacity owners ≡ Err (Beyond (slot i)) → FirstBeyond capacity owners i
  checked_beyond i =
      checked_ways capacity owners (λ r. r ≡ Err (Beyond (slot i)) → FirstBeyond capacity owners i)
      (λ t e. let z : ◌≡◌ {A = ℕ} 0 1 = cc in absurd (omega arith)) (λ k b e. let z : slot k ≡ slot i = cc in subst (λ (s : Slot). FirstBeyond capacity owners s.0) z b)
      (λ k j w c e. let z : ◌≡◌ {A = ℕ} 0 1 = cc in absurd (omega arith))

  pub beyond_checked : (i : ℕ) → FirstBeyond capacity owners i → checked capacity owners ≡ Err (Beyond (slot i))
  beyond_checked i b =
      checked_ways capacity owners (λ r. r ≡ Err (Beyond (slot i))) (λ t. absurd (not_beyond (map_ok_within capacity owners t) i b))
      (λ k c. let x = one_beyond capacity owners i k b c in let y = one_beyond capacity owners k i c b in
      let z : k ≡ i = omega arith in ap (λ (m : ℕ). Err (Beyond (slot m))) z) (λ k j w c. absurd (not_beyond w i b))

  pub checked_clash : (i j : ℕ) → checked capacity owners ≡ Err (Clash (slot i) (slot j)) → FirstClash owners i j
  checked_clash i j =
      checked_ways capacity owners (λ r. r ≡ Err (Clash (slot i) (slot j)) → FirstClash owners i j)
      (λ t e. let z : ◌≡◌ {A = ℕ} 0 1 = cc in absurd (omega arith)) (λ k b e. let z : ◌≡◌ {A = ℕ} 0 1 = cc in absurd (omega arith))
      (λ k m w c e. let x : slot k ≡ slot i = cc in let y : slot m ≡ slot j = cc in
      subst (λ (s : Slot). FirstClash owners s.0 j) x (subst (λ (s : Slot). FirstClash owners k s.0) y c))

  -- a pair is named only where no slot is above the capacity
  pub clash_within : (i j : ℕ) → checked capacity owners ≡ Err (Clash (slot i) (slot j)) → T (within capacity owners)
  clash_within i j =
      checked_ways capacity owners (λ r. r ≡ Err (Clash (slot i) (slot j)) → T (within capacity owners)) (λ t e. map_ok_within capacity owners t)
      (λ k b e. let z : ◌≡◌ {A = ℕ} 0 1 = cc in absurd (omega arith)) (λ k m w c e. w)

  pub clash_checked : (i j : ℕ) → T (within capacity owners) → FirstClash owners i j → checked capacity owners ≡ Err (Clash (slot i) (slot j))
  clash_checked i j w c =
      checked_ways capacity owners (λ r. r ≡ Err (Clash (slot i) (slot j)))
      (λ t. absurd (distinct_apart owners (map_ok_distinct capacity owners t) i j c.clash)) (λ k b. absurd (not_beyond w k b))
      (λ k m v d. let x = c.lower k m d.clash in let y = d.lower i j c.clash in let e : k ≡ i = omega arith in
      let u = d.higher j (subst (λ (n : ℕ). Clashing owners n j) (sym e) c.clash) in
      let t = c.higher m (subst (λ (n : ℕ). Clashing owners n m) e d.clash) in
      let f : m ≡ j = omega arith in ap₂ (λ (n o : ℕ). Err (Clash (slot n) (slot o))) e f)
