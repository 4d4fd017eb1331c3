-- Laws of the index: how one slot more, or one slot filled, changes the places of a range.
-- Assumes nothing.
use Rattle.std.proofs.Common.{◌≡◌, ℕ, zero, suc, ◌+◌, ◌-◌, ◌<◌, ◌≤◌, Bool, true, false, cond, not, T, eqb, ◌≢◌, List, [], ◌∷◌, map, length, get_or, take, drop, set, replicate, sym, refl, ap, subst, ◌∙◌, add-zero, arith, drop-cons, get_or-take, eq-eqb, ne_eqb}
use lib.Seq.{drop-length, take-set-lt}
use Rattle.std.specs.List.{count_by}
use Rattle.std.proofs.lemmas.List.Recursion.{is_count_by}
use Rattle.fields.proofs.Tests.{test, T_true, T_false}
use Rattle.pool.specs.Bounds.{most_transfer}
use Rattle.pool.specs.Pool.{place, has, mapped, unmapped, fill}
use Rattle.map.specs.Index.{places, Indexed, missing}
use Rattle.pool.proofs.Held.{place_below, place_none, place_fill, place_fill_other}

-- ---- the places of a range

pub length_places : (o : List ℕ) (a n : ℕ) → length (places o a n) ≡ n
unfolding places
length_places o a zero = refl
length_places o a (suc n) = ap suc (length_places o (suc a) n)

pub places_at : (o : List ℕ) (a n k : ℕ) → k < n → get_or (places o a n) k 0 ≡ place (suc (a + k)) o
unfolding places
places_at o a zero k h = absurd (omega arith)
places_at o a (suc n) zero h = ap (λ (x : ℕ). place (suc x) o) (sym (add-zero a))
places_at o a (suc n) (suc k) h =
    places_at o (suc a) n k (omega arith) ∙ ap (λ (x : ℕ). place (suc x) o) (omega arith)

-- ---- the places from slot i on

-- with no slot left every place is i
from_none : (i a n : ℕ) → map (λ (p : ℕ). i + p) (places [] a n) ≡ replicate n i
unfolding places place
from_none i a zero = refl
from_none i a (suc n) = rw (add-zero i, from_none i (suc a) n)

from_all : (l : List ℕ) → map (λ (p : ℕ). 0 + p) l ≡ l
from_all [] = refl
from_all (x ∷ xs) = let e : 0 + x ≡ x = omega arith in rw (e, from_all xs)

take_same : (m n x : ℕ) → m ≤ n → take m (replicate n x) ≡ replicate m x
take_same zero n x h = refl
take_same (suc m) zero x h = absurd (omega arith)
take_same (suc m) (suc n) x h = rw (take_same m n x (omega arith))

pub index_start : (o : List ℕ) (a n w : ℕ) → n ≤ w
    → take n (replicate w (length o)) ≡ map (λ (p : ℕ). length o + p) (places (drop (length o) o) a n)
index_start o a n w h = take_same n w (length o) h ∙ sym (rw (drop-length o) (from_none (length o) a n))

-- a slot that names no block of the range
from_out : (i y : ℕ) (ys : List ℕ) (a n : ℕ) → (a < y → a + n < y)
    → map (λ (p : ℕ). i + p) (places (y ∷ ys) a n) ≡ map (λ (p : ℕ). suc i + p) (places ys a n)
unfolding places place
from_out i y ys a zero h = refl
from_out i y ys a (suc n) h =
    let d : y ≢ suc a = λ e. let k : a + suc n < y = h (omega arith) in omega arith in
    let e : i + suc (place (suc a) ys) ≡ suc i + place (suc a) ys = omega arith in
    let r : suc a < y → suc a + n < y = λ k. let q : a + suc n < y = h (omega arith) in omega arith in
    rw (ne_eqb y (suc a) d, e, from_out i y ys (suc a) n r)

-- a slot that names block k of the range
from_in : (i : ℕ) (ys : List ℕ) (a n k : ℕ) → k < n
    → map (λ (p : ℕ). i + p) (places (suc (a + k) ∷ ys) a n) ≡ set (map (λ (p : ℕ). suc i + p) (places ys a n)) k i
unfolding places place
from_in i ys a zero k h = absurd (omega arith)
from_in i ys a (suc n) zero h =
    let r : suc a < suc (a + 0) → suc a + n < suc (a + 0) = λ q. omega arith in
    rw (eq-eqb (suc (a + 0)) (suc a) (omega arith), add-zero i)
    (ap (λ (l : List ℕ). i ∷ l) (from_out i (suc (a + 0)) ys (suc a) n r))
from_in i ys a (suc n) (suc k) h =
    let d : suc (a + suc k) ≢ suc a = λ e. omega arith in
    let e : i + suc (place (suc a) ys) ≡ suc i + place (suc a) ys = omega arith in
    let s : a + suc k ≡ suc a + k = omega arith in
    rw (ne_eqb (suc (a + suc k)) (suc a) d, e)
    (ap (λ (l : List ℕ). (suc i + place (suc a) ys) ∷ l)
    (subst (λ (x : ℕ). map (λ (p : ℕ). i + p) (places (suc x ∷ ys) (suc a) n) ≡ set (map (λ (p : ℕ). suc i + p) (places ys (suc a) n)) k i) (sym s) (from_in i ys (suc a) n k (omega arith))))

-- a turn of the pass over the slots, from i down
module _ (o index : List ℕ) (i a n : ℕ) (h : 0 < i) (b : i ≤ length o)
    (e : take n index ≡ map (λ (p : ℕ). i + p) (places (drop i o) a n)) where
  down : take n index ≡ map (λ (p : ℕ). suc (i - 1) + p) (places (drop (suc (i - 1)) o) a n)
  down =
      let q : i ≡ suc (i - 1) = omega arith in
      e ∙ ap (λ (k : ℕ). map (λ (p : ℕ). k + p) (places (drop k o) a n)) q

  pub index_out : (a < get_or o (i - 1) 0 → a + n < get_or o (i - 1) 0) → take n index ≡ map (λ (p : ℕ). i - 1 + p) (places (drop (i - 1) o) a n)
  index_out r =
      let q : i - 1 < length o = omega arith in
      down ∙ sym (rw (drop-cons o (i - 1) 0 q) (from_out (i - 1) (get_or o (i - 1) 0) (drop (suc (i - 1)) o) a n r))

  pub index_in : (k : ℕ) → k < n → get_or o (i - 1) 0 ≡ suc (a + k)
      → take n (set index k (i - 1)) ≡ map (λ (p : ℕ). i - 1 + p) (places (drop (i - 1) o) a n)
  index_in k m f =
      let q : i - 1 < length o = omega arith in
      take-set-lt n index k (i - 1) m ∙ ap (λ (l : List ℕ). set l k (i - 1)) down
      ∙ sym (rw (drop-cons o (i - 1) 0 q, f) (from_in (i - 1) (drop (suc (i - 1)) o) a n k m))

-- the pass is at its end
pub index_end : (o index : List ℕ) (a n : ℕ) → length index ≡ most_transfer → take n index ≡ map (λ (p : ℕ). 0 + p) (places (drop 0 o) a n)
    → Indexed o a n index
index_end o index a n w e = record { size = w; each = e ∙ from_all (places o a n) }

-- what the index has of block k
pub index_at : (o index : List ℕ) (a n k : ℕ) → Indexed o a n index → k < n → get_or index k 0 ≡ place (suc (a + k)) o
index_at o index a n k x h =
    sym (get_or-take n index k 0 h) ∙ ap (λ (l : List ℕ). get_or l k 0) x.each ∙ places_at o a n k h

-- ---- counting what has no place

pub missing_counts : (slots : ℕ) (l : List ℕ) → missing slots l ≡ count_by (λ x. eqb x slots) l
unfolding missing
missing_counts slots l = is_count_by (missing slots) (λ x. eqb x slots) refl (λ x xs. one_more (eqb x slots) (missing slots xs)) l
  where
    one_more : (b : Bool) (n : ℕ) → cond b 1 0 + n ≡ cond b (1 + n) n
    one_more true n = refl
    one_more false n = omega arith

none_is : (o : List ℕ) (x : ℕ) → ◌≡◌ {A = ℕ} (cond (eqb (place x o) (length o)) 1 0) (cond (has x o) 0 1)
none_is o x =
    test (has x o)
    (λ t. let h = place_below x o t in rw (T_true (has x o) t, ne_eqb (place x o) (length o) (λ e. omega arith)))
    (λ t. rw (T_false (has x o) t, eq-eqb (place x o) (length o) (place_none x o t)))

missing_places : (o : List ℕ) (a n : ℕ) → missing (length o) (places o a n) ≡ unmapped o a n
unfolding places missing unmapped mapped
missing_places o a zero = refl
missing_places o a (suc n) = rw (none_is o (suc a), missing_places o (suc a) n)

-- what is missing in the index of a range
pub missing_is : (o index : List ℕ) (a n m : ℕ) → Indexed o a n index → m ≡ missing (length o) (take n index) → m ≡ unmapped o a n
missing_is o index a n m x q = q ∙ ap (missing (length o)) x.each ∙ missing_places o a n

-- ---- a free slot is given to block b

pub places_fill_other : (o : List ℕ) (b a n : ℕ) → b < a → places (fill (suc b) o) a n ≡ places o a n
unfolding places
places_fill_other o b a zero h = refl
places_fill_other o b a (suc n) h =
    let d : suc a ≢ suc b = λ e. omega arith in
    let z : suc a ≢ 0 = λ e. omega arith in
    rw (place_fill_other (suc b) (suc a) o d z, places_fill_other o b (suc a) n (omega arith))

pub places_fill : (o : List ℕ) (a n k : ℕ) → k < n → T (not (has (suc (a + k)) o))
    → places (fill (suc (a + k)) o) a n ≡ set (places o a n) k (place 0 o)
unfolding places
places_fill o a zero k h t = absurd (omega arith)
places_fill o a (suc n) zero h t =
    let e : a + 0 ≡ a = add-zero a in
    let u : T (not (has (suc a) o)) = rw e at t in
    subst (λ (x : ℕ). places (fill (suc x) o) a (suc n) ≡ set (places o a (suc n)) 0 (place 0 o)) (sym e)
    (rw (place_fill (suc a) o u) (ap (λ (l : List ℕ). place 0 o ∷ l) (places_fill_other o a (suc a) n (omega arith))))
places_fill o a (suc n) (suc k) h t =
    let e : a + suc k ≡ suc a + k = omega arith in
    let d : suc a ≢ suc (suc a + k) = λ q. omega arith in
    let z : suc a ≢ 0 = λ q. omega arith in
    let u : T (not (has (suc (suc a + k)) o)) = rw e at t in
    subst (λ (x : ℕ). places (fill (suc x) o) a (suc n) ≡ set (places o a (suc n)) (suc k) (place 0 o)) (sym e)
    (rw (place_fill_other (suc (suc a + k)) (suc a) o d z)
    (ap (λ (l : List ℕ). place (suc a) o ∷ l) (places_fill o (suc a) n k (omega arith) u)))
