-- What is valid stays so: a write within the capacity and an unmapping keep the map valid, and every length.
-- Assumes nothing.
use mathlib.Core.Path.{◌≡◌, refl, sym, ◌∙◌}
use mathlib.Core.Bool.{Bool, not, ◌&&◌, ◌||◌, cond}
use mathlib.Core.List.{List, [], ◌∷◌, map}
use mathlib.Core.Logic.{◌≢◌}
use Prim.Native.Nat.{ℕ, zero, suc, ◌+◌, ◌*◌, ◌≤◌, ◌<◌}
use native.Mathlib.Omega.{arith}
use borrow.Author.Tests.{ne_eqb}
use lib.Dec.{T, eqb, leb, eqb→eq, le→leb, eqb_refl}
use lib.ListN.{length, take, drop, length-map}
use Rattle.fields.specs.Bytes.{put, zeros}
use Rattle.fields.proofs.BytesLaws.{length_put, length_zeros}
use Rattle.fields.proofs.Tests.{and_l, and_r, both, or_other, nor_r, false→T, by_test, by_equal}
use Rattle.pool.specs.Bounds.{block_bytes, mark_words}
use Rattle.pool.specs.Marks.{marks_of, marks_ok}
use Rattle.pool.specs.Pool.{Pool, pool, place, has, mapped, fill, assign, assign_blocks, put_blocks, write_blocks, freed, unmap_owners, unmap_blocks}
use Rattle.pool.specs.Valid.{within, distinct, map_ok, slots_ok, pool_ok}
use Rattle.pool.proofs.Marking.{marks_ok_is, is_marks_ok, marks_zeros}
use Rattle.pool.proofs.Held.{length_fill, has_fill_other, freed_ways}

-- ---- lengths

pub length_assign : (owners : List ℕ) (a : ℕ) → length (assign owners a) ≡ length owners
unfolding assign
length_assign owners a =
    by_test (mapped owners a) (λ b. length (cond b owners (fill (suc a) owners)) ≡ length owners) (λ t. refl) (λ t. length_fill (suc a) owners)

pub length_assign_blocks : (owners : List ℕ) (a n : ℕ) → length (assign_blocks owners a n) ≡ length owners
unfolding assign_blocks
length_assign_blocks owners a zero = refl
length_assign_blocks owners a (suc n) = length_assign_blocks (assign owners a) (suc a) n ∙ length_assign owners a

pub length_put_blocks : (owners medium : List ℕ) (a n : ℕ) (bs : List ℕ) → length (put_blocks owners medium a n bs) ≡ length medium
unfolding put_blocks
length_put_blocks owners medium a zero bs = refl
length_put_blocks owners medium a (suc n) bs =
    length_put_blocks owners (put medium (block_bytes * place (suc a) owners) (take block_bytes bs)) (suc a) n (drop block_bytes bs)
    ∙ length_put medium (block_bytes * place (suc a) owners) (take block_bytes bs)

pub length_unmap_owners : (owners : List ℕ) (a n : ℕ) → length (unmap_owners owners a n) ≡ length owners
unfolding unmap_owners
length_unmap_owners owners a n = length-map owners (freed a n)

-- ---- the parts of validity

pub map_ok_within : (capacity : ℕ) (owners : List ℕ) → T (map_ok capacity owners) → T (within capacity owners)
unfolding map_ok
map_ok_within capacity owners t = and_l (within capacity owners) (distinct owners) t

pub map_ok_distinct : (capacity : ℕ) (owners : List ℕ) → T (map_ok capacity owners) → T (distinct owners)
unfolding map_ok
map_ok_distinct capacity owners t = and_r (within capacity owners) (distinct owners) t

pub map_ok_of : (capacity : ℕ) (owners : List ℕ) → T (within capacity owners) → T (distinct owners) → T (map_ok capacity owners)
unfolding map_ok
map_ok_of capacity owners s t = both (within capacity owners) (distinct owners) s t

module _ (capacity : ℕ) (p : Pool) where
  whole : Bool
  whole = eqb (length p.medium) (block_bytes * length p.owners)

  -- its bounds, and its state
  bounds : Bool
  bounds = slots_ok (length p.owners) && whole

  state : Bool
  state = map_ok capacity p.owners && marks_ok p.owners p.marks

  pub pool_ok_slots : T (pool_ok capacity p) → T (slots_ok (length p.owners))
  unfolding pool_ok whole bounds state
  pool_ok_slots t = and_l (slots_ok (length p.owners)) whole (and_l bounds state t)

  pub pool_ok_whole : T (pool_ok capacity p) → length p.medium ≡ block_bytes * length p.owners
  unfolding pool_ok whole bounds state
  pool_ok_whole t =
      eqb→eq (length p.medium) (block_bytes * length p.owners) (and_r (slots_ok (length p.owners)) whole (and_l bounds state t))

  pub pool_ok_map : T (pool_ok capacity p) → T (map_ok capacity p.owners)
  unfolding pool_ok whole bounds state
  pool_ok_map t = and_l (map_ok capacity p.owners) (marks_ok p.owners p.marks) (and_r bounds state t)

  pub pool_ok_marks : T (pool_ok capacity p) → p.marks ≡ marks_of p.owners
  unfolding pool_ok whole bounds state
  pool_ok_marks t = marks_ok_is p.owners p.marks (and_r (map_ok capacity p.owners) (marks_ok p.owners p.marks) (and_r bounds state t))

  pub pool_ok_of : T (slots_ok (length p.owners)) → length p.medium ≡ block_bytes * length p.owners → T (map_ok capacity p.owners)
      → p.marks ≡ marks_of p.owners → T (pool_ok capacity p)
  unfolding pool_ok whole bounds state
  pool_ok_of s e t m =
      both bounds state
      (both (slots_ok (length p.owners)) whole s (rw e (eqb_refl (block_bytes * length p.owners))))
      (both (map_ok capacity p.owners) (marks_ok p.owners p.marks) t (is_marks_ok p.owners p.marks m))

-- a nonzero number names no block that a slot above names
pub distinct_head : (y : ℕ) (ys : List ℕ) → T (distinct (y ∷ ys)) → y ≢ 0 → T (not (has y ys))
unfolding distinct
distinct_head y ys t d =
    or_other (eqb y 0) (not (has y ys)) (false→T (eqb y 0) (ne_eqb y 0 d)) (and_l (eqb y 0 || not (has y ys)) (distinct ys) t)

pub distinct_tail : (y : ℕ) (ys : List ℕ) → T (distinct (y ∷ ys)) → T (distinct ys)
unfolding distinct
distinct_tail y ys t = and_r (eqb y 0 || not (has y ys)) (distinct ys) t

pub distinct_more : (y : ℕ) (ys : List ℕ) → (y ≢ 0 → T (not (has y ys))) → T (distinct ys) → T (distinct (y ∷ ys))
unfolding distinct
distinct_more y ys f t =
    both (eqb y 0 || not (has y ys)) (distinct ys) (by_equal y 0 (λ b. T (b || not (has y ys))) (λ e. tt) (λ d. f d)) t

-- ---- a write

within_fill : (capacity x : ℕ) (l : List ℕ) → x ≤ capacity → T (within capacity l) → T (within capacity (fill x l))
unfolding within fill
within_fill capacity x [] h t = t
within_fill capacity x (y ∷ ys) h t =
    by_equal y 0 (λ b. T (within capacity (cond b (x ∷ ys) (y ∷ fill x ys))))
    (λ e. both (leb x capacity) (within capacity ys) (le→leb x capacity h) (and_r (leb y capacity) (within capacity ys) t))
    (λ d. both (leb y capacity) (within capacity (fill x ys)) (and_l (leb y capacity) (within capacity ys) t)
    (within_fill capacity x ys h (and_r (leb y capacity) (within capacity ys) t)))

apart_head : (x y : ℕ) (ys : List ℕ) → T (not (has x (y ∷ ys))) → y ≢ x
unfolding has
apart_head x y ys t = by_equal y x (λ b. T (not (b || has x ys)) → y ≢ x) (λ e u. absurd u) (λ d u. d) t

apart_tail : (x y : ℕ) (ys : List ℕ) → T (not (has x (y ∷ ys))) → T (not (has x ys))
unfolding has
apart_tail x y ys t = nor_r (eqb y x) (has x ys) t

distinct_fill : (x : ℕ) (l : List ℕ) → T (not (has x l)) → T (distinct l) → T (distinct (fill x l))
unfolding fill
distinct_fill x [] n t = t
distinct_fill x (y ∷ ys) n t =
    by_equal y 0 (λ b. T (distinct (cond b (x ∷ ys) (y ∷ fill x ys))))
    (λ e. distinct_more x ys (λ d. apart_tail x y ys n) (distinct_tail y ys t))
    (λ d. distinct_more y (fill x ys) (λ z. rw (has_fill_other x y ys (apart_head x y ys n) d) (distinct_head y ys t d))
    (distinct_fill x ys (apart_tail x y ys n) (distinct_tail y ys t)))

map_ok_assign : (capacity : ℕ) (owners : List ℕ) (a : ℕ) → T (map_ok capacity owners) → a < capacity → T (map_ok capacity (assign owners a))
unfolding assign mapped
map_ok_assign capacity owners a t h =
    by_test (has (suc a) owners) (λ b. T (map_ok capacity (cond b owners (fill (suc a) owners)))) (λ s. t)
    (λ s. map_ok_of capacity (fill (suc a) owners) (within_fill capacity (suc a) owners (omega arith) (map_ok_within capacity owners t))
    (distinct_fill (suc a) owners s (map_ok_distinct capacity owners t)))

pub map_ok_assign_blocks : (capacity : ℕ) (owners : List ℕ) (a n : ℕ) → T (map_ok capacity owners) → a + n ≤ capacity
    → T (map_ok capacity (assign_blocks owners a n))
unfolding assign_blocks
map_ok_assign_blocks capacity owners a zero t h = t
map_ok_assign_blocks capacity owners a (suc n) t h =
    map_ok_assign_blocks capacity (assign owners a) (suc a) n (map_ok_assign capacity owners a t (omega arith)) (omega arith)

pub pool_ok_write_blocks : (capacity : ℕ) (p : Pool) (a n : ℕ) (bs : List ℕ) → T (pool_ok capacity p) → a + n ≤ capacity
    → T (pool_ok capacity (write_blocks p a n bs))
unfolding write_blocks
pool_ok_write_blocks capacity p a n bs t h =
    pool_ok_of capacity (write_blocks p a n bs) (rw (length_assign_blocks p.owners a n) (pool_ok_slots capacity p t))
    (rw (length_put_blocks (assign_blocks p.owners a n) p.medium a n bs, length_assign_blocks p.owners a n) (pool_ok_whole capacity p t))
    (map_ok_assign_blocks capacity p.owners a n (pool_ok_map capacity p t) h) refl

-- ---- an unmapping

within_unmap : (capacity a n : ℕ) (l : List ℕ) → T (within capacity l) → T (within capacity (map (freed a n) l))
unfolding within
within_unmap capacity a n [] t = t
within_unmap capacity a n (y ∷ ys) t =
    both (leb (freed a n y) capacity) (within capacity (map (freed a n) ys))
    (freed_ways a n y (λ z. T (leb z capacity)) (λ h k. le→leb 0 capacity (omega arith)) (λ h. and_l (leb y capacity) (within capacity ys) t))
    (within_unmap capacity a n ys (and_r (leb y capacity) (within capacity ys) t))

-- what no slot names before, none names after
absent_unmap : (a n x : ℕ) (l : List ℕ) → x ≢ 0 → T (not (has x l)) → T (not (has x (map (freed a n) l)))
unfolding has
absent_unmap a n x [] d t = t
absent_unmap a n x (y ∷ ys) d t =
    freed_ways a n y (λ z. T (not (eqb z x || has x (map (freed a n) ys))))
    (λ h k. rw (ne_eqb 0 x (omega arith)) (absent_unmap a n x ys d (apart_tail x y ys t)))
    (λ h. rw (ne_eqb y x (apart_head x y ys t)) (absent_unmap a n x ys d (apart_tail x y ys t)))

distinct_unmap : (a n : ℕ) (l : List ℕ) → T (distinct l) → T (distinct (map (freed a n) l))
distinct_unmap a n [] t = t
distinct_unmap a n (y ∷ ys) t =
    distinct_more (freed a n y) (map (freed a n) ys)
    (freed_ways a n y (λ z. z ≢ 0 → T (not (has z (map (freed a n) ys)))) (λ h k d. absurd (d refl)) (λ h d. absent_unmap a n y ys d (distinct_head y ys t d)))
    (distinct_unmap a n ys (distinct_tail y ys t))

pub map_ok_unmap_owners : (capacity : ℕ) (owners : List ℕ) (a n : ℕ) → T (map_ok capacity owners) → T (map_ok capacity (unmap_owners owners a n))
unfolding unmap_owners
map_ok_unmap_owners capacity owners a n t =
    map_ok_of capacity (map (freed a n) owners) (within_unmap capacity a n owners (map_ok_within capacity owners t))
    (distinct_unmap a n owners (map_ok_distinct capacity owners t))

pub pool_ok_unmap_blocks : (capacity : ℕ) (p : Pool) (a n : ℕ) → T (pool_ok capacity p) → T (pool_ok capacity (unmap_blocks p a n))
unfolding unmap_blocks
pool_ok_unmap_blocks capacity p a n t =
    pool_ok_of capacity (unmap_blocks p a n) (rw (length_unmap_owners p.owners a n) (pool_ok_slots capacity p t))
    (rw (length_unmap_owners p.owners a n) (pool_ok_whole capacity p t))
    (map_ok_unmap_owners capacity p.owners a n (pool_ok_map capacity p t)) refl

-- ---- a fresh map

pub map_ok_zeros : (capacity n : ℕ) → T (map_ok capacity (zeros n))
unfolding within distinct zeros
map_ok_zeros capacity n = map_ok_of capacity (zeros n) (all_within n) (all_distinct n)
  where
    all_within : (n : ℕ) → T (within capacity (zeros n))
    all_within zero = tt
    all_within (suc n) = both (leb 0 capacity) (within capacity (zeros n)) (le→leb 0 capacity (omega arith)) (all_within n)

    all_distinct : (n : ℕ) → T (distinct (zeros n))
    all_distinct zero = tt
    all_distinct (suc n) = distinct_more 0 (zeros n) (λ d. absurd (d refl)) (all_distinct n)

pub pool_ok_fresh : (capacity slots : ℕ) (medium : List ℕ) → T (slots_ok slots) → length medium ≡ block_bytes * slots
    → T (pool_ok capacity (pool (zeros slots) (zeros mark_words) medium))
pool_ok_fresh capacity slots medium t e =
    pool_ok_of capacity (pool (zeros slots) (zeros mark_words) medium) (rw (length_zeros slots) t) (rw (length_zeros slots) e) (map_ok_zeros capacity slots)
    (sym (marks_zeros slots))
