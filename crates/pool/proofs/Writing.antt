-- What a write does: to the owners (which blocks are mapped after it, where they are, how many slots stay free) and to the medium, slot by slot.
-- A block b lies outside the n blocks from a on where `a ≤ b → a + n ≤ b`.
-- Assumes nothing.
use mathlib.Core.Path.{◌≡◌, refl, sym, ap, ap₂, ◌∙◌}
use mathlib.Core.Bool.{Bool, true, not, cond}
use mathlib.Core.List.{List}
use mathlib.Core.Logic.{◌≢◌}
use Prim.Native.Nat.{ℕ, zero, suc, ◌+◌, ◌-◌, ◌*◌, ◌≤◌, ◌<◌}
use native.Mathlib.Omega.{arith}
use native.Mathlib.Nat.{add-zero, add-suc, suc-add}
use lib.Dec.{T, leb, ltb, leb→le, nleb→lt, ltb→lt, nltb→le}
use lib.ListN.{length, take, drop, length-take, length-drop}
use lib.Seq.{drop-drop}
use Rattle.fields.specs.Bytes.{part, put}
use Rattle.fields.proofs.BytesLaws.{length_put, part_put_same, part_put_before, part_put_behind}
use Rattle.fields.proofs.Tests.{test, by_test, by_equal, T_true, T_false}
use Rattle.pool.specs.Bounds.{block_bytes}
use Rattle.pool.specs.Pool.{place, has, mapped, free, unmapped, fill, assign, assign_blocks, put_blocks}
use Rattle.pool.proofs.Held.{place_below, places_apart_law, has_fill, has_fill_other, place_fill, place_fill_other, has_free, free_fill}

-- two ways: the block b is one of the n from a on, or outside
pub in_or_out : {X : Type 0} (a n b : ℕ) → ((i : ℕ) → i < n → b ≡ a + i → X) → ((a ≤ b → a + n ≤ b) → X) → X
in_or_out a n b f g =
    test (leb a b)
    (λ s. let h = leb→le a b s in test (ltb b (a + n))
    (λ t. let k = ltb→lt b (a + n) t in f (b - a) (omega arith) (omega arith))
    (λ t. g (λ z. nltb→le b (a + n) t)))
    (λ s. let h = nleb→lt a b s in g (λ z. absurd (omega arith)))

-- ---- one address is given a slot

module _ (owners : List ℕ) (a : ℕ) where
  pub mapped_assign : cond (mapped owners a) 0 1 ≤ free owners → T (mapped (assign owners a) a)
  unfolding assign mapped
  mapped_assign room =
      by_test (has (suc a) owners) (λ q. cond q 0 1 ≤ free owners → T (has (suc a) (cond q owners (fill (suc a) owners))))
      (λ t h. t) (λ t h. has_fill (suc a) owners (has_free owners (omega arith))) room

  pub free_assign : cond (mapped owners a) 0 1 ≤ free owners → cond (mapped owners a) 0 1 + free (assign owners a) ≡ free owners
  unfolding assign
  free_assign room =
      by_test (mapped owners a) (λ q. cond q 0 1 ≤ free owners → cond q 0 1 + free (cond q owners (fill (suc a) owners)) ≡ free owners)
      (λ t h. omega arith) (λ t h. let e = free_fill (suc a) owners (omega arith) (has_free owners (omega arith)) in omega arith) room

  pub mapped_assign_other : (b : ℕ) → b ≢ a → mapped (assign owners a) b ≡ mapped owners b
  unfolding assign mapped
  mapped_assign_other b d =
      by_test (has (suc a) owners) (λ q. has (suc b) (cond q owners (fill (suc a) owners)) ≡ has (suc b) owners)
      (λ t. refl) (λ t. has_fill_other (suc a) (suc b) owners (omega arith) (omega arith))

  pub place_assign_other : (b : ℕ) → b ≢ a → place (suc b) (assign owners a) ≡ place (suc b) owners
  unfolding assign
  place_assign_other b d =
      by_test (mapped owners a) (λ q. place (suc b) (cond q owners (fill (suc a) owners)) ≡ place (suc b) owners)
      (λ t. refl) (λ t. place_fill_other (suc a) (suc b) owners (omega arith) (omega arith))

  -- "the lowest free slot"
  pub place_assign : T (not (mapped owners a)) → place (suc a) (assign owners a) ≡ place 0 owners
  unfolding assign mapped
  place_assign t = rw (T_false (has (suc a) owners) t) (place_fill (suc a) owners t)

  -- nothing changes where the address is mapped
  pub assign_mapped : T (mapped owners a) → assign owners a ≡ owners
  unfolding assign
  assign_mapped t = rw (T_true (mapped owners a) t)

  mapped_assign_kept : (b : ℕ) → T (mapped owners b) → T (mapped (assign owners a) b)
  mapped_assign_kept b t =
      by_equal b a (λ q. T (mapped (assign owners a) b))
      (λ e. rw (assign_mapped (rw e at t)) t) (λ d. rw (mapped_assign_other b d) t)

  place_assign_kept : (b : ℕ) → T (mapped owners b) → place (suc b) (assign owners a) ≡ place (suc b) owners
  place_assign_kept b t =
      by_equal b a (λ q. place (suc b) (assign owners a) ≡ place (suc b) owners)
      (λ e. ap (place (suc b)) (assign_mapped (rw e at t))) (λ d. place_assign_other b d)

pub unmapped_assign : (owners : List ℕ) (a b n : ℕ) → a < b → unmapped (assign owners a) b n ≡ unmapped owners b n
unfolding unmapped
unmapped_assign owners a b zero h = refl
unmapped_assign owners a b (suc n) h =
    ap₂ (λ (q : Bool) (m : ℕ). cond q 0 1 + m) (mapped_assign_other owners a b (omega arith)) (unmapped_assign owners a (suc b) n (omega arith))

-- there is room for the first, and then for the rest
room_first_law : (owners : List ℕ) (a n : ℕ) → unmapped owners a (suc n) ≤ free owners → cond (mapped owners a) 0 1 ≤ free owners
unfolding unmapped
room_first_law owners a n h = omega arith

room_rest : (owners : List ℕ) (a n : ℕ) → unmapped owners a (suc n) ≤ free owners → unmapped (assign owners a) (suc a) n ≤ free (assign owners a)
unfolding unmapped
room_rest owners a n h =
    let e = free_assign owners a (omega arith) in
    let d = unmapped_assign owners a (suc a) n (omega arith) in omega arith

-- ---- the owners after a write

pub mapped_write_out : (owners : List ℕ) (a n b : ℕ) → (a ≤ b → a + n ≤ b) → mapped (assign_blocks owners a n) b ≡ mapped owners b
unfolding assign_blocks
mapped_write_out owners a zero b out = refl
mapped_write_out owners a (suc n) b out =
    mapped_write_out (assign owners a) (suc a) n b (λ h. let z = out (omega arith) in omega arith)
    ∙ mapped_assign_other owners a b (λ e. let z = out (omega arith) in absurd (omega arith))

pub place_write_out : (owners : List ℕ) (a n b : ℕ) → (a ≤ b → a + n ≤ b) → place (suc b) (assign_blocks owners a n) ≡ place (suc b) owners
unfolding assign_blocks
place_write_out owners a zero b out = refl
place_write_out owners a (suc n) b out =
    place_write_out (assign owners a) (suc a) n b (λ h. let z = out (omega arith) in omega arith)
    ∙ place_assign_other owners a b (λ e. let z = out (omega arith) in absurd (omega arith))

-- where there is room every address of the range gets its slot
pub mapped_write_in : (owners : List ℕ) (a n : ℕ) → unmapped owners a n ≤ free owners → (i : ℕ) → i < n
    → mapped (assign_blocks owners a n) (a + i) ≡ true
unfolding assign_blocks
mapped_write_in owners a zero room i h = absurd (omega arith)
mapped_write_in owners a (suc n) room zero h =
    mapped_write_out (assign owners a) (suc a) n (a + 0) (λ k. absurd (omega arith))
    ∙ ap (mapped (assign owners a)) (add-zero a) ∙ T_true (mapped (assign owners a) a) (mapped_assign owners a (room_first_law owners a n room))
mapped_write_in owners a (suc n) room (suc i) h =
    ap (mapped (assign_blocks (assign owners a) (suc a) n)) (add-suc a i ∙ sym (suc-add a i))
    ∙ mapped_write_in (assign owners a) (suc a) n (room_rest owners a n room) i (omega arith)

-- "mapped ones keep theirs"
pub mapped_kept : (owners : List ℕ) (a n b : ℕ) → T (mapped owners b) → T (mapped (assign_blocks owners a n) b)
unfolding assign_blocks
mapped_kept owners a zero b t = t
mapped_kept owners a (suc n) b t = mapped_kept (assign owners a) (suc a) n b (mapped_assign_kept owners a b t)

pub place_kept : (owners : List ℕ) (a n b : ℕ) → T (mapped owners b) → place (suc b) (assign_blocks owners a n) ≡ place (suc b) owners
unfolding assign_blocks
place_kept owners a zero b t = refl
place_kept owners a (suc n) b t =
    place_kept (assign owners a) (suc a) n b (mapped_assign_kept owners a b t) ∙ place_assign_kept owners a b t

pub free_write : (owners : List ℕ) (a n : ℕ) → unmapped owners a n ≤ free owners
    → unmapped owners a n + free (assign_blocks owners a n) ≡ free owners
unfolding assign_blocks unmapped
free_write owners a zero room = omega arith
free_write owners a (suc n) room =
    let ih = free_write (assign owners a) (suc a) n (room_rest owners a n room) in
    let d = unmapped_assign owners a (suc a) n (omega arith) in
    let e = free_assign owners a (omega arith) in omega arith

-- none of the range is unmapped after
pub unmapped_write : (owners : List ℕ) (a n : ℕ) → unmapped owners a n ≤ free owners → unmapped (assign_blocks owners a n) a n ≡ 0
unfolding unmapped
unmapped_write owners a n room = all_mapped (assign_blocks owners a n) a n (λ i h. mapped_write_in owners a n room i h)
  where
    all_mapped : (owners : List ℕ) (a n : ℕ) → ((i : ℕ) → i < n → mapped owners (a + i) ≡ true) → unmapped owners a n ≡ 0
    all_mapped owners a zero each = refl
    all_mapped owners a (suc n) each =
        ap₂ (λ (q : Bool) (m : ℕ). cond q 0 1 + m) (ap (mapped owners) (sym (add-zero a)) ∙ each 0 (omega arith))
        (all_mapped owners (suc a) n (λ i h. ap (mapped owners) (suc-add a i ∙ sym (add-suc a i)) ∙ each (suc i) (omega arith)))

-- ---- the medium after a write

-- a slot keeps its bytes when another is put
pub slots_apart : (medium : List ℕ) (i j : ℕ) (bs : List ℕ) → length bs ≤ block_bytes → j ≢ i
    → part (put medium (block_bytes * i) bs) (block_bytes * j) block_bytes ≡ part medium (block_bytes * j) block_bytes
slots_apart medium i j bs h d =
    test (ltb j i)
    (λ t. let k = ltb→lt j i t in part_put_before medium (block_bytes * i) bs (block_bytes * j) block_bytes (omega arith))
    (λ t. let k = nltb→le j i t in part_put_behind medium (block_bytes * i) bs (block_bytes * j) block_bytes (omega arith))

-- a slot that holds no block of the range keeps its bytes
pub put_out : (owners medium : List ℕ) (a n : ℕ) (bs : List ℕ) (j : ℕ) → ((b : ℕ) → a ≤ b → b < a + n → j ≢ place (suc b) owners)
    → part (put_blocks owners medium a n bs) (block_bytes * j) block_bytes ≡ part medium (block_bytes * j) block_bytes
unfolding put_blocks
put_out owners medium a zero bs j apart = refl
put_out owners medium a (suc n) bs j apart =
    put_out owners (put medium (block_bytes * place (suc a) owners) (take block_bytes bs)) (suc a) n (drop block_bytes bs) j (λ b h k. apart b (omega arith) (omega arith))
    ∙ slots_apart medium (place (suc a) owners) j (take block_bytes bs) (simp length-take (omega arith)) (apart a (omega arith) (omega arith))

pub next_block : (i : ℕ) → block_bytes + block_bytes * i ≡ block_bytes * suc i
next_block i = omega arith

-- the slot of block i of the range has that block's 512 bytes
pub put_in : (owners medium : List ℕ) (a n : ℕ) (bs : List ℕ) → length medium ≡ block_bytes * length owners → block_bytes * n ≤ length bs
    → (i b : ℕ) → b ≡ a + i → i < n → T (mapped owners b)
    → part (put_blocks owners medium a n bs) (block_bytes * place (suc b) owners) block_bytes ≡ take block_bytes (drop (block_bytes * i) bs)
unfolding put_blocks mapped
put_in owners medium a zero bs w l i b e h t = absurd (omega arith)
put_in owners medium a (suc n) bs w l zero b e h t =
    let full : length (take block_bytes bs) ≡ block_bytes = simp length-take (omega arith) in
    let at : place (suc b) owners < length owners = place_below (suc b) owners t in
    let here : b ≡ a = omega arith in
    put_out owners (put medium (block_bytes * place (suc a) owners) (take block_bytes bs)) (suc a) n (drop block_bytes bs) (place (suc b) owners)
    (λ c x y. places_apart_law (suc b) (suc c) owners (omega arith) t)
    ∙ ap (λ (c : ℕ). part (put medium (block_bytes * place (suc c) owners) (take block_bytes bs)) (block_bytes * place (suc b) owners) block_bytes) (sym here)
    ∙ rw full at (part_put_same medium (block_bytes * place (suc b) owners) (take block_bytes bs) (omega arith))
put_in owners medium a (suc n) bs w l (suc i) b e h t =
    put_in owners (put medium (block_bytes * place (suc a) owners) (take block_bytes bs)) (suc a) n (drop block_bytes bs) (length_put medium _ (take block_bytes bs) ∙ w)
    (simp length-drop (omega arith)) i b (omega arith) (omega arith) t
    ∙ ap (take block_bytes) (drop-drop (block_bytes * i) block_bytes bs ∙ ap (λ (k : ℕ). drop k bs) (next_block i))
