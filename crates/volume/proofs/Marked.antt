-- The marks, exactly. `Mismarked` is answered where bounds and owners are right and the marks are not, and nowhere else; what is done leaves the
-- marks right, so that the next call finds them so; and the room is told where the pool is valid, and nowhere else.
-- Assumes nothing.
use mathlib.Core.Path.{◌≡◌, refl, sym, ap, ◌∙◌}
use mathlib.Core.Bool.{Bool, true, false, cond}
use mathlib.Core.List.{List, [], ◌∷◌}
use mathlib.Core.Logic.Iff
use mathlib.Core.Logic.{◌↔◌, ◌≢◌}
use Prim.Native.Nat.{ℕ, suc, ◌+◌, ◌*◌, ◌≤◌}
use native.Mathlib.Omega.{arith}
use lib.Dec.{T}
use lib.ListN.{length}
use Rattle.fields.specs.Bytes.{zeros}
use Rattle.fields.proofs.Tests.{test, by_equal, T_true, T_false}
use Rattle.order.specs.Order.{refusing_by}
use Rattle.order.proofs.OrderLaws.{next_refuses, next_passes, next_first, next_second, if_refused, if_good_law, first_obeys, next_obeys, good_cases}
use Rattle.pool.specs.Bounds.{most_slots, block_bytes, mark_words}
use Rattle.pool.specs.Marks.{marks_of}
use Rattle.pool.specs.Pool.{Pool, pool, place, free, write_blocks, unmap_blocks}
use Rattle.pool.specs.Valid.{capacity_ok, slots_ok, pool_ok}
use Rattle.pool.proofs.Keeping.{pool_ok_write_blocks, pool_ok_unmap_blocks, pool_ok_fresh}
use Rattle.pool.proofs.Marking.{marks_zeros}
use Rattle.marks.proofs.Walked.{walked}
use Rattle.volume.specs.Volume.{Answer, done, refuses, next, bounds, usable, transfer, read_answer, read_of, write_answer, write_of, unmap_answer, unmap_of, fresh_answer, fresh_of, room_by, room_of, WrongMarks}
use Rattle.marks.specs.declared.FreeRoom.{FreeRoom}
use Rattle.std.specs.Prelude.{Ok, Err, is_ok}
use Rattle.volume.specs.declared.Trouble.TheVariants.{BadBounds, Invalid, Mismarked, TooMany, OutOfRange, Short, NoRoom}
use Rattle.volume.proofs.Answering.{one_done, is_between, transfer_has, bounds_are, done_right, usable_marks, usable_ok, usable_wrong, room_walked}

-- ---- the room is told exactly where the pool is valid

-- where the lowest slot is free, one is
one_free : (owners : List ℕ) → 1 ≤ length owners → place 0 owners ≡ 0 → 1 ≤ free owners
unfolding place free
one_free [] h e = absurd (omega arith)
one_free (y ∷ ys) h e =
    by_equal y 0 (λ b. cond b 0 (suc (place 0 ys)) ≡ 0 → 1 ≤ cond b 1 0 + free ys) (λ _ _. omega arith) (λ _ u. absurd (omega arith)) e

told_done : (a : Answer) (r : FreeRoom) → is_ok (room_by a r) ≡ true ↔ a ≡ done
unfolding room_by
told_done (Ok _) r = (λ _. refl, λ _. refl)
told_done (Err t) r = (λ e. cc, λ e. cc)

module _ (capacity : ℕ) (p : Pool) where
  pub room_ok : is_ok (room_of capacity p) ≡ true ↔ (T (capacity_ok capacity) × T (pool_ok capacity p))
  unfolding room_of
  room_ok = Iff.trans (told_done (usable capacity p) _) (usable_ok capacity p)

  -- and never as 0 and 0
  pub room_some : (r : FreeRoom) → room_of capacity p ≡ Ok r → r.free ≡ 0 → r.lowest ≡ 0 → ⊥
  unfolding slots_ok
  room_some r e g h =
      let u = (usable_ok capacity p).1 (room_ok.0 (ap is_ok e)) in
      let w = room_walked capacity p u in
      let same : walked p.owners ≡ r = cc in
      let f : free p.owners ≡ 0 = ap (λ (x : FreeRoom). x.free) same ∙ g in
      let l : place 0 p.owners ≡ 0 = ap (λ (x : FreeRoom). x.lowest) same ∙ h in
      let s = is_between most_slots (length p.owners) (T_true (slots_ok (length p.owners)) (done_right capacity p u).0.slots) in
      let k = one_free p.owners s.0 l in
      omega arith

-- ---- Mismarked is an answer of the pool's tests alone, in every entry point

-- the answers that say nothing of the marks
others : Answer → Bool
others (Ok _) = true
others (Err BadBounds) = true
others (Err (Invalid flaw)) = true
others (Err Mismarked) = false
others (Err TooMany) = true
others (Err OutOfRange) = true
others (Err Short) = true
others (Err NoRoom) = true

not_other : {X : Type 0} (r : Answer) → T (others r) → r ≡ Err Mismarked → X
unfolding others
not_other r t e = absurd (rw e at t)

next_mismarked : (r later : Answer) → T (others later) → next r later ≡ Err Mismarked ↔ r ≡ Err Mismarked
unfolding refuses
next_mismarked r later t = (
  λ e. test (refuses r) (λ h. sym (next_refuses refuses r later h) ∙ e)
      (λ h. not_other later t (sym (next_passes refuses r later (T_false (refuses r) h)) ∙ e)),
  λ e. rw e (next_refuses refuses (Err Mismarked) later tt),
)

module _ (capacity : ℕ) (p : Pool) (a n : ℕ) where
  answer_mismarked : (lent : ℕ) → read_answer capacity p a n lent ≡ Err Mismarked ↔ usable capacity p ≡ Err Mismarked
  unfolding read_answer transfer others refusing_by
  answer_mismarked lent = next_mismarked _ _ (first_obeys others done _ tt tt)

  pub read_mismarked : (out : List ℕ) → (read_of capacity p a n out).answer ≡ Err Mismarked ↔ WrongMarks capacity p
  unfolding read_of
  read_mismarked out = Iff.trans (answer_mismarked (length out)) (usable_wrong capacity p)

  pub write_mismarked : (bytes : List ℕ) → (write_of capacity p a n bytes).answer ≡ Err Mismarked ↔ WrongMarks capacity p
  unfolding write_of write_answer others refusing_by
  write_mismarked bytes =
      Iff.trans (next_mismarked _ _ (first_obeys others done _ tt tt)) (Iff.trans (answer_mismarked (length bytes)) (usable_wrong capacity p))

  pub unmap_mismarked : (unmap_of capacity p a n).answer ≡ Err Mismarked ↔ WrongMarks capacity p
  unfolding unmap_of unmap_answer others refusing_by
  unmap_mismarked = Iff.trans (next_mismarked _ _ (first_obeys others done _ tt tt)) (usable_wrong capacity p)

told_mismarked : (a : Answer) (r : FreeRoom) → room_by a r ≡ Err Mismarked ↔ a ≡ Err Mismarked
unfolding room_by
told_mismarked (Ok _) r = (λ e. cc, λ e. cc)
told_mismarked (Err t) r = (λ e. cc, λ e. cc)

pub room_mismarked : (capacity : ℕ) (p : Pool) → room_of capacity p ≡ Err Mismarked ↔ WrongMarks capacity p
unfolding room_of
room_mismarked capacity p = Iff.trans (told_mismarked (usable capacity p) _) (usable_wrong capacity p)

-- a fresh start looks at no mark
pub fresh_mismarked : (capacity : ℕ) (owners marks : List ℕ) → (fresh_of capacity owners marks).answer ≢ Err Mismarked
unfolding fresh_of fresh_answer bounds others refusing_by
fresh_mismarked capacity owners marks e =
    not_other _ (next_obeys others refuses _ _ (first_obeys others done _ tt tt) (first_obeys others done _ tt tt)) e

-- ---- what is done leaves the marks right, and the next call finds them so

module _ (capacity : ℕ) (p : Pool) (a n : ℕ) where
  module _ (bytes : List ℕ) (e : (write_of capacity p a n bytes).answer ≡ done) where
    pub write_usable : usable capacity (write_of capacity p a n bytes).after ≡ done
    unfolding write_of write_answer read_answer
    write_usable =
        let w : read_answer capacity p a n (length bytes) ≡ done = next_first one_done _ _ e in
        let t = (usable_ok capacity p).0 (next_first one_done _ _ w) in
        let v = transfer_has capacity a n (length bytes) (next_second one_done _ _ w) in
        rw (if_good_law one_done (write_answer capacity p a n (length bytes)) (write_blocks p a n bytes) p e)
        ((usable_ok capacity (write_blocks p a n bytes)).1 (t.0, pool_ok_write_blocks capacity p a n bytes t.1 v.1))

    pub write_marks : (write_of capacity p a n bytes).after.marks ≡ marks_of (write_of capacity p a n bytes).after.owners
    write_marks = usable_marks capacity (write_of capacity p a n bytes).after write_usable

  -- whatever is answered, a usable pool stays so
  pub write_keeps : (bytes : List ℕ) → usable capacity p ≡ done → usable capacity (write_of capacity p a n bytes).after ≡ done
  unfolding write_of
  write_keeps bytes u =
      good_cases one_done (write_answer capacity p a n (length bytes)) (λ e. write_usable bytes e)
      (λ t. rw (if_refused refuses (write_answer capacity p a n (length bytes)) (write_blocks p a n bytes) p t) u)

  module _ (e : (unmap_of capacity p a n).answer ≡ done) where
    pub unmap_usable : usable capacity (pool (unmap_of capacity p a n).owners (unmap_of capacity p a n).marks p.medium) ≡ done
    unfolding unmap_of unmap_answer unmap_blocks
    unmap_usable =
        let t = (usable_ok capacity p).0 (next_first one_done _ _ e) in
        rw (if_good_law one_done (unmap_answer capacity p a n) (unmap_blocks p a n) p e)
        ((usable_ok capacity (unmap_blocks p a n)).1 (t.0, pool_ok_unmap_blocks capacity p a n t.1))

    pub unmap_marks : (unmap_of capacity p a n).marks ≡ marks_of (unmap_of capacity p a n).owners
    unmap_marks = usable_marks capacity (pool (unmap_of capacity p a n).owners (unmap_of capacity p a n).marks p.medium) unmap_usable

  pub unmap_keeps : usable capacity p ≡ done
      → usable capacity (pool (unmap_of capacity p a n).owners (unmap_of capacity p a n).marks p.medium) ≡ done
  unfolding unmap_of
  unmap_keeps u =
      good_cases one_done (unmap_answer capacity p a n) (λ e. unmap_usable e)
      (λ t. rw (if_refused refuses (unmap_answer capacity p a n) (unmap_blocks p a n) p t) u)

module _ (capacity : ℕ) (owners marks : List ℕ) (e : (fresh_of capacity owners marks).answer ≡ done) where
  pub fresh_marks : (fresh_of capacity owners marks).marks ≡ marks_of (fresh_of capacity owners marks).owners
  unfolding fresh_of
  fresh_marks =
      let r = fresh_answer capacity (length owners) (length marks) in
      rw (if_good_law one_done r (zeros (length owners)) owners e, if_good_law one_done r (zeros mark_words) marks e) (sym (marks_zeros (length owners)))

  pub fresh_usable : (medium : List ℕ) → length medium ≡ block_bytes * length owners
      → usable capacity (pool (fresh_of capacity owners marks).owners (fresh_of capacity owners marks).marks medium) ≡ done
  unfolding fresh_of fresh_answer
  fresh_usable medium w =
      let r = fresh_answer capacity (length owners) (length marks) in
      let b = bounds_are capacity (length owners) (next_first one_done _ _ e) in
      rw (if_good_law one_done r (zeros (length owners)) owners e, if_good_law one_done r (zeros mark_words) marks e)
      ((usable_ok capacity (pool (zeros (length owners)) (zeros mark_words) medium)).1 (b.0, pool_ok_fresh capacity (length owners) medium b.1 w))
