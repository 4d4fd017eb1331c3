-- The room that is read off the marks is what a walk over the owners says.
-- Assumes nothing.
use mathlib.Core.Path.{◌≡◌, sym, ap, ◌∙◌}
use mathlib.Core.Bool.{true, false, not, cond, ◌&&◌}
use mathlib.Core.List.{List, [], ◌∷◌}
use Prim.Native.Nat.{ℕ, suc, ◌+◌, ◌≤◌}
use native.Mathlib.Omega.{arith}
use lib.Dec.{T, leb, leb→le}
use lib.ListN.{length}
use Rattle.std.specs.Prelude.{Ok, Err}
use Rattle.fields.proofs.Tests.{and_l, and_r, by_equal, test, true→T, T_true}
use Rattle.answers.specs.declared.Answer.{Answer}
use Rattle.answers.specs.declared.Answer.TheVariants.{Good, Refused, Conflict, Unusable, Short}
use Rattle.answers.specs.Order.{if_good_by, refuses}
use Rattle.answers.specs.Sense.{format_ok}
use Rattle.answers.proofs.OrderLaws.{row_pass, row_stop, row_end, row_fails}
use Rattle.pool.specs.Bounds.{most_slots, mark_words}
use Rattle.pool.specs.Marks.{marked}
use Rattle.pool.specs.Pool.{place, free}
use Rattle.pool.specs.Valid.{slots_ok, pool_ok}
use Rattle.pool.proofs.Keeping.{pool_ok_slots}
use Rattle.marks.specs.Words.{room_in}
use Rattle.marks.specs.declared.FreeRoom.{FreeRoom}
use Rattle.marks.proofs.Walked.{walked, two_marked, marked_at_most, room_in_walked}
use Rattle.store.specs.Store.{Store, unit_ok, usable}
use Rattle.store.specs.Step.{store_rows}
use Rattle.store.specs.Room.{Room, room_answer, room_of}
use Rattle.reply.specs.Reply.{Bounded}
use Rattle.commands.specs.Room.{room_told}
use Rattle.readiness.proofs.ReadyLaws.{usable_bounded}

-- where no slot is free, the place of the lowest is the number of slots, and that is not 0
none_free : (owners : List ℕ) → 1 ≤ length owners → free owners ≡ 0 → place 0 owners ≡ 0 → ⊥
unfolding free place
none_free [] l f p = absurd (omega arith)
none_free (y ∷ ys) l f p =
    by_equal y 0 (λ b. cond b 1 0 + free ys ≡ 0 → cond b 0 (suc (place 0 ys)) ≡ 0 → ⊥) (λ e g q. absurd (omega arith)) (λ d g q. absurd (omega arith)) f p

module _ (s : Store) where
  pub room_refused : usable s ≡ false → room_told (Err Unusable) ≡ room_of s
  unfolding room_of room_answer store_rows if_good_by refuses
  room_refused e = rw (row_stop Unusable _ _ (ap not e))

  module _ (e : usable s ≡ true) where
    bounded : Bounded s.unit.capacity s.pool.owners s.pool.marks s.pool.medium
    bounded = usable_bounded s.format s.unit s.pool.owners s.pool.marks s.pool.medium (true→T (usable s) e)

    some_slot : 1 ≤ length s.pool.owners
    unfolding usable slots_ok
    some_slot =
        let p = and_r (unit_ok s.unit) (pool_ok s.unit.capacity s.pool)
        (and_r (format_ok s.format) (unit_ok s.unit && pool_ok s.unit.capacity s.pool) (true→T (usable s) e)) in
        leb→le 1 (length s.pool.owners) (and_l (leb 1 (length s.pool.owners)) (leb (length s.pool.owners) most_slots) (pool_ok_slots s.unit.capacity s.pool p))

    pub marks_two : length s.pool.marks ≡ mark_words
    marks_two = two_marked s.pool.owners s.pool.marks bounded.marked

    pub marked_most : marked s.pool.marks ≤ length s.pool.owners
    marked_most = marked_at_most s.pool.owners s.pool.marks bounded.marked

    pub room_read : (r : FreeRoom) → r ≡ room_in (length s.pool.owners) s.pool.marks
        → room_told (Ok r) ≡ room_of s
    unfolding room_of room_answer store_rows if_good_by refuses
    room_read r f =
        let w : r ≡ walked s.pool.owners = f ∙ room_in_walked s.pool.owners s.pool.marks bounded.marked bounded.slots in
        rw (w, row_pass Unusable _ _ (ap not e) ∙ row_end)

  -- where the answer is GOOD the store is usable
  good_usable : room_answer s ≡ Good → usable s ≡ true
  unfolding room_answer store_rows refuses
  good_usable g = test (usable s) (λ t. T_true (usable s) t) (λ t. let n = row_fails Unusable (not (usable s)) [] tt g in absurd (rw n at t))

  -- so an answer without numbers is none that is GOOD
  pub untold_refuses : (a : Answer) → room_told (Err a) ≡ room_of s → T (refuses a)
  unfolding room_of if_good_by refuses
  untold_refuses Good h =
      let g : room_answer s ≡ Good = sym (ap (λ (r : Room). r.answer) h) in
      let f : free s.pool.owners ≡ 0 = rw g at (sym (ap (λ (r : Room). r.free) h)) in
      let p : place 0 s.pool.owners ≡ 0 = rw g at (sym (ap (λ (r : Room). r.lowest) h)) in
      absurd (none_free s.pool.owners (some_slot (good_usable g)) f p)
  untold_refuses (Refused x) h = tt
  untold_refuses Conflict h = tt
  untold_refuses Unusable h = tt
  untold_refuses Short h = tt
