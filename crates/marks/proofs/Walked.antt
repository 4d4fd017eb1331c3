-- The marks of some owners: what is read off them is what a walk over the owners says.
-- Assumes nothing.
use mathlib.Core.Path.{◌≡◌, ap, ◌∙◌}
use mathlib.Core.List.{List}
use Prim.Native.Nat.{ℕ, ◌-◌, ◌≤◌}
use native.Mathlib.Omega.{arith}
use lib.ListN.{length}
use Rattle.pool.specs.Bounds.{most_slots, mark_words}
use Rattle.pool.specs.Marks.{marks_of, marked}
use Rattle.pool.specs.Pool.{place, free}
use Rattle.pool.proofs.Marking.{length_marks_of, marked_free, lowest_free}
use Rattle.marks.specs.Words.{room_in}
use Rattle.marks.specs.declared.FreeRoom.{FreeRoom}

-- the room, by a walk
abbrev pub walked : List ℕ → FreeRoom
walked owners = record { free = free owners; lowest = place 0 owners }

module _ (owners marks : List ℕ) (right : marks ≡ marks_of owners) where
  pub two_marked : length marks ≡ mark_words
  two_marked = ap length right ∙ length_marks_of owners

  pub marked_at_most : marked marks ≤ length owners
  marked_at_most = let m = ap marked right in omega (arith, marked_free owners)

  pub room_in_walked : length owners ≤ most_slots → room_in (length owners) marks ≡ walked owners
  room_in_walked few =
      let f : length owners - marked (marks_of owners) ≡ free owners = omega (arith, marked_free owners) in
      rw right (rw (f, lowest_free owners few))
