-- The volume: the map as a product of its own. "it stands without the command decoder": what each entry point answers, and what it leaves.
-- Assumes nothing.
use Rattle.std.specs.Prelude.{◌≡◌, Bool, true, false, not, List, [], ◌∷◌, ◌≢◌, ℕ, ◌+◌, ◌*◌, Result, Ok, Err, ⊤, T, eqb, ltb, length}
use Rattle.fields.specs.Bytes.{put, zeros}
use Rattle.order.specs.Order.{Row, ◌if◌, first_of, next_by, if_good_by}
use Rattle.pool.specs.Bounds.{most_transfer, block_bytes, mark_words}
use Rattle.pool.specs.Marks.{marks_of, marks_ok}
use Rattle.pool.specs.Pool.{Pool, pool, place, free, read_blocks, write_blocks, room_for, unmap_blocks}
use Rattle.pool.specs.Valid.{capacity_ok, slots_ok, map_ok, checked, Check}
use Rattle.marks.specs.declared.FreeRoom.{FreeRoom}
use Rattle.volume.specs.declared.Trouble.{Trouble}
use Rattle.volume.specs.declared.Trouble.TheVariants.{BadBounds, Invalid, Mismarked, TooMany, OutOfRange, Short, NoRoom}

-- ---- the order of tests

-- what an entry point answers
abbrev pub Answer : Type 0
Answer = Result ⊤ Trouble

abbrev pub done : Answer
done = Ok tt

-- an answer that is not `done`
unfoldable pub refuses : Answer → Bool
refuses (Ok _) = false
refuses (Err e) = true

-- the first row that holds, and `done` where none does
abbrev pub first : List (Row Answer) → Answer
first = first_of done

-- a refusal stands; after `done` the later answer counts
abbrev pub next : Answer → Answer → Answer
next = next_by refuses

-- a value where the call is done, and another where it is refused
abbrev pub if_done {ℓ} : {X : Type ℓ} → Answer → X → X → X
if_done = if_good_by refuses

-- what a check names is told
unfoldable pub told : Check → Answer
told (Ok _) = done
told (Err flaw) = Err (Invalid flaw)

-- "slots or capacity out of bounds"
unfoldable pub bounds : ℕ → ℕ → Answer
bounds capacity slots = first (Err BadBounds if not (capacity_ok capacity) ∷ Err BadBounds if not (slots_ok slots) ∷ [])

-- "medium not 512 x slots bytes, invalid state"; Q-7: "A mark without its owner, an owner without its mark, or a mark beyond the slots makes
-- the state invalid."
unfoldable pub sound : ℕ → Pool → Answer
sound capacity p =
    next (first (Err BadBounds if not (eqb (length p.medium) (block_bytes * length p.owners)) ∷ []))
    (next (told (checked capacity p.owners)) (first (Err Mismarked if not (marks_ok p.owners p.marks) ∷ [])))

-- of every call that has a pool
unfoldable pub usable : ℕ → Pool → Answer
usable capacity p = next (bounds capacity (length p.owners)) (sound capacity p)

-- of a read or a write of n blocks from a on, with so many bytes lent: "blocks in one READ or WRITE | 128",
-- "block address + count > capacity", "shorter than the blocks"
unfoldable pub transfer : ℕ → ℕ → ℕ → ℕ → Answer
transfer capacity a n lent =
    first
    (Err TooMany if ltb most_transfer n
    ∷ Err OutOfRange if ltb capacity (a + n)
    ∷ Err Short if ltb lent (block_bytes * n)
    ∷ [])

-- ---- the entry points

-- what a read leaves
pub record Read : Type 0 where
  pub answer : Answer
  pub out : List ℕ

abbrev pub read : Answer → List ℕ → Read
read answer out = record { answer = answer; out = out }

unfoldable pub read_answer : ℕ → Pool → ℕ → ℕ → ℕ → Answer
read_answer capacity p a n lent = next (usable capacity p) (transfer capacity a n lent)

-- the first bytes of what is lent become those of the blocks; a refusal leaves them
unfoldable pub read_of : ℕ → Pool → ℕ → ℕ → List ℕ → Read
read_of capacity p a n out =
    read (read_answer capacity p a n (length out)) (if_done (read_answer capacity p a n (length out)) (put out 0 (read_blocks p a n)) out)

-- what a write leaves
pub record Wrote : Type 0 where
  pub answer : Answer
  pub after : Pool

abbrev pub wrote : Answer → List ℕ → List ℕ → List ℕ → Wrote
wrote answer owners marks medium = record { answer = answer; after = pool owners marks medium }

-- after the tests of a read: "more unmapped blocks in a write than free slots"
unfoldable pub write_answer : ℕ → Pool → ℕ → ℕ → ℕ → Answer
write_answer capacity p a n lent =
    next (read_answer capacity p a n lent) (first (Err NoRoom if not (room_for p.owners a n) ∷ []))

-- the blocks get their slots and their bytes; a refusal leaves the pool
unfoldable pub write_of : ℕ → Pool → ℕ → ℕ → List ℕ → Wrote
write_of capacity p a n bytes =
    record { answer = write_answer capacity p a n (length bytes); after = if_done (write_answer capacity p a n (length bytes)) (write_blocks p a n bytes) p }

-- what an unmapping and a fresh start leave
pub record Left : Type 0 where
  pub answer : Answer
  pub owners : List ℕ
  pub marks : List ℕ

abbrev pub left : Answer → List ℕ → List ℕ → Left
left answer owners marks = record { answer = answer; owners = owners; marks = marks }

-- of a pool, all but the medium, which is not theirs to change
abbrev pub left_of : Answer → Pool → Left
left_of answer p = left answer p.owners p.marks

-- "block address + count > capacity"
unfoldable pub unmap_answer : ℕ → Pool → ℕ → ℕ → Answer
unmap_answer capacity p a n = next (usable capacity p) (first (Err OutOfRange if ltb capacity (a + n) ∷ []))

-- the slots of the range are freed and lose their marks; a refusal leaves them
unfoldable pub unmap_of : ℕ → Pool → ℕ → ℕ → Left
unmap_of capacity p a n =
    left_of (unmap_answer capacity p a n) (if_done (unmap_answer capacity p a n) (unmap_blocks p a n) p)

-- after the bounds of the rest, that of the marks. Q-7: "two 64-bit words"
unfoldable pub fresh_answer : ℕ → ℕ → ℕ → Answer
fresh_answer capacity slots words = next (bounds capacity slots) (first (Err BadBounds if not (eqb words mark_words) ∷ []))

-- "A fresh store has no mapping", and no slot has a mark, whatever the marks were; bad bounds leave all
unfoldable pub fresh_of : ℕ → List ℕ → List ℕ → Left
fresh_of capacity owners marks =
    left
    (fresh_answer capacity (length owners) (length marks))
    (if_done (fresh_answer capacity (length owners) (length marks)) (zeros (length owners)) owners)
    (if_done (fresh_answer capacity (length owners) (length marks)) (zeros mark_words) marks)

-- ---- the room

-- the room, where the call is done
unfoldable pub room_by : Answer → FreeRoom → Result FreeRoom Trouble
room_by (Ok _) room = Ok room
room_by (Err e) room = Err e

-- Q-7: "the free count is read off the marks, and so is the lowest free slot. Both equal what a full walk over the owners says": how many slots
-- are free, and the lowest, which is as many as there are slots where none is
unfoldable pub room_of : ℕ → Pool → Result FreeRoom Trouble
room_of capacity p = room_by (usable capacity p) (record { free = free p.owners; lowest = place 0 p.owners })

-- ---- what the laws speak of

-- a pool whose bounds and owners are right, whatever its marks
pub record RightOwners (capacity : ℕ) (p : Pool) : Type 0 where
  pub some : T (capacity_ok capacity)
  pub slots : T (slots_ok (length p.owners))
  pub whole : length p.medium ≡ block_bytes * length p.owners
  pub valid : T (map_ok capacity p.owners)

-- one whose marks alone are wrong
pub record WrongMarks (capacity : ℕ) (p : Pool) : Type 0 where
  pub right : RightOwners capacity p
  pub differ : p.marks ≢ marks_of p.owners
