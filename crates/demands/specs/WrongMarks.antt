-- Builds that are wrong in the marks, and a room that is read off the first word alone: the laws of the free room refuse them.
-- Assumes nothing.
use Rattle.std.specs.Prelude.{cond, List, [], ◌∷◌, ℕ, ◌-◌, ◌%◌, ◌^◌, eqb, length, take, get_or}
use Rattle.fields.specs.Field.{byte}
use Rattle.pool.specs.Marks.{marked, lowest}
use Rattle.pool.specs.Pool.{pool}
use Rattle.store.specs.Store.{Store, Call, with_pool}
use Rattle.store.specs.Room.{Room, room_of}
use Rattle.store.specs.Step.{step}
use Rattle.demands.specs.History.{Build}
use Rattle.demands.specs.Bench.{new, places, made, unmap_1}
use Rattle.demands.specs.FreeRoom.{room_with}

-- ---- the builds

-- the store with other marks
unfoldable pub with_marks : Store → List ℕ → Store
with_marks s marks = with_pool s (pool s.pool.owners marks s.pool.medium)

-- UNMAP frees its slots and leaves their marks
unfoldable pub mark_kept : Build
mark_kept s c =
    cond (eqb (byte 0 c.cdb) 0x42) (record { seen = (step s c).seen; store = with_marks (step s c).store s.pool.marks }) (step s c)

-- in a store of up to 64 slots marks beyond them are not looked at
unfoldable pub beyond_ignored : Build
beyond_ignored s c = step (with_marks s (get_or s.pool.marks 0 0 % 2 ^ length s.pool.owners ∷ 0 ∷ [])) c

-- the room by the first word of marks
unfoldable pub half_room : Store → Room
half_room s =
    room_with (room_of s).answer (length s.pool.owners - marked (take 1 s.pool.marks)) (lowest (take 1 s.pool.marks))

-- ---- stores and a call that show it

-- block 1 lies in the first of two slots
unfoldable pub one_taken : Store
one_taken = made (2 ∷ 0 ∷ []) (places []) 0 0 0

-- all is unmapped
unfoldable pub unmaps_all : Call
unmaps_all = unmap_1 0 0 8

-- a fresh store of two slots, with a mark of a third
unfoldable pub marked_beyond : Store
marked_beyond = with_marks (new 8) (4 ∷ 0 ∷ [])
