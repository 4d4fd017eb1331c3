-- Commands on the blocks and their map: READ, WRITE, WRITE SAME, UNMAP, GET LBA STATUS. They are guarded by the reservation, and change the pool
-- alone.
-- Assumes nothing.
use Rattle.std.specs.Prelude.{Bool, not, ◌&&◌, List, [], ◌∷◌, ℕ, ◌+◌, ◌*◌, leb, ltb, length, take}
use Rattle.answers.specs.declared.Answer.TheVariants.{Short}
use Rattle.answers.specs.Answers.{out_of_range, list_length, list_field, no_room}
use Rattle.answers.specs.Order.{Row, ◌if◌}
use Rattle.pool.specs.Bounds.{block_bytes}
use Rattle.pool.specs.Pool.{Pool, with_owners, read_blocks, write_blocks, room_for}
use Rattle.descriptors.specs.Descriptors.{data_length_bits, most_descriptors, considered, first_failing, address_of, some_fails, unmap_all}
use Rattle.runs.specs.Page.{status_data}
use Rattle.forms.specs.declared.Move.{Move}
use Rattle.forms.specs.declared.Move.TheVariants.{Read, Write, WriteSame, Unmap, Status}
use Rattle.forms.specs.declared.Request.{Request}
use Rattle.forms.specs.Forms.{count_in, allocation_in, list_length_in}
use Rattle.store.specs.Store.{Call}
use Rattle.store.specs.Same.{has_no_data, unmaps_same, same_blocks}

-- "block address + count > capacity"; the sum is one of numbers and cannot wrap
unfoldable pub past_end : ℕ → ℕ → ℕ → Bool
past_end capacity address count = ltb capacity (address + count)

-- "READ: 10, 3, 12. WRITE: 10, 3, 12, 8."
-- "UNMAP: 10; list length 0 gives GOOD; length 1 to 7 gives 4; 12; more than 16 descriptors 5; 3 if any descriptor fails."
-- These are the tests after the 10, of the blocks from `address` on. Q-8: "Answers 3 and 8 carry the command's first address".
unfoldable pub read_rows : ℕ → ℕ → ℕ → List ℕ → List Row
read_rows capacity address count data_in =
    out_of_range address if past_end capacity address count
    ∷ Short if ltb (length data_in) (block_bytes * count)
    ∷ []

unfoldable pub write_rows : ℕ → List ℕ → ℕ → ℕ → List ℕ → List Row
write_rows capacity owners address count data_out =
    out_of_range address if past_end capacity address count
    ∷ Short if ltb (length data_out) (block_bytes * count)
    ∷ no_room address if not (room_for owners address count)
    ∷ []

-- Q-1: "WRITE SAME in WRITE's order, 12 for less than 512 bytes of data-out unless NDOB": 3, 12, 8 after the 10; unmapping needs no room
unfoldable pub same_rows : ℕ → List ℕ → ℕ → ℕ → ℕ → List ℕ → List Row
same_rows capacity owners address count options data_out =
    out_of_range address if past_end capacity address count
    ∷ Short if (not (has_no_data options) && ltb (length data_out) block_bytes)
    ∷ no_room address if (not (unmaps_same options data_out) && not (room_for owners address count))
    ∷ []

-- of a parameter list of n bytes; Q-4: "more than 16 descriptors points at list byte 2"; Q-8: "for UNMAP that of the first failing descriptor"
unfoldable pub unmap_rows : ℕ → ℕ → List ℕ → List Row
unmap_rows capacity n data_out =
    list_length if (leb 1 n && leb n 7)
    ∷ Short if ltb (length data_out) n
    ∷ list_field data_length_bits if ltb most_descriptors (considered n data_out)
    ∷ out_of_range (address_of (first_failing capacity data_out 8 (considered n data_out))) if some_fails capacity data_out 8 (considered n data_out)
    ∷ []

-- what GET LBA STATUS tells where n is the allocation length: "the returned bytes are the first min(allocation length, available); length
-- fields inside are not shortened"
unfoldable pub status_told : ℕ → List ℕ → ℕ → ℕ → List ℕ
status_told capacity owners address n = take n (status_data capacity owners address)

-- Q-1: "status 10, 3 for a start at or past capacity, 12"; these are the tests after the 10
unfoldable pub status_rows : ℕ → List ℕ → ℕ → ℕ → List ℕ → List Row
status_rows capacity owners address n data_in =
    out_of_range address if leb capacity address
    ∷ Short if ltb (length data_in) (length (status_told capacity owners address n))
    ∷ []

unfoldable pub move_rows : Move → Request → ℕ → Pool → Call → List Row
move_rows Read q capacity p c = read_rows capacity q.address.0 (count_in q) c.data_in
move_rows Write q capacity p c = write_rows capacity p.owners q.address.0 (count_in q) c.data_out
move_rows WriteSame q capacity p c = same_rows capacity p.owners q.address.0 (count_in q) q.options c.data_out
move_rows Unmap q capacity p c = unmap_rows capacity (list_length_in q) c.data_out
move_rows Status q capacity p c = status_rows capacity p.owners q.address.0 (allocation_in q) c.data_in

-- the pool after a command that nothing refuses
unfoldable pub moved : Move → Request → Pool → Call → Pool
moved Read q p c = p
moved Write q p c = write_blocks p q.address.0 (count_in q) c.data_out
moved WriteSame q p c = same_blocks p q.address.0 (count_in q) q.options c.data_out
moved Unmap q p c = with_owners p (unmap_all p.owners c.data_out 8 (considered (list_length_in q) c.data_out))
moved Status q p c = p

-- the bytes that it returns
unfoldable pub fetched : Move → Request → ℕ → Pool → List ℕ
fetched Read q capacity p = read_blocks p q.address.0 (count_in q)
fetched Write q capacity p = []
fetched WriteSame q capacity p = []
fetched Unmap q capacity p = []
fetched Status q capacity p = status_told capacity p.owners q.address.0 (allocation_in q)
