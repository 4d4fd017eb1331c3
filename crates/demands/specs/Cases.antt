-- The bench cases A to L.
-- Assumes nothing.
use Rattle.std.specs.Prelude.{List, [], ◌∷◌, ◌++◌, ℕ, ◌+◌, ◌-◌, ◌^◌}
use Rattle.fields.specs.Bytes.{zeros}
use Rattle.fields.specs.Field.{bytes}
use Rattle.store.specs.Store.{Store, Call}
use Rattle.demands.specs.Checker.{good, refused, past_end_at, no_room_at, conflicts, Expect, Case, ◌gives◌}
use Rattle.demands.specs.Bench.{block, new, at, places, two, made, made_of, capacity_10, capacity_16, read_10, read_16, write_10, write_16, unmap_1, out, in_call}

unfoldable pub case_of : Store → List Expect → Store → Case
case_of start calls end = record { start = start; calls = calls; end = end }

-- on a store that is left as it was
unfoldable pub case_still : Store → List Expect → Case
case_still start calls = case_of start calls start

-- on a fresh one that is
unfoldable pub case_new : ℕ → List Expect → Case
case_new capacity calls = case_still (new capacity) calls

unfoldable pub case_a : Case
case_a = case_new (2 ^ 32 - 1) (capacity_10 0 gives good (bytes 4 0xFFFF_FFFE ++ bytes 4 0x0000_0200) ∷ [])

unfoldable pub case_b : Case
case_b = case_new (2 ^ 32) (capacity_10 0 gives good (bytes 4 0xFFFF_FFFF ++ bytes 4 0x0000_0200) ∷ [])

-- byte 14 is C0h
unfoldable pub case_c : Case
case_c = case_new (2 ^ 32 + 1)
    (capacity_10 0 gives good (bytes 4 0xFFFF_FFFF ++ bytes 4 0x0000_0200)
    ∷ capacity_16 0 gives good (bytes 8 0x0000_0001_0000_0000 ++ (bytes 4 0x0000_0200 ++ (0 ∷ 0 ∷ 0xC0 ∷ zeros 17))) ∷ [])

-- slip 1: the sum does not wrap, in READ, and besides in WRITE and UNMAP; the address has no room in fixed format, and no part of it is shown
unfoldable pub case_d : Case
case_d = case_new (2 ^ 40)
    (read_16 0 0xFFFF_FFFF_FFFF_FFFF 1 gives refused 3 0x05 0x21 0x00
    ∷ write_16 0 0xFFFF_FFFF_FFFF_FFFF 2 (block 0xB0 ++ block 0xC0) gives refused 3 0x05 0x21 0x00
    ∷ unmap_1 0 0xFFFF_FFFF_FFFF_FFFF 2 gives refused 3 0x05 0x21 0x00 ∷ [])

unfoldable pub case_e : Case
case_e = case_new 8 (read_10 0 7 1 gives good (zeros 512) ∷ read_10 0 7 2 gives past_end_at 7 ∷ [])

unfoldable pub case_f : Case
case_f = case_new 8 (read_10 0 8 0 gives good [] ∷ read_10 0 9 0 gives past_end_at 9 ∷ [])

-- slip 2: no block of a write that meets 8 is mapped
unfoldable pub case_g : Case
case_g = case_new 8
    (write_10 0 0 3 (block 0xB0 ++ (block 0xC0 ++ block 0xD0)) gives no_room_at 0
    ∷ read_10 0 0 2 gives good (zeros 1024) ∷ [])

-- the write whose second block has no slot, or has one
unfoldable pub write_h : Call
write_h = write_10 0 1 2 (block 0xB0 ++ block 0xC0)

-- fresh: blocks 0 and 1 get the slots 0 and 1; in the end block 2 is in slot 0, and each block has its own bytes
unfoldable pub case_h : Case
case_h = case_of (new 8)
    (write_10 0 0 2 (block 0x30 ++ block 0x40) gives good []
    ∷ write_h gives no_room_at 1
    ∷ read_10 0 0 2 gives good (block 0x30 ++ block 0x40)
    ∷ unmap_1 0 0 1 gives good []
    ∷ write_h gives good []
    ∷ read_10 0 1 2 gives good (block 0xB0 ++ block 0xC0)
    ∷ read_16 0 2 1 gives good (block 0xC0)
    ∷ read_10 0 0 1 gives good (zeros 512) ∷ [])
    (made_of (3 ∷ 2 ∷ []) (block 0xC0 ++ block 0xB0) (places []) 0 0 0)

-- slip 4: an outsider learns of the conflict, not of the room
unfoldable pub case_i : Case
case_i = case_still (made (0 ∷ 0 ∷ []) two 5 1 0)
    (read_10 3 0 1 gives good (zeros 512)
    ∷ write_10 3 0 1 (block 0xB0) gives conflicts
    ∷ write_10 3 0 3 (block 0xB0 ++ (block 0xC0 ++ block 0xD0)) gives conflicts
    ∷ unmap_1 3 0 1 gives conflicts ∷ [])

-- and a registered nexus reads
unfoldable pub case_j : Case
case_j = case_still (made (0 ∷ 0 ∷ []) two 6 1 0)
    (read_10 3 0 1 gives conflicts
    ∷ capacity_10 3 gives good (bytes 4 7 ++ bytes 4 512)
    ∷ read_10 2 0 1 gives good (zeros 512) ∷ [])

unfoldable pub case_k : Case
case_k = case_of (made (0 ∷ 0 ∷ []) two 0 0 0xFFFF_FFFF)
    (out 3 0 0 0 0x33 gives good []
    ∷ in_call 3 0 gives good (bytes 4 0 ++ (bytes 4 24 ++ (bytes 8 0x11 ++ (bytes 8 0x22 ++ bytes 8 0x33)))) ∷ [])
    (made (0 ∷ 0 ∷ []) (places (at 1 0x11 ∷ at 2 0x22 ∷ at 3 0x33 ∷ [])) 0 0 0)

-- the other names the type that stands, and another
unfoldable pub case_l : Case
case_l = case_still (made (0 ∷ 0 ∷ []) two 1 1 0)
    (out 1 2 3 0x11 0 gives refused 7 0x05 0x26 0x04
    ∷ out 2 2 1 0x22 0 gives good []
    ∷ out 2 2 3 0x22 0 gives good []
    ∷ in_call 2 1 gives good (bytes 4 0 ++ (bytes 4 16 ++ (bytes 8 0x11 ++ (zeros 5 ++ (1 ∷ zeros 2))))) ∷ [])

unfoldable pub cases : List Case
cases = case_a ∷ case_b ∷ case_c ∷ case_d ∷ case_e ∷ case_f ∷ case_g ∷ case_h ∷ case_i ∷ case_j ∷ case_k ∷ case_l ∷ []
