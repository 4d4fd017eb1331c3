-- Cases of Q-1: WRITE SAME(16), what it writes, unmaps and refuses, and what GET LBA STATUS tells of it.
-- Assumes nothing.
use Rattle.std.specs.Prelude.{List, [], ◌∷◌, ◌++◌, ℕ}
use Rattle.fields.specs.Bytes.{zeros}
use Rattle.fields.specs.Field.{bytes}
use Rattle.store.specs.Store.{Call}
use Rattle.demands.specs.Checker.{past_end_at, no_room_at, good, refused, conflicts, no_status, Case, ◌gives◌}
use Rattle.demands.specs.Bench.{block, new, places, two, made, made_of, lent, call, read_10}
use Rattle.demands.specs.Cases.{case_of, case_still}
use Rattle.demands.specs.FurtherCases.{wrong_naca16, wrong_protection, wrong_count16, wrong_same_anchor, wrong_action}

-- "93h: address 2-9, count 10-13", byte 1 as given
unfoldable pub same_16 : ℕ → ℕ → ℕ → ℕ → List ℕ → Call
same_16 nexus options a n out = call nexus (0x93 ∷ options ∷ (bytes 8 a ++ (bytes 4 n ++ zeros 2))) out

-- "9Eh, action 12h", lent so much data-in
unfoldable pub status_lent : ℕ → ℕ → ℕ → ℕ → Call
status_lent room nexus a n = lent room 20 nexus (0x9E ∷ 0x12 ∷ (bytes 8 a ++ (bytes 4 n ++ zeros 2))) []

unfoldable pub status_16 : ℕ → ℕ → ℕ → Call
status_16 nexus a n = status_lent 100 nexus a n

-- a descriptor: address, blocks, status
unfoldable pub told_run : ℕ → ℕ → ℕ → List ℕ
told_run a n status = bytes 8 a ++ (bytes 4 n ++ (status ∷ zeros 3))

-- the header in front of so many
unfoldable pub told_head : ℕ → List ℕ
told_head length = bytes 4 length ++ zeros 4

-- written with UNMAP and a block that is not zeros; no room for a third; unmapped with zeros, of which there is always room; zeros with NDOB, which
-- are mapped without UNMAP; the 513th byte is not looked at
unfoldable pub case_same : Case
case_same = case_of (new 8)
    (same_16 0 0x08 0 2 (block 0x30) gives good []
    ∷ read_10 0 0 2 gives good (block 0x30 ++ block 0x30)
    ∷ status_16 0 0 100 gives good (told_head 36 ++ (told_run 0 2 0 ++ told_run 2 6 1))
    ∷ same_16 0 0x00 2 1 (zeros 512) gives no_room_at 2
    ∷ same_16 0 0x08 0 8 (zeros 512) gives good []
    ∷ status_16 0 0 100 gives good (told_head 20 ++ told_run 0 8 1)
    ∷ same_16 0 0x01 7 1 [] gives good []
    ∷ status_16 0 0 100 gives good (told_head 36 ++ (told_run 0 7 1 ++ told_run 7 1 0))
    ∷ read_10 0 7 1 gives good (zeros 512)
    ∷ same_16 0 0x09 7 1 [] gives good []
    ∷ same_16 0 0x06 0 1 (block 0x40 ++ (0xFF ∷ [])) gives good []
    ∷ same_16 0 0x08 0 1 (zeros 512 ++ (0x01 ∷ [])) gives good []
    ∷ status_16 0 0 100 gives good (told_head 20 ++ told_run 0 8 1) ∷ [])
    (made_of (0 ∷ 0 ∷ []) (block 0x40 ++ block 0x30) (places []) 0 0 0)

-- "Count 0 or above 128, WRPROTECT or ANCHOR: 2"; then 3, then 12, in WRITE's order; NACA in both commands
unfoldable pub case_same_refused : Case
case_same_refused = case_still (made (1 ∷ 3 ∷ []) two 0 0 0)
    (same_16 0 0x00 0 0 (zeros 512) gives wrong_count16
    ∷ same_16 0 0x00 9 129 [] gives wrong_count16
    ∷ same_16 0 0x20 0 1 (zeros 512) gives wrong_protection
    ∷ same_16 0 0x80 0 1 (zeros 512) gives wrong_protection
    ∷ same_16 0 0x10 0 1 (zeros 512) gives wrong_same_anchor
    ∷ same_16 0 0x18 0 1 (zeros 512) gives wrong_same_anchor
    ∷ same_16 0 0x00 8 1 [] gives past_end_at 8
    ∷ same_16 0 0x09 1 8 [] gives past_end_at 1
    ∷ same_16 0 0x00 0xFFFF_FFFF_FFFF_FFFF 2 (zeros 512) gives refused 3 0x05 0x21 0x00
    ∷ same_16 0 0x00 0 128 [] gives past_end_at 0
    ∷ same_16 0 0x00 0 1 (zeros 511) gives no_status 12
    ∷ same_16 0 0x08 0 8 (zeros 511) gives no_status 12
    ∷ same_16 0 0x00 1 1 (zeros 512) gives no_room_at 1
    ∷ same_16 0 0x01 1 1 [] gives no_room_at 1
    ∷ call 0 (0x9E ∷ 0x12 ∷ (zeros 13 ++ (0x04 ∷ []))) [] gives wrong_naca16
    ∷ call 0 (0x93 ∷ 0x01 ∷ (zeros 11 ++ (0x01 ∷ 0x00 ∷ 0x04 ∷ []))) [] gives wrong_naca16 ∷ [])

-- blocks 2 and 7 are mapped: from each kind of start, cut by the allocation length, "3 for a start at or past capacity, 12"; the upper bits of
-- byte 1 and byte 14 are ignored, other actions are not
unfoldable pub case_status : Case
case_status = case_still (made (8 ∷ 3 ∷ []) two 0 0 0)
    (status_16 0 0 100 gives good (told_head 68 ++ (told_run 0 2 1 ++ (told_run 2 1 0 ++ (told_run 3 4 1 ++ told_run 7 1 0))))
    ∷ status_16 0 2 100 gives good (told_head 52 ++ (told_run 2 1 0 ++ (told_run 3 4 1 ++ told_run 7 1 0)))
    ∷ status_16 0 4 100 gives good (told_head 36 ++ (told_run 4 3 1 ++ told_run 7 1 0))
    ∷ status_16 0 7 100 gives good (told_head 20 ++ told_run 7 1 0)
    ∷ status_16 0 8 100 gives past_end_at 8
    ∷ status_16 0 0xFFFF_FFFF_FFFF_FFFF 0 gives refused 3 0x05 0x21 0x00
    ∷ status_16 0 0 0 gives good []
    ∷ status_16 0 0 8 gives good (told_head 68)
    ∷ status_16 0 0 25 gives good (told_head 68 ++ (told_run 0 2 1 ++ (0 ∷ [])))
    ∷ status_lent 71 0 0 0xFFFF_FFFF gives no_status 12
    ∷ status_lent 72 0 0 0xFFFF_FFFF gives good (told_head 68 ++ (told_run 0 2 1 ++ (told_run 2 1 0 ++ (told_run 3 4 1 ++ told_run 7 1 0))))
    ∷ status_lent 24 0 0 24 gives good (told_head 68 ++ told_run 0 2 1)
    ∷ lent 100 20 0 (0x9E ∷ 0xF2 ∷ (bytes 8 7 ++ (bytes 4 100 ++ (0xFF ∷ 0 ∷ [])))) [] gives good (told_head 20 ++ told_run 7 1 0)
    ∷ lent 100 20 0 (0x9E ∷ 0x13 ∷ (bytes 8 7 ++ (bytes 4 100 ++ zeros 2))) [] gives wrong_action ∷ [])

-- "Conflicts: as WRITE and as READ", under exclusive access: before 3 and 12, for the outsider and not for the holder
unfoldable pub case_guarded : Case
case_guarded = case_still (made (8 ∷ 3 ∷ []) two 3 1 0)
    (status_16 3 0 100 gives conflicts
    ∷ status_16 3 9 100 gives conflicts
    ∷ status_lent 0 2 0 100 gives conflicts
    ∷ status_16 1 7 100 gives good (told_head 20 ++ told_run 7 1 0)
    ∷ same_16 3 0x09 0 1 [] gives conflicts
    ∷ same_16 2 0x00 9 1 [] gives conflicts ∷ [])

-- and under write exclusive, where everybody may read
unfoldable pub case_readable : Case
case_readable = case_still (made (8 ∷ 3 ∷ []) two 1 1 0)
    (status_16 3 7 100 gives good (told_head 20 ++ told_run 7 1 0)
    ∷ same_16 3 0x09 0 1 [] gives conflicts
    ∷ same_16 2 0x09 0 1 [] gives conflicts ∷ [])

unfoldable pub clearing_cases : List Case
clearing_cases = case_same ∷ case_same_refused ∷ case_status ∷ case_guarded ∷ case_readable ∷ []
