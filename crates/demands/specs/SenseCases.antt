-- Cases of sense data in both formats, each byte of which is written out.
-- Assumes nothing.
use Rattle.std.specs.Prelude.{List, [], ◌∷◌, ◌++◌, ℕ, Some, ◌+◌, ◌-◌, ◌^◌}
use Rattle.fields.specs.Bytes.{zeros}
use Rattle.fields.specs.Field.{bytes}
use Rattle.answers.specs.Sense.{descriptor}
use Rattle.store.specs.Store.{Store, Call}
use Rattle.demands.specs.Checker.{Want, good, lays, refused, past_end_at, no_status, Case, ◌gives◌}
use Rattle.demands.specs.Bench.{block, new, lent, ready, cdb_10, cdb_16, descriptor as entry}
use Rattle.demands.specs.Cases.{case_still, case_new}

-- ---- descriptor format: 72h, the key, two codes, three bytes 0, and how many bytes follow

-- 3, and 8, with "an information descriptor (type 00h, length 0Ah)"
unfoldable pub past_end_told : ℕ → Call → Want
past_end_told address =
    lays 3 (Some 0x02) (0x72 ∷ 0x05 ∷ 0x21 ∷ 0x00 ∷ 0 ∷ 0 ∷ 0 ∷ 0x0C ∷ 0x00 ∷ 0x0A ∷ 0x80 ∷ 0x00 ∷ bytes 8 address)

unfoldable pub no_room_told : ℕ → Call → Want
no_room_told address =
    lays 8 (Some 0x02) (0x72 ∷ 0x07 ∷ 0x27 ∷ 0x07 ∷ 0 ∷ 0 ∷ 0 ∷ 0x0C ∷ 0x00 ∷ 0x0A ∷ 0x80 ∷ 0x00 ∷ bytes 8 address)

-- 2, and 5, with "Q-4's place alone (type 02h, length 06h)"
unfoldable pub field_told : ℕ → ℕ → Call → Want
field_told mark at =
    lays 2 (Some 0x02) (0x72 ∷ 0x05 ∷ 0x24 ∷ 0x00 ∷ 0 ∷ 0 ∷ 0 ∷ 0x08 ∷ 0x02 ∷ 0x06 ∷ 0 ∷ 0 ∷ mark ∷ 0 ∷ at ∷ 0 ∷ [])

unfoldable pub list_told : ℕ → ℕ → Call → Want
list_told mark at =
    lays 5 (Some 0x02) (0x72 ∷ 0x05 ∷ 0x26 ∷ 0x00 ∷ 0 ∷ 0 ∷ 0 ∷ 0x08 ∷ 0x02 ∷ 0x06 ∷ 0 ∷ 0 ∷ mark ∷ 0 ∷ at ∷ 0 ∷ [])

-- all others: "the 8 header bytes" alone
unfoldable pub head_told : ℕ → ℕ → ℕ → ℕ → Call → Want
head_told n key asc ascq = lays n (Some 0x02) (0x72 ∷ key ∷ asc ∷ ascq ∷ 0 ∷ 0 ∷ 0 ∷ 0 ∷ [])

-- ---- stores and calls

unfoldable pub in_format : ℕ → Store → Store
in_format format s = record { format = format; unit = s.unit; pool = s.pool }

-- a call that is lent 24 bytes of sense
unfoldable pub wide : List ℕ → List ℕ → Call
wide cdb out = lent 1027 24 0 cdb out

-- UNMAP of three descriptors, of which the second and the third reach past 2^33 blocks
unfoldable pub unmap_three : Call
unmap_three =
    wide (0x42 ∷ (zeros 6 ++ (bytes 2 56 ++ (0 ∷ []))))
    (bytes 2 54 ++ (bytes 2 48 ++ (zeros 4 ++ (entry 5 1 ++ (entry (2 ^ 33 - 1) 2 ++ entry (2 ^ 40) 1)))))

-- ---- the cases

-- "Big stores need addresses above 32 bits in sense": each answer in descriptor format, with what lies past it untouched
unfoldable pub case_described : Case
case_described = case_still (in_format descriptor (new (2 ^ 33)))
    (wide (cdb_16 0x88 (2 ^ 33) 1) [] gives past_end_told (2 ^ 33)
    ∷ wide (cdb_16 0x8A 0xFFFF_FFFF_FFFF_FFFF 1) (block 0xB0) gives past_end_told 0xFFFF_FFFF_FFFF_FFFF
    ∷ wide (cdb_16 0x93 (2 ^ 33 - 1) 2) (block 0xB0) gives past_end_told (2 ^ 33 - 1)
    ∷ wide (0x9E ∷ 0x12 ∷ (bytes 8 (2 ^ 33 + 7) ++ zeros 6)) [] gives past_end_told (2 ^ 33 + 7)
    ∷ unmap_three gives past_end_told (2 ^ 33 - 1)
    ∷ wide (cdb_16 0x8A (2 ^ 33 - 3) 3) (block 0xB0 ++ (block 0xC0 ++ block 0xD0)) gives no_room_told (2 ^ 33 - 3)
    ∷ wide (cdb_10 0x28 0 129) [] gives field_told 0xCF 0x07
    ∷ wide (0x5F ∷ 0 ∷ 0 ∷ 0 ∷ 0 ∷ (bytes 4 24 ++ (0 ∷ []))) (zeros 20 ++ (1 ∷ zeros 3)) gives list_told 0x88 0x14
    ∷ wide (0x01 ∷ zeros 5) [] gives head_told 1 0x05 0x20 0x00
    ∷ wide (0x42 ∷ (zeros 6 ++ (bytes 2 7 ++ (0 ∷ [])))) (zeros 7) gives head_told 4 0x05 0x1A 0x00
    ∷ wide (cdb_10 0x28 0 1) [] gives good (zeros 512) ∷ [])

-- "sense needs 20 bytes"
unfoldable pub case_room : Case
case_room = case_still (in_format descriptor (new 8))
    (lent 0 19 0 (zeros 6) [] gives no_status 11
    ∷ lent 0 18 0 (0x01 ∷ zeros 5) [] gives no_status 11
    ∷ lent 0 20 0 (zeros 6) [] gives good []
    ∷ lent 0 20 0 (cdb_10 0x28 8 1) [] gives past_end_told 8 ∷ [])

-- "In fixed format a value above FFFF_FFFFh leaves VALID and the field 0, never a clipped number; any other sets byte 0 to F0h.": on both sides, and 0
unfoldable pub case_shown : Case
case_shown = case_new 0xFFFF_FFFF
    (wide (cdb_10 0x28 0xFFFF_FFFF 1) [] gives past_end_at 0xFFFF_FFFF
    ∷ wide (cdb_16 0x88 0x1_0000_0000 1) [] gives refused 3 0x05 0x21 0x00
    ∷ wide (cdb_16 0x88 0x1_0000_0007 1) [] gives refused 3 0x05 0x21 0x00
    ∷ unmap_three gives refused 3 0x05 0x21 0x00 ∷ [])

unfoldable pub case_nought : Case
case_nought = case_new 2 (wide (cdb_10 0x28 0 3) [] gives past_end_at 0 ∷ lent 0 18 0 (cdb_10 0x28 0 3) [] gives past_end_at 0 ∷ [])

-- answer 8 above 32 bits
unfoldable pub case_full : Case
case_full = case_new (2 ^ 33) (wide (cdb_16 0x8A (2 ^ 32 + 1) 3) (block 0xB0 ++ (block 0xC0 ++ block 0xD0)) gives refused 8 0x07 0x27 0x07 ∷ [])

-- a number that is no format
unfoldable pub case_no_format : Case
case_no_format = case_still (in_format 0x71 (new 8)) (ready 0 gives no_status 11 ∷ wide (0x01 ∷ zeros 5) [] gives no_status 11 ∷ [])

unfoldable pub case_valid_is_none : Case
case_valid_is_none = case_still (in_format 0xF0 (new 8)) (ready 0 gives no_status 11 ∷ [])

unfoldable pub sense_cases : List Case
sense_cases = case_described ∷ case_room ∷ case_shown ∷ case_nought ∷ case_full ∷ case_no_format ∷ case_valid_is_none ∷ []
