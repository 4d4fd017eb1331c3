-- Further cases: the easy slips, counts, registrations, UNMAP lists, fields, flags, types, what is told, pages, places, and lent buffers.
-- Assumes nothing.
use Rattle.std.specs.Prelude.{List, [], ◌∷◌, ◌++◌, ℕ, zero, suc, ◌-◌, replicate}
use Rattle.fields.specs.Bytes.{zeros}
use Rattle.fields.specs.Field.{bytes}
use Rattle.answers.specs.Sense.{fixed}
use Rattle.pool.specs.Marks.{marks_of}
use Rattle.rights.specs.Places.{unused}
use Rattle.store.specs.Fresh.{fresh_store, fresh_unit}
use Rattle.store.specs.Store.{Call}
use Rattle.demands.specs.Checker.{past_end_at, no_room_at, good, refused, wrong_field_at, wrong_list_at, conflicts, attention_told, no_status, Case, Want, ◌gives◌}
use Rattle.demands.specs.Bench.{block, new, at, places, two, eight, made, made_of, lent, call, ready, capacity_16, cdb_10, cdb_16, read_10, read_16, write_10, write_16, unmap_list, descriptor, out, in_call}
use Rattle.demands.specs.Cases.{case_of, case_still, case_new}

-- ---- which byte is wrong: sense bytes 15 to 17, of each field that the cases have wrong

-- NACA, in the last byte of a CDB of 6, 10 and 16 bytes
unfoldable pub wrong_naca6 : Call → Want
wrong_naca6 = wrong_field_at (0xCA ∷ 0x00 ∷ 0x05 ∷ [])

unfoldable pub wrong_naca10 : Call → Want
wrong_naca10 = wrong_field_at (0xCA ∷ 0x00 ∷ 0x09 ∷ [])

unfoldable pub wrong_naca16 : Call → Want
wrong_naca16 = wrong_field_at (0xCA ∷ 0x00 ∷ 0x0F ∷ [])

-- READ, WRITE and WRITE SAME: byte 1 bits 7-5, whichever of them is set
unfoldable pub wrong_protection : Call → Want
wrong_protection = wrong_field_at (0xCF ∷ 0x00 ∷ 0x01 ∷ [])

-- and the count, in 7-8 or 10-13
unfoldable pub wrong_count10 : Call → Want
wrong_count10 = wrong_field_at (0xCF ∷ 0x00 ∷ 0x07 ∷ [])

unfoldable pub wrong_count16 : Call → Want
wrong_count16 = wrong_field_at (0xCF ∷ 0x00 ∷ 0x0A ∷ [])

-- ANCHOR, of WRITE SAME and of UNMAP
unfoldable pub wrong_same_anchor : Call → Want
wrong_same_anchor = wrong_field_at (0xCC ∷ 0x00 ∷ 0x01 ∷ [])

unfoldable pub wrong_unmap_anchor : Call → Want
wrong_unmap_anchor = wrong_field_at (0xC8 ∷ 0x00 ∷ 0x01 ∷ [])

-- INQUIRY's byte 2
unfoldable pub wrong_page : Call → Want
wrong_page = wrong_field_at (0xCF ∷ 0x00 ∷ 0x02 ∷ [])

-- byte 1 bits 4-0, a service action that is not listed
unfoldable pub wrong_action : Call → Want
wrong_action = wrong_field_at (0xCC ∷ 0x00 ∷ 0x01 ∷ [])

-- "Byte 2: scope high half, type low half"
unfoldable pub wrong_scope : Call → Want
wrong_scope = wrong_field_at (0xCF ∷ 0x00 ∷ 0x02 ∷ [])

unfoldable pub wrong_type : Call → Want
wrong_type = wrong_field_at (0xCB ∷ 0x00 ∷ 0x02 ∷ [])

-- "more than 16 descriptors points at list byte 2"
unfoldable pub wrong_descriptors : Call → Want
wrong_descriptors = wrong_list_at (0x8F ∷ 0x00 ∷ 0x02 ∷ [])

-- byte 20 of the list, bits 3, 2, 0
unfoldable pub wrong_flag3 : Call → Want
wrong_flag3 = wrong_list_at (0x8B ∷ 0x00 ∷ 0x14 ∷ [])

unfoldable pub wrong_flag2 : Call → Want
wrong_flag2 = wrong_list_at (0x8A ∷ 0x00 ∷ 0x14 ∷ [])

unfoldable pub wrong_flag0 : Call → Want
wrong_flag0 = wrong_list_at (0x88 ∷ 0x00 ∷ 0x14 ∷ [])

-- PREEMPT's service action key, in 8-15
unfoldable pub wrong_key : Call → Want
wrong_key = wrong_list_at (0x8F ∷ 0x00 ∷ 0x08 ∷ [])

-- ---- the cases

-- "Count 128 passes, 129: 2": with no data-out, 128 comes as far as the 12
unfoldable pub case_counts : Case
case_counts = case_new 1024
    (write_10 0 0 128 [] gives no_status 12
    ∷ write_10 0 0 129 [] gives wrong_count10
    ∷ write_16 0 0 128 [] gives no_status 12
    ∷ write_16 0 0 129 [] gives wrong_count16
    ∷ read_16 0 0 0xFFFF_FFFF gives wrong_count16
    ∷ read_10 0 0 128 gives no_status 12
    ∷ read_10 0 0 129 gives wrong_count10 ∷ [])

-- "A ninth registration: 6"; a registered nexus may change its key, and service action key 0 from a stranger changes nothing
unfoldable pub case_ninth : Case
case_ninth = case_of (made (0 ∷ 0 ∷ []) eight 0 0 5)
    (out 9 0 0 0 0x99 gives refused 6 0x05 0x55 0x04
    ∷ out 9 6 0 0 0x99 gives refused 6 0x05 0x55 0x04
    ∷ out 9 0 0 0x99 0x99 gives conflicts
    ∷ out 9 0 0 0 0 gives good []
    ∷ out 9 6 0 0x77 0 gives good []
    ∷ out 8 0 0 0x88 0x80 gives good [] ∷ [])
    (made (0 ∷ 0 ∷ []) (at 1 0x11 ∷ at 2 0x22 ∷ at 3 0x33 ∷ at 4 0x44 ∷ at 5 0x55 ∷ at 6 0x66 ∷ at 7 0x77 ∷ at 8 0x80 ∷ []) 0 0 6)

-- slip 3: RESERVE, RELEASE and refusals leave the generation; REGISTER, PREEMPT and CLEAR raise it
unfoldable pub case_generation : Case
case_generation = case_of (made (0 ∷ 0 ∷ []) two 0 0 7)
    (out 1 1 1 0x11 0 gives good []
    ∷ out 1 1 1 0x11 0 gives good []
    ∷ out 2 1 1 0x22 0 gives conflicts
    ∷ out 1 2 1 0x11 0 gives good []
    ∷ out 3 3 0 0 0 gives conflicts
    ∷ out 1 4 1 0x11 0 gives wrong_key
    ∷ in_call 0 0 gives good (bytes 4 7 ++ (bytes 4 16 ++ (bytes 8 0x11 ++ bytes 8 0x22)))
    ∷ out 3 0 0 0 0x33 gives good []
    ∷ out 1 1 3 0x11 0 gives good []
    ∷ out 2 4 6 0x22 0x11 gives good []
    ∷ ready 1 gives attention_told 0x05
    ∷ in_call 1 1 gives good (bytes 4 9 ++ (bytes 4 16 ++ (bytes 8 0x22 ++ (zeros 5 ++ (6 ∷ zeros 2)))))
    ∷ read_10 1 0 1 gives conflicts
    ∷ out 3 3 0 0x33 0 gives good []
    ∷ in_call 1 1 gives good (bytes 4 10 ++ bytes 4 0)
    ∷ ready 2 gives attention_told 0x03 ∷ [])
    (made (0 ∷ 0 ∷ []) (places []) 0 0 10)

-- a reservation ends when its holder, or the last registrant, is gone
unfoldable pub case_gone : Case
case_gone =
    case_of (made (0 ∷ 0 ∷ []) two 0 0 0)
    (out 1 1 8 0x11 0 gives good []
    ∷ in_call 3 1 gives good (bytes 4 0 ++ (bytes 4 16 ++ (bytes 8 0 ++ (zeros 5 ++ (8 ∷ zeros 2)))))
    ∷ out 1 0 0 0x11 0 gives good []
    ∷ read_10 1 0 1 gives conflicts
    ∷ out 2 6 0 0 0 gives good []
    ∷ read_10 1 0 1 gives good (zeros 512) ∷ [])
    (made (0 ∷ 0 ∷ []) (places []) 0 0 2)

-- PREEMPT of the holder's key spares the sender, who takes over; of any other key it removes the sender too
unfoldable pub case_shared : Case
case_shared =
    case_of (made (0 ∷ 0 ∷ []) (places (at 1 0x11 ∷ at 2 0x11 ∷ at 3 0x22 ∷ [])) 3 1 0)
    (out 2 4 6 0x11 0x11 gives good []
    ∷ ready 1 gives attention_told 0x05
    ∷ in_call 1 0 gives good (bytes 4 1 ++ (bytes 4 16 ++ (bytes 8 0x11 ++ bytes 8 0x22)))
    ∷ read_10 1 0 1 gives conflicts
    ∷ out 3 4 6 0x22 0x22 gives good []
    ∷ in_call 1 0 gives good (bytes 4 2 ++ (bytes 4 8 ++ bytes 8 0x11))
    ∷ read_10 3 0 1 gives conflicts
    ∷ read_10 2 0 1 gives good (zeros 512) ∷ [])
    (made (0 ∷ 0 ∷ []) (places (unused ∷ at 2 0x11 ∷ [])) 6 2 2)

-- PREEMPT with the key 0: 5 but under 7 and 8, after the sender's own 10; there it removes all others, and a sender alone may change the type by it
unfoldable pub case_zero_key : Case
case_zero_key =
    case_of (made (0 ∷ 0 ∷ []) (places (at 1 0x11 ∷ at 2 0x22 ∷ at 3 0x33 ∷ [])) 0 0 0)
    (out 2 4 3 0x22 0 gives wrong_key
    ∷ out 3 1 5 0x33 0 gives good []
    ∷ out 3 4 3 0x33 0 gives wrong_key
    ∷ out 3 2 5 0x33 0 gives good []
    ∷ ready 2 gives attention_told 0x04
    ∷ out 3 1 7 0x33 0 gives good []
    ∷ out 2 4 8 0x33 0 gives conflicts
    ∷ out 4 4 8 0 0 gives conflicts
    ∷ out 2 4 8 0x22 0 gives good []
    ∷ ready 3 gives attention_told 0x05
    ∷ in_call 3 0 gives good (bytes 4 1 ++ (bytes 4 8 ++ bytes 8 0x22))
    ∷ in_call 3 1 gives good (bytes 4 1 ++ (bytes 4 16 ++ (bytes 8 0 ++ (zeros 5 ++ (8 ∷ zeros 2)))))
    ∷ out 2 4 3 0x22 0 gives good []
    ∷ in_call 3 1 gives good (bytes 4 2 ++ (bytes 4 16 ++ (bytes 8 0x22 ++ (zeros 5 ++ (3 ∷ zeros 2)))))
    ∷ ready 1 gives attention_told 0x05
    ∷ write_10 1 0 1 (block 0xB0) gives conflicts
    ∷ read_10 3 0 1 gives conflicts
    ∷ out 2 4 3 0x22 0 gives wrong_key ∷ [])
    (made (0 ∷ 0 ∷ []) (places (unused ∷ at 2 0x22 ∷ [])) 3 2 2)

-- a mapped block keeps its slot and its bytes, and a new one gets the slot that is free
unfoldable pub case_slots : Case
case_slots =
    case_of (made (5 ∷ 0 ∷ []) two 0 0 0)
    (write_16 0 0 1 (block 0xB0) gives good []
    ∷ read_10 0 4 1 gives good (block 0x10)
    ∷ write_10 0 4 1 (block 0xC0) gives good []
    ∷ read_10 0 0 1 gives good (block 0xB0)
    ∷ read_10 0 4 1 gives good (block 0xC0)
    ∷ write_10 0 1 1 (block 0xD0) gives no_room_at 1 ∷ [])
    (made_of (5 ∷ 1 ∷ []) (block 0xC0 ++ block 0xB0) two 0 0 0)

-- UNMAP: list length 0, 1 to 7, longer than the data; 17 descriptors; a second one past the end, before which nothing is unmapped; two that overlap
unfoldable pub case_unmap : Case
case_unmap =
    case_of (made (1 ∷ 3 ∷ []) two 0 0 0)
    (unmap_list 0 [] gives good []
    ∷ unmap_list 7 (zeros 7) gives refused 4 0x05 0x1A 0x00
    ∷ unmap_list 24 (zeros 23) gives no_status 12
    ∷ unmap_list 280 (bytes 2 278 ++ (bytes 2 272 ++ zeros 276)) gives wrong_descriptors
    ∷ unmap_list 40 (bytes 2 38 ++ (bytes 2 32 ++ (zeros 4 ++ (descriptor 0 3 ++ descriptor 8 1)))) gives past_end_at 8
    ∷ read_10 0 0 1 gives good (block 0x10)
    ∷ unmap_list 40 (bytes 2 38 ++ (bytes 2 32 ++ (zeros 4 ++ (descriptor 2 1 ++ descriptor 1 3)))) gives good []
    ∷ read_10 0 2 1 gives good (zeros 512) ∷ [])
    (made (1 ∷ 0 ∷ []) two 0 0 0)

-- "Considered are floor(min(that length, list length - 8) / 16); an incomplete last one is ignored": one by either length, 16; count 0 at the end
unfoldable pub case_considered : Case
case_considered =
    case_of (made (1 ∷ 3 ∷ []) two 0 0 0)
    (unmap_list 32 (bytes 2 30 ++ (bytes 2 24 ++ (zeros 4 ++ (descriptor 0 1 ++ bytes 8 2)))) gives good []
    ∷ unmap_list 40 (bytes 2 38 ++ (bytes 2 16 ++ (zeros 4 ++ (descriptor 5 1 ++ descriptor 2 1)))) gives good []
    ∷ unmap_list 24 (bytes 2 38 ++ (bytes 2 32 ++ (zeros 4 ++ (descriptor 5 1 ++ descriptor 2 1)))) gives good []
    ∷ unmap_list 264 (bytes 2 262 ++ (bytes 2 256 ++ zeros 260)) gives good []
    ∷ unmap_list 24 (bytes 2 22 ++ (bytes 2 16 ++ (zeros 4 ++ descriptor 8 0))) gives good []
    ∷ unmap_list 24 (bytes 2 22 ++ (bytes 2 16 ++ (zeros 4 ++ descriptor 9 0))) gives past_end_at 9 ∷ [])
    (made (0 ∷ 3 ∷ []) two 0 0 0)

-- the tests before a command's own, and those of PERSISTENT RESERVE OUT
unfoldable pub case_fields : Case
case_fields =
    case_still (made (0 ∷ 0 ∷ []) two 0 0 0)
    (call 16 (zeros 6) [] gives no_status 11
    ∷ call 0 [] [] gives no_status 11
    ∷ call 0 (0x01 ∷ []) [] gives refused 1 0x05 0x20 0x00
    ∷ call 0 (zeros 10) [] gives no_status 11
    ∷ call 0 (zeros 5 ++ (4 ∷ [])) [] gives wrong_naca6
    ∷ call 0 (0x12 ∷ 1 ∷ 1 ∷ zeros 3) [] gives wrong_page
    ∷ call 0 (0x12 ∷ 0 ∷ 1 ∷ zeros 3) [] gives wrong_page
    ∷ call 0 (0x12 ∷ 0 ∷ 0 ∷ 0 ∷ 5 ∷ 0 ∷ []) [] gives good (0x00 ∷ 0x00 ∷ 0x06 ∷ 0x02 ∷ 0x1F ∷ [])
    ∷ call 0 (0x28 ∷ 0x20 ∷ zeros 8) [] gives wrong_protection
    ∷ call 0 (0x9E ∷ 0x11 ∷ zeros 14) [] gives wrong_action
    ∷ in_call 0 2 gives wrong_action
    ∷ out 1 5 0 0x11 0 gives wrong_action
    ∷ out 1 1 0x11 0x11 0 gives wrong_scope
    ∷ out 1 4 2 0x11 0x22 gives wrong_type
    ∷ call 1 (0x5F ∷ 0 ∷ 0 ∷ 0 ∷ 0 ∷ (bytes 4 25 ++ (0 ∷ []))) (zeros 25) gives refused 4 0x05 0x1A 0x00
    ∷ call 1 (0x5F ∷ 0 ∷ 0 ∷ 0 ∷ 0 ∷ (bytes 4 24 ++ (0 ∷ []))) (zeros 23) gives no_status 12
    ∷ call 1 (0x5F ∷ 0 ∷ 0 ∷ 0 ∷ 0 ∷ (bytes 4 24 ++ (0 ∷ []))) (zeros 20 ++ (0x04 ∷ zeros 3)) gives wrong_flag2 ∷ [])

-- the first 15 bytes of READ CAPACITY(16): byte 14 is C0h
unfoldable pub capacity_told : List ℕ
capacity_told = bytes 8 7 ++ (bytes 4 512 ++ (0 ∷ 0 ∷ 0xC0 ∷ []))

unfoldable pub inquiry_told : List ℕ
inquiry_told =
    0x00 ∷ 0x00 ∷ 0x06 ∷ 0x02 ∷ 0x1F ∷ 0x00 ∷ 0x00 ∷ 0x00
    ∷ 0x52 ∷ 0x49 ∷ 0x44 ∷ 0x47 ∷ 0x45 ∷ 0x20 ∷ 0x20 ∷ 0x20
    ∷ 0x4C ∷ 0x4F ∷ 0x41 ∷ 0x44 ∷ 0x20 ∷ 0x4C ∷ 0x4F ∷ 0x47 ∷ 0x20 ∷ 0x53 ∷ 0x54 ∷ 0x4F ∷ 0x52 ∷ 0x45 ∷ 0x20 ∷ 0x20
    ∷ 0x30 ∷ 0x31 ∷ 0x30 ∷ 0x30 ∷ []

-- what everybody is told, whole and cut: "length fields inside are not shortened"
unfoldable pub case_told : Case
case_told = case_still (made (0 ∷ 0 ∷ []) two 3 1 9)
    (ready 3 gives good []
    ∷ call 3 (0x12 ∷ 0 ∷ 0 ∷ 0 ∷ 36 ∷ 0 ∷ []) [] gives good inquiry_told
    ∷ call 3 (0x12 ∷ 0 ∷ 0 ∷ 1 ∷ 0 ∷ 0 ∷ []) [] gives good inquiry_told
    ∷ call 3 (0x12 ∷ 0 ∷ 0 ∷ 0 ∷ 0 ∷ 0 ∷ []) [] gives good []
    ∷ capacity_16 3 gives good (capacity_told ++ zeros 17)
    ∷ call 3 (0x9E ∷ 0x10 ∷ (zeros 8 ++ (bytes 4 15 ++ zeros 2))) [] gives good capacity_told
    ∷ call 3 (0x5E ∷ 0 ∷ (zeros 5 ++ (bytes 2 12 ++ (0 ∷ [])))) [] gives good (bytes 4 9 ++ (bytes 4 16 ++ bytes 4 0))
    ∷ call 3 (0x5E ∷ 1 ∷ (zeros 5 ++ (bytes 2 22 ++ (0 ∷ [])))) [] gives good (bytes 4 9 ++ (bytes 4 16 ++ (bytes 8 0x11 ++ (zeros 5 ++ (3 ∷ []))))) ∷ [])

-- INQUIRY with this byte 1, page code and allocation length
unfoldable pub vital : ℕ → ℕ → ℕ → Call
vital first page n = call 3 (0x12 ∷ first ∷ page ∷ (bytes 2 n ++ (0 ∷ []))) []

-- page B0h: 128, FFFF_FFFFh, 16 and 128 where SBC has them, and WSNZ
unfoldable pub limits_told : List ℕ
limits_told =
    0x00 ∷ 0xB0 ∷ 0x00 ∷ 0x3C ∷ 0x01 ∷ 0x00 ∷ 0x00 ∷ 0x00 ∷ 0x00 ∷ 0x00 ∷ 0x00 ∷ 0x80 ∷ (zeros 8
    ++ (0xFF ∷ 0xFF ∷ 0xFF ∷ 0xFF ∷ 0x00 ∷ 0x00 ∷ 0x00 ∷ 0x10 ∷ (zeros 15 ++ (0x80 ∷ zeros 20))))

-- the pages of INQUIRY, whole and cut, to a nexus that is shut out too; bit 0 of byte 1 alone asks for one
unfoldable pub case_pages : Case
case_pages = case_still (made (0 ∷ 0 ∷ []) two 3 1 9)
    (vital 0x01 0x00 255 gives good (0x00 ∷ 0x00 ∷ 0x00 ∷ 0x03 ∷ 0x00 ∷ 0xB0 ∷ 0xB2 ∷ [])
    ∷ vital 0x01 0xB0 64 gives good limits_told
    ∷ vital 0x01 0xB2 0x0100 gives good (0x00 ∷ 0xB2 ∷ 0x00 ∷ 0x04 ∷ 0x00 ∷ 0xC4 ∷ 0x02 ∷ 0x00 ∷ [])
    ∷ vital 0xFF 0xB0 4 gives good (0x00 ∷ 0xB0 ∷ 0x00 ∷ 0x3C ∷ [])
    ∷ vital 0x01 0xB0 0 gives good []
    ∷ vital 0xFE 0x00 5 gives good (0x00 ∷ 0x00 ∷ 0x06 ∷ 0x02 ∷ 0x1F ∷ [])
    ∷ vital 0x00 0xB0 64 gives wrong_page
    ∷ vital 0x01 0x01 64 gives wrong_page
    ∷ vital 0x01 0xB1 64 gives wrong_page
    ∷ lent 63 20 3 (0x12 ∷ 1 ∷ 0xB0 ∷ 0 ∷ 64 ∷ 0 ∷ []) [] gives no_status 12 ∷ [])

-- a CDB of n bytes with this code, byte 1 and control byte
unfoldable pub controlled : ℕ → ℕ → ℕ → ℕ → Call
controlled n code first control = call 0 (code ∷ first ∷ (zeros (n - 3) ++ (control ∷ []))) []

-- "control byte bit 2 (NACA) set, for all commands", in each length of CDB; its other bits are ignored
unfoldable pub case_control : Case
case_control = case_new 8
    (controlled 6 0x00 0 0x04 gives wrong_naca6
    ∷ controlled 6 0x12 0 0x04 gives wrong_naca6
    ∷ controlled 10 0x25 0 0x04 gives wrong_naca10
    ∷ controlled 10 0x28 0 0x04 gives wrong_naca10
    ∷ controlled 10 0x2A 0 0x04 gives wrong_naca10
    ∷ controlled 10 0x42 0 0x04 gives wrong_naca10
    ∷ controlled 10 0x5E 0 0x04 gives wrong_naca10
    ∷ controlled 10 0x5F 0 0x04 gives wrong_naca10
    ∷ controlled 16 0x88 0 0x04 gives wrong_naca16
    ∷ controlled 16 0x8A 0 0x04 gives wrong_naca16
    ∷ controlled 16 0x9E 0x10 0x04 gives wrong_naca16
    ∷ controlled 6 0x00 0 0xFB gives good []
    ∷ controlled 10 0x28 0 0xFB gives good []
    ∷ controlled 16 0x88 0 0xFB gives good [] ∷ [])

-- byte 1: UNMAP's bit 0 (ANCHOR), bits 7-5 of READ and WRITE, and the bits that are ignored
unfoldable pub case_first_byte : Case
case_first_byte = case_new 8
    (controlled 10 0x42 0x01 0 gives wrong_unmap_anchor
    ∷ controlled 10 0x42 0xFE 0 gives good []
    ∷ controlled 10 0x28 0x20 0 gives wrong_protection
    ∷ controlled 10 0x28 0x40 0 gives wrong_protection
    ∷ controlled 10 0x28 0x80 0 gives wrong_protection
    ∷ controlled 10 0x2A 0x20 0 gives wrong_protection
    ∷ controlled 10 0x2A 0x40 0 gives wrong_protection
    ∷ controlled 10 0x2A 0x80 0 gives wrong_protection
    ∷ controlled 16 0x88 0x20 0 gives wrong_protection
    ∷ controlled 16 0x88 0x40 0 gives wrong_protection
    ∷ controlled 16 0x88 0x80 0 gives wrong_protection
    ∷ controlled 16 0x8A 0x20 0 gives wrong_protection
    ∷ controlled 16 0x8A 0x40 0 gives wrong_protection
    ∷ controlled 16 0x8A 0x80 0 gives wrong_protection
    ∷ controlled 10 0x28 0x1F 0 gives good []
    ∷ controlled 10 0x2A 0x1F 0 gives good []
    ∷ controlled 16 0x88 0x1F 0 gives good []
    ∷ controlled 16 0x8A 0x1F 0 gives good [] ∷ [])

-- nexus 1's key in PERSISTENT RESERVE OUT with this action, type and byte 20 of the list
unfoldable pub flagged : ℕ → ℕ → ℕ → Call
flagged action type flags =
    call 1 (0x5F ∷ action ∷ type ∷ 0 ∷ 0 ∷ (bytes 4 24 ++ (0 ∷ []))) (bytes 8 0x11 ++ (bytes 8 0x11 ++ (zeros 4 ++ (flags ∷ zeros 3))))

-- "byte 20 bits 3, 2, 0 any set in actions 0 and 6: 5"
unfoldable pub case_flags : Case
case_flags = case_of (made (0 ∷ 0 ∷ []) two 0 0 0)
    (flagged 0 0 0x08 gives wrong_flag3
    ∷ flagged 0 0 0x04 gives wrong_flag2
    ∷ flagged 0 0 0x01 gives wrong_flag0
    ∷ flagged 0 0 0xF2 gives good []
    ∷ flagged 6 0 0x08 gives wrong_flag3
    ∷ flagged 6 0 0x04 gives wrong_flag2
    ∷ flagged 6 0 0x01 gives wrong_flag0
    ∷ flagged 6 0 0xF2 gives good []
    ∷ flagged 1 3 0x0D gives good []
    ∷ flagged 4 6 0x0D gives good []
    ∷ flagged 2 6 0x0D gives good []
    ∷ flagged 3 0 0x0D gives good []
    ∷ ready 2 gives attention_told 0x03 ∷ [])
    (made (0 ∷ 0 ∷ []) (places []) 0 0 4)

-- "for 1, 2, 4 … a scope not 0 or a type outside the six: 2"; in the others byte 2 is ignored
unfoldable pub case_types : Case
case_types = case_of (made (0 ∷ 0 ∷ []) two 1 1 0)
    (out 1 2 0x00 0x11 0 gives wrong_type
    ∷ out 1 2 0x02 0x11 0 gives wrong_type
    ∷ out 1 2 0x04 0x11 0 gives wrong_type
    ∷ out 1 2 0x09 0x11 0 gives wrong_type
    ∷ out 1 2 0x21 0x11 0 gives wrong_scope
    ∷ out 1 1 0x00 0x11 0 gives wrong_type
    ∷ out 1 1 0x0F 0x11 0 gives wrong_type
    ∷ out 1 4 0x00 0x11 0x22 gives wrong_type
    ∷ out 1 4 0x81 0x11 0x22 gives wrong_scope
    ∷ out 1 0 0x32 0x11 0x11 gives good []
    ∷ out 1 6 0x32 0 0x11 gives good []
    ∷ out 1 2 0x01 0x11 0 gives good []
    ∷ out 1 3 0x32 0x11 0 gives good []
    ∷ ready 2 gives attention_told 0x03 ∷ [])
    (made (0 ∷ 0 ∷ []) (places []) 0 0 3)

-- a CDB of 10 bytes with this code, byte 1, count and control byte, and one of 16
unfoldable pub counted_10 : ℕ → ℕ → ℕ → ℕ → Call
counted_10 code first n control = call 0 (code ∷ first ∷ (zeros 5 ++ (bytes 2 n ++ (control ∷ [])))) []

unfoldable pub counted_16 : ℕ → ℕ → ℕ → ℕ → Call
counted_16 code first n control = call 0 (code ∷ first ∷ (zeros 8 ++ (bytes 4 n ++ (0 ∷ control ∷ [])))) []

-- PERSISTENT RESERVE OUT with this byte 1, byte 2, list length and control byte, and nexus 1's key and all three flags in a list of 25 bytes
unfoldable pub altering : ℕ → ℕ → ℕ → ℕ → Call
altering first second n control =
    call 1 (0x5F ∷ first ∷ second ∷ 0 ∷ 0 ∷ (bytes 4 n ++ (control ∷ []))) (bytes 8 0x11 ++ (zeros 12 ++ (0x0D ∷ zeros 4)))

-- "The field is the first one wrong in 01's order, then by lowest byte, then highest bit": NACA before all others, then byte 1 before the count, bits 7-5
-- before ANCHOR, the scope before the type, and of the flags the highest that is set. Of an action that is not listed nothing else is looked at but
-- NACA. Answers 1 and 4 have zeros in bytes 15 to 17, which are lent as 99h, also where a flag behind a 4 is wrong
unfoldable pub case_places : Case
case_places = case_still (made (0 ∷ 0 ∷ []) two 0 0 0)
    (counted_10 0x28 0xE0 129 0x04 gives wrong_naca10
    ∷ counted_10 0x28 0xE0 129 0xFB gives wrong_protection
    ∷ counted_10 0x28 0x1F 129 0xFB gives wrong_count10
    ∷ counted_10 0x2A 0x20 0xFFFF 0x04 gives wrong_naca10
    ∷ counted_10 0x2A 0x20 0xFFFF 0x00 gives wrong_protection
    ∷ counted_16 0x88 0x80 129 0x04 gives wrong_naca16
    ∷ counted_16 0x88 0x80 129 0x00 gives wrong_protection
    ∷ counted_16 0x8A 0xFF 129 0xFF gives wrong_naca16
    ∷ counted_16 0x8A 0xFF 129 0x00 gives wrong_protection
    ∷ counted_16 0x93 0xF0 0 0x04 gives wrong_naca16
    ∷ counted_16 0x93 0x30 0 0x00 gives wrong_protection
    ∷ counted_16 0x93 0x10 0 0x00 gives wrong_same_anchor
    ∷ counted_16 0x93 0x18 129 0x00 gives wrong_same_anchor
    ∷ counted_16 0x93 0x0F 0 0x00 gives wrong_count16
    ∷ counted_16 0x93 0x0F 129 0x00 gives wrong_count16
    ∷ call 0 (0x12 ∷ 0x01 ∷ 0xB1 ∷ 0 ∷ 0 ∷ 0x04 ∷ []) [] gives wrong_naca6
    ∷ call 0 (0x12 ∷ 0x00 ∷ 0xB1 ∷ 0 ∷ 0 ∷ 0x04 ∷ []) [] gives wrong_naca6
    ∷ counted_10 0x42 0x01 7 0x04 gives wrong_naca10
    ∷ counted_10 0x42 0x01 7 0x00 gives wrong_unmap_anchor
    ∷ counted_10 0x42 0x00 7 0x00 gives refused 4 0x05 0x1A 0x00
    ∷ altering 1 0x12 25 0x04 gives wrong_naca10
    ∷ altering 1 0x12 25 0x00 gives wrong_scope
    ∷ altering 2 0xF0 25 0x00 gives wrong_scope
    ∷ altering 4 0x89 25 0x00 gives wrong_scope
    ∷ altering 4 0x09 25 0x00 gives wrong_type
    ∷ altering 0 0x12 25 0x00 gives refused 4 0x05 0x1A 0x00
    ∷ altering 5 0xFF 25 0x04 gives wrong_naca10
    ∷ altering 0xE5 0xFF 25 0xFB gives wrong_action
    ∷ counted_10 0x5E 0xFF 0 0x04 gives wrong_naca10
    ∷ counted_10 0x5E 0xFF 0xFFFF 0xFB gives wrong_action
    ∷ counted_16 0x9E 0xF1 129 0x04 gives wrong_naca16
    ∷ counted_16 0x9E 0xF1 129 0xFB gives wrong_action
    ∷ flagged 0 0 0x0D gives wrong_flag3
    ∷ flagged 0 0 0x0C gives wrong_flag3
    ∷ flagged 0 0 0x09 gives wrong_flag3
    ∷ flagged 0 0 0x05 gives wrong_flag2
    ∷ flagged 0 0 0xF3 gives wrong_flag0
    ∷ flagged 6 0 0xFF gives wrong_flag3
    ∷ flagged 6 0 0x0C gives wrong_flag3
    ∷ flagged 6 0 0x09 gives wrong_flag3
    ∷ flagged 6 0 0xF7 gives wrong_flag2
    ∷ unmap_list 280 (bytes 2 278 ++ (bytes 2 272 ++ (zeros 4 ++ (descriptor 9 1 ++ zeros 256)))) gives wrong_descriptors
    ∷ call 0 (0x01 ∷ 0xFF ∷ 0xFF ∷ 0xFF ∷ 0xFF ∷ 0xFF ∷ []) [] gives refused 1 0x05 0x20 0x00
    ∷ altering 3 0x12 23 0xFB gives refused 4 0x05 0x1A 0x00 ∷ [])

-- buffers that just suffice, and those that do not: 12 by data-in and data-out, 11 by sense
unfoldable pub case_lent : Case
case_lent = case_of (new 8)
    (lent 0 17 0 (zeros 6) [] gives no_status 11
    ∷ lent 0 18 0 (zeros 6) [] gives good []
    ∷ lent 0 18 0 (zeros 5 ++ (4 ∷ [])) [] gives wrong_naca6
    ∷ lent 35 20 0 (0x12 ∷ 0 ∷ 0 ∷ 0 ∷ 36 ∷ 0 ∷ []) [] gives no_status 12
    ∷ lent 35 20 0 (0x12 ∷ 0 ∷ 0 ∷ 0 ∷ 5 ∷ 0 ∷ []) [] gives good (0x00 ∷ 0x00 ∷ 0x06 ∷ 0x02 ∷ 0x1F ∷ [])
    ∷ lent 7 20 0 (0x25 ∷ zeros 9) [] gives no_status 12
    ∷ lent 31 20 0 (0x9E ∷ 0x10 ∷ (zeros 8 ++ (bytes 4 32 ++ zeros 2))) [] gives no_status 12
    ∷ lent 7 20 0 (0x5E ∷ 0 ∷ (zeros 5 ++ (bytes 2 256 ++ (0 ∷ [])))) [] gives no_status 12
    ∷ lent 7 20 0 (0x5E ∷ 1 ∷ (zeros 5 ++ (bytes 2 256 ++ (0 ∷ [])))) [] gives no_status 12
    ∷ lent 511 20 0 (cdb_10 0x28 7 1) [] gives no_status 12
    ∷ lent 512 20 0 (cdb_16 0x88 7 1) [] gives good (zeros 512)
    ∷ write_10 0 0 2 (block 0xB0 ++ replicate 511 0xC0) gives no_status 12
    ∷ write_10 0 0 1 (block 0xB0 ++ (0xC0 ∷ [])) gives good [] ∷ [])
    (made_of (1 ∷ 0 ∷ []) (block 0xB0 ++ block 0x20) (places []) 0 0 0)

-- "Count 128 passes": 128 blocks are read, lent one byte more than they are
unfoldable pub case_most : Case
case_most = case_new 128 (lent 65537 20 0 (cdb_10 0x28 0 128) [] gives good (zeros 65536) ∷ [])

-- n numbers from x on
unfoldable pub rising : ℕ → ℕ → List ℕ
rising x zero = []
rising x (suc n) = x ∷ rising (suc x) n

unfoldable pub blocks : List ℕ → List ℕ
blocks [] = []
blocks (x ∷ xs) = block x ++ blocks xs

-- and 128 are written, into as many slots. Not one of the list: the checker computes all of it, but the 65,536 bytes in the slots take it half a
-- minute, so that CasesPass has all but them compared (`most_written_passes`)
unfoldable pub case_most_written : Case
case_most_written = case_of (fresh_store 128 fixed 128 (replicate 65536 0xEE))
    (write_10 0 0 128 (blocks (rising 1 128)) gives good [] ∷ [])
    (record { format = fixed; unit = fresh_unit 128; pool = record { owners = rising 1 128; marks = marks_of (rising 1 128); medium = blocks (rising 1 128) } })

unfoldable pub further_cases : List Case
further_cases =
    case_counts ∷ case_ninth ∷ case_generation ∷ case_gone ∷ case_shared ∷ case_zero_key ∷ case_slots ∷ case_unmap ∷ case_considered ∷ case_fields
    ∷ case_told ∷ case_pages ∷ case_control ∷ case_first_byte ∷ case_flags ∷ case_types ∷ case_places ∷ case_lent ∷ case_most ∷ []
