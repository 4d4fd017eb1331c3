-- Builds that are wrong in what sense tells, and the laws refuse them: one shows a clipped address, one tells the last descriptor that fails, one
-- tells a place as if it were an address, one clears what lies past the header.
-- Assumes nothing.
use Rattle.std.specs.Prelude.{◌&&◌, cond, List, [], ◌∷◌, ◌++◌, ℕ, ◌+◌, ◌^◌, eqb}
use Rattle.fields.specs.Bytes.{zeros}
use Rattle.fields.specs.Field.{byte, field, bytes}
use Rattle.answers.specs.Answers.{out_of_range}
use Rattle.answers.specs.Sense.{descriptor}
use Rattle.descriptors.specs.declared.Descriptor.{Descriptor}
use Rattle.descriptors.specs.Descriptors.{considered}
use Rattle.store.specs.Store.{Store, Call, seen_of}
use Rattle.store.specs.Step.{step}
use Rattle.demands.specs.History.{Build}
use Rattle.demands.specs.Contents.{cdb16, call_with, descriptors_from}
use Rattle.demands.specs.Sensed.{all_inside}
use Rattle.demands.specs.SenseCases.{in_format}
use Rattle.demands.specs.WrongBuilds.{shown, showing}
use Rattle.demands.specs.WrongPointers.{answers, sensed}

-- ---- the builds

-- an address that does not fit is shown by its last four bytes, and VALID is set
unfoldable pub clipped : Build
clipped s c =
    cond (answers 3 s c && eqb (byte 0 (step s c).seen.sense) 0x70)
    (record { seen = sensed 3 (bytes 4 (field 6 4 c.cdb)) (sensed 0 (0xF0 ∷ []) (step s c).seen); store = s })
    (step s c)

-- where the last descriptor that reaches past the capacity begins
unfoldable pub last_fails : ℕ → List Descriptor → ℕ
last_fails capacity [] = 0
last_fails capacity (d ∷ ds) = cond (all_inside capacity ds) d.address.0 (last_fails capacity ds)

unfoldable pub last_told : Build
last_told s c =
    cond (eqb (byte 0 c.cdb) 0x42 && answers 3 s c)
    (record {
      seen = seen_of s.format (out_of_range (last_fails s.unit.capacity (descriptors_from c.data_out 8 (considered (field 7 2 c.cdb) c.data_out)))) [] c;
      store = s;
    })
    (step s c)

-- the place has a descriptor of type 00h
unfoldable pub place_as_address : Build
place_as_address s c =
    cond (answers 2 s c && eqb s.format descriptor) (record { seen = sensed 8 (0x00 ∷ []) (step s c).seen; store = s }) (step s c)

-- 12 bytes behind the header are cleared
unfoldable pub cleared_past : Build
cleared_past s c =
    cond (answers 1 s c && eqb s.format descriptor) (record { seen = sensed 8 (zeros 12) (step s c).seen; store = s }) (step s c)

-- ---- the calls that show it, on the store `shown` of WrongBuilds, of capacity 8, or on one like it with descriptor sense

unfoldable pub shown_described : Store
shown_described = in_format descriptor shown

-- READ(16) of a block far past the end
unfoldable pub reads_far : Call
reads_far = showing (cdb16 0x88 (2 ^ 33 + 5) 1) 3 []

-- UNMAP by the holder, of blocks 8 and 9
unfoldable pub unmaps_two : Call
unmaps_two =
    showing (0x42 ∷ (zeros 6 ++ (0 ∷ 40 ∷ 0 ∷ []))) 1
    (bytes 2 38 ++ (bytes 2 32 ++ (zeros 4 ++ (bytes 8 8 ++ (bytes 4 1 ++ (zeros 4 ++ (bytes 8 9 ++ (bytes 4 1 ++ zeros 4))))))))

-- 24 bytes of sense, of which each is 99h
unfoldable pub marked : List ℕ → Call
marked cdb = call_with cdb 3 [] [] (0x99 ∷ 0x99 ∷ 0x99 ∷ 0x99 ∷ 0x99 ∷ 0x99 ∷ 0x99 ∷ 0x99 ∷ 0x99 ∷ 0x99 ∷ 0x99 ∷ 0x99 ∷ (zeros 12))

-- TEST UNIT READY with NACA, and an operation code that is not listed
unfoldable pub controlled : Call
controlled = marked (zeros 5 ++ (4 ∷ []))

unfoldable pub unknown : Call
unknown = marked (0x01 ∷ zeros 5)
