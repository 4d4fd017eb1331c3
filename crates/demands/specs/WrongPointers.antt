-- Builds that are wrong in where they point, and the laws of pointers refuse them: one points at the type where the scope is wrong, one says of a
-- field of the list that it is one of the CDB, one points at a byte where no field is wrong.
-- Assumes nothing.
use Rattle.std.specs.Prelude.{Bool, ◌&&◌, cond, List, [], ◌∷◌, ◌++◌, ℕ, ◌+◌, eqb}
use Rattle.fields.specs.Bytes.{put, zeros}
use Rattle.fields.specs.Field.{byte, bytes}
use Rattle.answers.specs.Answers.{number_of, invalid_field}
use Rattle.forms.specs.Forms.{kind_bits}
use Rattle.store.specs.Store.{Store, Call, Seen, seen_of}
use Rattle.store.specs.Step.{step}
use Rattle.demands.specs.History.{Build}
use Rattle.demands.specs.WrongBuilds.{showing}

-- ---- the builds

-- the call has this answer, by its number
unfoldable pub answers : ℕ → Store → Call → Bool
answers n s c = eqb (number_of (step s c).seen.answer) n

-- PERSISTENT RESERVE OUT with a scope that is not 0 points at the type: byte 15 is CBh where it is CFh
unfoldable pub type_for_scope : Build
type_for_scope s c =
    cond (eqb (byte 0 c.cdb) 0x5F && answers 2 s c && eqb (byte 15 (step s c).seen.sense) 0xCF)
    (record { seen = seen_of s.format (invalid_field kind_bits) [] c; store = s })
    (step s c)

-- what is seen with these bytes laid over the sense from byte i on
unfoldable pub sensed : ℕ → List ℕ → Seen → Seen
sensed i bs x = record { answer = x.answer; returned = x.returned; data_in = x.data_in; sense = put x.sense i bs }

-- "bit 6 set for the CDB and clear for the list": it is set for the list too
unfoldable pub list_as_cdb : Build
list_as_cdb s c =
    cond (answers 5 s c)
    (record { seen = sensed 15 ((byte 15 (step s c).seen.sense + 0x40) ∷ []) (step s c).seen; store = (step s c).store })
    (step s c)

-- answer 1 points at byte 1 of the CDB, as if something were left there
unfoldable pub left_place : Build
left_place s c =
    cond (answers 1 s c) (record { seen = sensed 15 (0xC8 ∷ 0x00 ∷ 0x01 ∷ []) (step s c).seen; store = (step s c).store }) (step s c)

-- ---- the calls that show it, on the store `shown` of WrongBuilds

-- RESERVE of type 1 by the holder with its key, with byte 2 as it may be
unfoldable pub reserve_cdb : ℕ → List ℕ
reserve_cdb two = 0x5F ∷ 1 ∷ two ∷ 0 ∷ 0 ∷ 0 ∷ 0 ∷ 0 ∷ 24 ∷ 0 ∷ []

unfoldable pub reserves : ℕ → Call
reserves two = showing (reserve_cdb two) 1 (bytes 8 0x11 ++ zeros 16)

-- REGISTER with bit 0 of byte 20 of the list set
unfoldable pub registers : Call
registers = showing (0x5F ∷ 0 ∷ 0 ∷ 0 ∷ 0 ∷ 0 ∷ 0 ∷ 0 ∷ 24 ∷ 0 ∷ []) 1 (zeros 20 ++ (1 ∷ 0 ∷ 0 ∷ 0 ∷ []))

-- an operation code that is not listed
unfoldable pub unknown : Call
unknown = showing (0x01 ∷ zeros 5) 1 []
