-- Sense data: what is told of a refusal, and the bytes that tell it in each of the two formats.
-- Assumes nothing.
use Rattle.std.specs.Prelude.{Bool, ◌||◌, cond, List, [], ◌∷◌, ◌++◌, ℕ, ◌+◌, ◌%◌, eqb, leb, length}
use Rattle.fields.specs.Bytes.{put}
use Rattle.fields.specs.Field.{bytes}
use Rattle.answers.specs.declared.Refusal.{Refusal}
use Rattle.answers.specs.declared.Refusal.TheVariants.{NotListed, InvalidField, OutOfRange, ListLength, ListField, NoPlace, OtherType, NoRoom, RegistrationsPreempted, ReservationsPreempted, ReservationsReleased}
use Rattle.answers.specs.declared.Codes.{Codes}
use Rattle.answers.specs.declared.Answer.{Answer}
use Rattle.answers.specs.declared.Answer.TheVariants.{Good, Refused, Conflict, Unusable, Short}
use Rattle.answers.specs.declared.sense.Detail.{Detail}
use Rattle.answers.specs.declared.sense.Detail.TheVariants.{Nothing, Pointer, Address}
use Rattle.answers.specs.Answers.{codes_of}

-- ---- the formats

-- Q-8: "Chosen when a store is made fresh, sense is fixed as now or descriptor format (72h; …)": a format is named by its response code
abbrev pub fixed : ℕ
fixed = 0x70

abbrev pub descriptor : ℕ
descriptor = 0x72

unfoldable pub format_ok : ℕ → Bool
format_ok format = eqb format fixed || eqb format descriptor

-- "the first 18 bytes of the sense buffer"
abbrev pub fixed_most : ℕ
fixed_most = 18

-- Q-8: "sense needs 20 bytes"
abbrev pub descriptor_most : ℕ
descriptor_most = 20

-- how many bytes a sense buffer must have
unfoldable pub sense_bytes : ℕ → ℕ
sense_bytes format = cond (eqb format descriptor) descriptor_most fixed_most

-- ---- what is told beside key and codes

unfoldable pub detail_of : Refusal → Detail
-- Q-4: "byte 15 bit 7 set, bit 6 set for the CDB and clear for the list, bit 3 set, bits 2-0 the top bit of the field; 16-17 the field's first byte"
detail_of (InvalidField at top n) = Pointer (0xC8 + top % 8) at
detail_of (ListField at top n) = Pointer (0x88 + top % 8) at
-- Q-8: "Answers 3 and 8 carry the command's first address, or for UNMAP that of the first failing descriptor."
detail_of (OutOfRange address) = Address address
detail_of (NoRoom address) = Address address
-- and no other answer has anything to tell
detail_of NotListed = Nothing
detail_of ListLength = Nothing
detail_of NoPlace = Nothing
detail_of OtherType = Nothing
detail_of RegistrationsPreempted = Nothing
detail_of ReservationsPreempted = Nothing
detail_of ReservationsReleased = Nothing

-- ---- fixed format

-- "byte 0 70h, byte 2 the key, byte 7 0Ah, bytes 12 and 13 the codes, others 0", but for the address in 3 to 6 and Q-4's 15 to 17
unfoldable pub fixed_bytes : ℕ → Codes → ℕ → ℕ → ℕ → List ℕ
fixed_bytes response k address mark at =
    response ∷ 0 ∷ k.key ∷ (bytes 4 address ++ (0x0A ∷ 0 ∷ 0 ∷ 0 ∷ 0 ∷ k.asc ∷ k.ascq ∷ 0 ∷ mark ∷ bytes 2 at))

-- Q-8: "In fixed format a value above FFFF_FFFFh leaves VALID and the field 0, never a clipped number; any other sets byte 0 to F0h."
unfoldable pub fixed_with : Codes → Detail → List ℕ
fixed_with k Nothing = fixed_bytes 0x70 k 0 0 0
fixed_with k (Pointer mark at) = fixed_bytes 0x70 k 0 mark at
fixed_with k (Address address) = cond (leb address 0xFFFF_FFFF) (fixed_bytes 0xF0 k address 0 0) (fixed_bytes 0x70 k 0 0 0)

-- ---- descriptor format

-- Q-8: "72h; key, ASC, ASCQ in bytes 1-3; additional length in 7", "8 header bytes"
unfoldable pub header_bytes : Codes → ℕ → List ℕ
header_bytes k more = 0x72 ∷ k.key ∷ k.asc ∷ k.ascq ∷ 0 ∷ 0 ∷ 0 ∷ more ∷ []

-- Q-8: "Q-4's place alone (type 02h, length 06h)": the three bytes, which in fixed format are 15 to 17
unfoldable pub pointer_descriptor : ℕ → ℕ → List ℕ
pointer_descriptor mark at = 0x02 ∷ 0x06 ∷ 0 ∷ 0 ∷ mark ∷ (bytes 2 at ++ (0 ∷ []))

-- Q-8: "an information descriptor (type 00h, length 0Ah)"; VALID is set
unfoldable pub address_descriptor : ℕ → List ℕ
address_descriptor address = 0x00 ∷ 0x0A ∷ 0x80 ∷ 0 ∷ bytes 8 address

unfoldable pub descriptor_of : Detail → List ℕ
descriptor_of Nothing = []
descriptor_of (Pointer mark at) = pointer_descriptor mark at
descriptor_of (Address address) = address_descriptor address

unfoldable pub described_with : Codes → Detail → List ℕ
described_with k detail = header_bytes k (length (descriptor_of detail)) ++ descriptor_of detail

-- ---- either

-- the sense data of a refusal
unfoldable pub sense_data : ℕ → Refusal → List ℕ
sense_data format refusal =
    cond (eqb format descriptor) (described_with (codes_of refusal) (detail_of refusal)) (fixed_with (codes_of refusal) (detail_of refusal))

-- how many bytes of the buffer an answer writes
unfoldable pub sense_written : ℕ → Answer → ℕ
sense_written format Good = 0
sense_written format (Refused refusal) = length (sense_data format refusal)
sense_written format Conflict = 0
sense_written format Unusable = 0
sense_written format Short = 0

-- "Where a status is 02h the first 18 bytes of the sense buffer become fixed format … Otherwise sense is untouched, as are sense bytes past 18 always";
-- Q-8: "In the new one the 8 header bytes and any descriptor are written and nothing past them"
unfoldable pub sense_after : ℕ → Answer → List ℕ → List ℕ
sense_after format Good l = l
sense_after format (Refused refusal) l = put l 0 (sense_data format refusal)
sense_after format Conflict l = l
sense_after format Unusable l = l
sense_after format Short l = l
