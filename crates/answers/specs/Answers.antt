-- The answers: what document 01 gives each as number, status, sense key and codes.
-- Assumes nothing.
use Rattle.std.specs.Prelude.{Bool, ℕ, eqb, Option, Some, None}
use Rattle.fields.specs.Bits.{Bits, first_byte, top_bit, bit_count}
use Rattle.answers.specs.declared.Refusal.{Refusal}
use Rattle.answers.specs.declared.Refusal.TheVariants.{NotListed, InvalidField, OutOfRange, ListLength, ListField, NoPlace, OtherType, NoRoom, RegistrationsPreempted, ReservationsPreempted, ReservationsReleased}
use Rattle.answers.specs.declared.Codes.{Codes}
use Rattle.answers.specs.declared.Answer.{Answer}
use Rattle.answers.specs.declared.Answer.TheVariants.{Good, Refused, Conflict, Unusable, Short}

-- ---- the table of the answers that come with sense

-- "No.", "Sense (key/ASC/ASCQ)"
abbrev pub codes : ℕ → ℕ → ℕ → ℕ → Codes
codes number key asc ascq = record { number = number; key = key; asc = asc; ascq = ascq }

unfoldable pub codes_of : Refusal → Codes
-- "operation code not listed"
codes_of NotListed = codes 1 0x05 0x20 0x00
-- "a field of the CDB, as named below"
codes_of (InvalidField at top n) = codes 2 0x05 0x24 0x00
-- "block address + count > capacity"
codes_of (OutOfRange address) = codes 3 0x05 0x21 0x00
-- "parameter list length"
codes_of ListLength = codes 4 0x05 0x1A 0x00
-- "a field of the parameter list"
codes_of (ListField at top n) = codes 5 0x05 0x26 0x00
-- "new registration, all 8 places used"
codes_of NoPlace = codes 6 0x05 0x55 0x04
-- "holder's RELEASE names another type"
codes_of OtherType = codes 7 0x05 0x26 0x04
-- "more unmapped blocks in a write than free slots"
codes_of (NoRoom address) = codes 8 0x07 0x27 0x07
-- Q-6: "2A/05 registrations preempted …; 2A/03 reservations preempted …; 2A/04 reservations released", "key 06h", "13, status 02h"
codes_of RegistrationsPreempted = codes 13 0x06 0x2A 0x05
codes_of ReservationsPreempted = codes 13 0x06 0x2A 0x03
codes_of ReservationsReleased = codes 13 0x06 0x2A 0x04

abbrev pub not_listed : Answer
not_listed = Refused NotListed

-- Q-4: "For answers 2 and 5 fill sense bytes 15 to 17": they name the field that is wrong
abbrev pub invalid_field : Bits → Answer
invalid_field wrong = Refused (InvalidField (first_byte wrong) (top_bit wrong) (bit_count wrong))

-- Q-8: "Answers 3 and 8 carry the command's first address, or for UNMAP that of the first failing descriptor"
abbrev pub out_of_range : ℕ → Answer
out_of_range address = Refused (OutOfRange address)

abbrev pub list_length : Answer
list_length = Refused ListLength

abbrev pub list_field : Bits → Answer
list_field wrong = Refused (ListField (first_byte wrong) (top_bit wrong) (bit_count wrong))

abbrev pub no_place : Answer
no_place = Refused NoPlace

abbrev pub other_type : Answer
other_type = Refused OtherType

abbrev pub no_room : ℕ → Answer
no_room address = Refused (NoRoom address)

-- ---- number and status of every answer

-- document 01's number of each answer; "Number 9 is not used"
unfoldable pub number_of : Answer → ℕ
number_of Good = 0
number_of (Refused refusal) = (codes_of refusal).number
number_of Conflict = 10
number_of Unusable = 11
number_of Short = 12

-- Q-6: the answer returns what waited for its caller
unfoldable pub is_attention : Answer → Bool
is_attention a = eqb (number_of a) 13

-- the status byte of each answer: 00h, 02h, 18h, or none
unfoldable pub status_of : Answer → Option ℕ
status_of Good = Some 0x00
status_of (Refused refusal) = Some 0x02
status_of Conflict = Some 0x18
status_of Unusable = None
status_of Short = None
