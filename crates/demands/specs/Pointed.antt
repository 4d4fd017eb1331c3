-- Which byte is wrong, as those put it who serve the store: "Support cannot see which field 05/24/00 means." What a refusal points at is read from
-- its sense as a host reads it, and what it says is said of calls. Of any build, so that wrong ones can be put in; proofs/Pointed proves it of `step`.
-- Assumes nothing.
use Rattle.std.specs.Prelude.{◌≡◌, ◌≢◌, Bool, true, false, ◌&&◌, ◌||◌, List, [], ◌∷◌, ℕ, ◌+◌, ◌*◌, ◌-◌, ◌/◌, ◌%◌, ◌≤◌, ◌<◌, T, eqb, ltb, length, Some}
use Rattle.fields.specs.Field.{field, byte, bit}
use Rattle.fields.specs.Bits.{Bits, within, first_byte, top_bit, bit_count, AgreeIn}
use Rattle.answers.specs.declared.Refusal.{Refusal}
use Rattle.answers.specs.declared.Refusal.TheVariants.{NotListed, InvalidField, OutOfRange, ListLength, ListField, NoPlace, OtherType, NoRoom, RegistrationsPreempted, ReservationsPreempted, ReservationsReleased}
use Rattle.answers.specs.declared.Answer.{Answer}
use Rattle.answers.specs.declared.Answer.TheVariants.{Good, Refused, Conflict, Unusable, Short}
use Rattle.answers.specs.Answers.{number_of, invalid_field, list_field}
use Rattle.answers.specs.Order.{Row, ◌if◌, first, refuses}
use Rattle.forms.specs.declared.Code.{Code}
use Rattle.forms.specs.declared.Request.{Request}
use Rattle.forms.specs.Forms.{entry_of, action_bits, asks, asked_of}
use Rattle.forms.specs.Tests.{check_rows, service_checks, field_rows}
use Rattle.store.specs.Store.{Store, Call, usable}
use Rattle.store.specs.Step.{guard_rows, own_rows}
use Rattle.demands.specs.History.{Build}
use Rattle.demands.specs.Contents.{by_itself, Quiet}
use Rattle.demands.specs.Limits.{Heard}
use Rattle.demands.specs.SenseRead.{specific, sksv, command_data, bpv, bit_pointer, field_pointer}

-- ---- sense, as a host reads it

-- it points at this field, of the CDB where C/D is set, of the parameter list where it is clear
pub record PointsAt (cdb : Bool) (b : Bits) (sense : List ℕ) : Type 0 where
  pub valid : sksv sense ≡ true
  pub which : command_data sense ≡ cdb
  pub bit_valid : bpv sense ≡ true
  pub at_bit : bit_pointer sense ≡ top_bit b
  pub at_byte : field_pointer sense ≡ first_byte b
  -- bits 5 and 4 are reserved
  pub reserved : byte 0 (specific sense) / 16 % 4 ≡ 0

-- ---- the same call with another CDB, or with another list

abbrev pub with_cdb : Call → List ℕ → Call
with_cdb c cdb = record { nexus = c.nexus; cdb = cdb; data_out = c.data_out; data_in = c.data_in; sense = c.sense }

abbrev pub with_list : Call → List ℕ → Call
with_list c list = record { nexus = c.nexus; cdb = c.cdb; data_out = list; data_in = c.data_in; sense = c.sense }

abbrev pub AreBytes : List ℕ → Type 0
AreBytes l = (i : ℕ) → byte i l < 256

-- the bits of a field lie within n bytes
abbrev pub LiesIn : Bits → ℕ → Type 0
LiesIn b n = 8 * first_byte b + (7 - top_bit b) + bit_count b ≤ 8 * n

-- ---- the laws, of calls

pub record Pointed (f : Build) : Type 0 where
  -- "The field is the first one wrong in 01's order": what is answered is the first row of the table that holds
  pub first_in_cdb : (s : Store) (c : Call) → number_of (f s c).seen.answer ≡ 2 → (f s c).seen.answer ≡ first (field_rows (entry_of c.cdb) c.cdb)
  pub first_in_list : (s : Store) (c : Call) → number_of (f s c).seen.answer ≡ 5 → (f s c).seen.answer ≡ first (own_rows (asked_of c.cdb) s c)
  -- and so it is answered, where a call comes as far as its fields, or as far as its list
  pub cdb_due : (s : Store) (c : Call) → Heard s c → (code : Code) → entry_of c.cdb ≡ Some code → length c.cdb ≡ code.long → Quiet s c
      → (b : Bits) → first (field_rows (entry_of c.cdb) c.cdb) ≡ invalid_field b → (f s c).seen.answer ≡ invalid_field b
  pub list_due : (s : Store) (c : Call) → T (usable s) → by_itself s.format c ≡ Good → Quiet s c → first (guard_rows (asked_of c.cdb) s.unit.rights c.nexus) ≡ Good
      → (b : Bits) → first (own_rows (asked_of c.cdb) s c) ≡ list_field b → (f s c).seen.answer ≡ list_field b
  -- "For answers 2 and 5 fill sense bytes 15 to 17": each names a field, and sense points at it
  pub cdb_named : (s : Store) (c : Call) → number_of (f s c).seen.answer ≡ 2 → (b : Bits) × ((f s c).seen.answer ≡ invalid_field b)
  pub list_named : (s : Store) (c : Call) → number_of (f s c).seen.answer ≡ 5 → (b : Bits) × ((f s c).seen.answer ≡ list_field b)
  pub cdb_told : (s : Store) (c : Call) (b : Bits) → (f s c).seen.answer ≡ invalid_field b → PointsAt true b (f s c).seen.sense
  pub list_told_law : (s : Store) (c : Call) (b : Bits) → (f s c).seen.answer ≡ list_field b → PointsAt false b (f s c).seen.sense
  -- the field is there: its bits lie within what was sent
  pub cdb_there : (s : Store) (c : Call) (b : Bits) → (f s c).seen.answer ≡ invalid_field b → LiesIn b (length c.cdb)
  pub list_there : (s : Store) (c : Call) (b : Bits) → (f s c).seen.answer ≡ list_field b → LiesIn b (length c.data_out)
  -- and it is the field that is at fault. Who leaves it as it is, and changes whatever else of the CDB but which command it is and its length, is
  -- answered 2 again
  pub cdb_stays : (s : Store) (c : Call) (b : Bits) → (f s c).seen.answer ≡ invalid_field b
      → (cdb : List ℕ) → AreBytes c.cdb → AreBytes cdb → length cdb ≡ length c.cdb
      → entry_of cdb ≡ entry_of c.cdb → AgreeIn b c.cdb cdb
      → number_of (f s (with_cdb c cdb)).seen.answer ≡ 2
  -- who leaves the field of a list as it is, and changes whatever else of the list, its length too, is refused again
  pub list_stays : (s : Store) (c : Call) (b : Bits) → (f s c).seen.answer ≡ list_field b
      → (list : List ℕ) → AreBytes c.data_out → AreBytes list → AgreeIn b c.data_out list
      → T (refuses (f s (with_list c list)).seen.answer)
  -- every other answer with sense points nowhere
  pub nowhere : (s : Store) (c : Call) (x : Refusal) → (f s c).seen.answer ≡ Refused x
      → number_of (f s c).seen.answer ≢ 2 → number_of (f s c).seen.answer ≢ 5 → field 0 3 (specific (f s c).seen.sense) ≡ 0

-- ---- the places are true, of the table: a row's test depends on the bits of its field alone. That no field is wider than its test is for the cases
-- to show, which have each place as bytes

-- the place that an answer names: none, or a first byte, a highest bit and how many bits
pub data Place : Type 0 where
  unplaced : Place
  placed : ℕ → ℕ → ℕ → Place

unfoldable pub place_of : Refusal → Place
place_of NotListed = unplaced
place_of (InvalidField byte top n) = placed byte top n
place_of (OutOfRange address) = unplaced
place_of ListLength = unplaced
place_of (ListField byte top n) = placed byte top n
place_of NoPlace = unplaced
place_of OtherType = unplaced
place_of (NoRoom address) = unplaced
place_of RegistrationsPreempted = unplaced
place_of ReservationsPreempted = unplaced
place_of ReservationsReleased = unplaced

unfoldable pub place_in : Answer → Place
place_in Good = unplaced
place_in (Refused x) = place_of x
place_in Conflict = unplaced
place_in Unusable = unplaced
place_in Short = unplaced

-- the rows for two lists, one by one: they give answers of the same number and place, and where one names a field in which the lists agree, it holds
-- for both or for neither. An address that is told, as Q-8 has it of UNMAP, may be another in another list
unfoldable pub Alike : (Bits → Answer) → List ℕ → List ℕ → List Row → List Row → Type 0
Alike named l m [] [] = T true
Alike named l m [] (y ∷ ys) = T false
Alike named l m (x ∷ xs) [] = T false
Alike named l m ((a if x) ∷ xs) ((b if y) ∷ ys) =
    (number_of a ≡ number_of b) × (place_in a ≡ place_in b) × ((p : Bits) → a ≡ named p → AgreeIn p l m → x ≡ y) × Alike named l m xs ys

-- ---- and in order

-- "then by lowest byte, then highest bit"; a field of no bits is none
unfoldable pub precedes : Place → Place → Bool
precedes unplaced q = true
precedes (placed byte top n) unplaced = true
precedes (placed byte top n) (placed byte' top' n') = eqb n 0 || (eqb n' 0 || (ltb byte byte' || (eqb byte byte' && ltb top' top)))

unfoldable pub precedes_all : Place → List Row → Bool
precedes_all p [] = true
precedes_all p ((a if x) ∷ rows) = precedes p (place_in a) && precedes_all p rows

unfoldable pub in_order : List Row → Bool
in_order [] = true
in_order ((a if x) ∷ rows) = precedes_all (place_in a) rows && in_order rows

pub record PlacesTrue : Type 0 where
  -- two CDBs of one command
  pub cdb : (l m : List ℕ) → AreBytes l → AreBytes m → entry_of l ≡ entry_of m → Alike invalid_field l m (field_rows (entry_of l) l) (field_rows (entry_of m) m)
  -- which command a CDB of an operation code is, and whether it is one, depends on the service action alone
  pub action : (l m : List ℕ) → byte 0 l ≡ byte 0 m → AgreeIn action_bits l m → entry_of l ≡ entry_of m
  -- two lists of one command, on one store
  pub list : (q : Request) (s : Store) (c : Call) (m : List ℕ) → AreBytes c.data_out → AreBytes m
      → Alike list_field c.data_out m (own_rows (asks q) s c) (own_rows (asks q) s (with_list c m))
  -- NACA of the control byte comes first
  pub control_first : (l : List ℕ) (code : Code) → entry_of l ≡ Some code
      → field_rows (entry_of l) l ≡ invalid_field (within (code.long - 1) 2 1) if bit 2 (byte (code.long - 1) l) ∷ check_rows (service_checks code.service) l
  -- behind it the fields of one row stand by lowest byte, then highest bit
  pub cdb_order : (l : List ℕ) (code : Code) → entry_of l ≡ Some code → T (in_order (check_rows (service_checks code.service) l))
  pub list_order : (q : Request) (s : Store) (c : Call) → T (in_order (own_rows (asks q) s c))
