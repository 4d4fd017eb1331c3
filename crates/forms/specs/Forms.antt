-- The table of commands: a row of fields for each operation code and, where it has them, service action.
-- Assumes nothing.
use Rattle.std.specs.Prelude.{Bool, true, false, not, List, [], ◌∷◌, ℕ, eqb, Option, Some, None}
use Rattle.fields.specs.Field.{byte, bit}
use Rattle.fields.specs.Bits.{Bits, within, whole, number_in}
use Rattle.rights.specs.declared.Action.{Action}
use Rattle.rights.specs.declared.Action.TheVariants.{Register, Reserve, Release, Clear, Preempt, RegisterIgnoring}
use Rattle.forms.specs.declared.Tell.TheVariants.{Ready, Inquiry, VitalData, Capacity10, Capacity16, Keys, Reservation}
use Rattle.forms.specs.declared.Move.TheVariants.{Read, Write, WriteSame, Unmap, Status}
use Rattle.forms.specs.declared.Command.{Command}
use Rattle.forms.specs.declared.Command.TheVariants.{Tells, Moves, Alters}
use Rattle.forms.specs.declared.Field.{Field}
use Rattle.forms.specs.declared.Field.TheVariants.{Two, Four, Eight}
use Rattle.forms.specs.declared.Test.{Test}
use Rattle.forms.specs.declared.Test.TheVariants.{Nothing, Page, VitalPage, Protection, Count, Anchor, SameAnchor, SameCount, Scope, Kind}
use Rattle.forms.specs.declared.Form.{Form}
use Rattle.forms.specs.declared.Code.{Code}
use Rattle.forms.specs.declared.Request.{Request}

-- where a number stands that not every command has
abbrev pub Span : Type 0
Span = Option Field

-- a service action of a listed code: it has a row, or it is not listed
abbrev pub Service : Type 0
Service = Option Form

-- what the table has for a code and a service action
abbrev pub Entry : Type 0
Entry = Option Code

abbrev pub form_with : Command → Span → Span → List Test → Form
form_with command address size tests = record { command = command; address = address; size = size; tests = tests }

abbrev pub form_of : Command → Span → Span → Test → Test → Test → Form
form_of command address size first second third = form_with command address size (first ∷ second ∷ third ∷ [])

-- most have no third field that can be wrong
abbrev pub form : Command → Span → Span → Test → Test → Form
form command address size first second = form_of command address size first second Nothing

-- a number of so many bytes, from a byte of the CDB on
abbrev pub two : ℕ → Span
two at = Some (Two at)

abbrev pub four : ℕ → Span
four at = Some (Four at)

abbrev pub eight : ℕ → Span
eight at = Some (Eight at)

-- ---- the lines of the table

-- "action in byte 1 bits 4-0"
abbrev pub action_bits : Bits
action_bits = within 1 4 5

unfoldable pub action : List ℕ → ℕ
action cdb = number_in action_bits cdb

-- the service actions that a line takes; INQUIRY has none, and is told apart by bit 0 of the same byte
pub data Actions : Type 0 where
  any : Actions
  only : ℕ → Actions
  even : Actions
  odd : Actions

unfoldable pub takes : Actions → ℕ → Bool
takes any a = true
takes (only b) a = eqb a b
takes even a = not (bit 0 a)
takes odd a = bit 0 a

-- a code, the service actions of this line, how long its CDBs are, and the row
pub record Line : Type 0 where
  pub code : ℕ
  pub actions : Actions
  pub long : ℕ
  pub form : Form

abbrev pub line : ℕ → Actions → ℕ → Form → Line
line code actions long form = record { code = code; actions = actions; long = long; form = form }

-- RESERVE OUT: "Length 5-8."
abbrev pub out : Action → Test → Test → Form
out a first second = form (Alters a) None (four 5) first second

-- "Each operation code has its own row of fields": "6, 10 or 16 as its code has it", the command, the block address, the count, allocation
-- length or list length, and the fields that can be wrong. Q-1: "Add WRITE SAME(16) (93h: address 2-9, count 10-13, …) and GET LBA STATUS
-- (9Eh, action 12h)"; Q-2: "Serve INQUIRY pages …": by bit 0 of byte 1 INQUIRY asks for its standard data or for a page
unfoldable pub lines : List Line
lines =
    line 0x00 any 6 (form (Tells Ready) None None Nothing Nothing)
    ∷ line 0x12 even 6 (form (Tells Inquiry) None (two 3) Page Nothing)
    ∷ line 0x12 odd 6 (form (Tells VitalData) None (two 3) VitalPage Nothing)
    ∷ line 0x25 any 10 (form (Tells Capacity10) None None Nothing Nothing)
    ∷ line 0x28 any 10 (form (Moves Read) (four 2) (two 7) Protection Count)
    ∷ line 0x2A any 10 (form (Moves Write) (four 2) (two 7) Protection Count)
    ∷ line 0x42 any 10 (form (Moves Unmap) None (two 7) Anchor Nothing)
    ∷ line 0x5E (only 0) 10 (form (Tells Keys) None (two 7) Nothing Nothing)
    ∷ line 0x5E (only 1) 10 (form (Tells Reservation) None (two 7) Nothing Nothing)
    ∷ line 0x5F (only 0) 10 (out Register Nothing Nothing)
    ∷ line 0x5F (only 1) 10 (out Reserve Scope Kind)
    ∷ line 0x5F (only 2) 10 (out Release Scope Kind)
    ∷ line 0x5F (only 3) 10 (out Clear Nothing Nothing)
    ∷ line 0x5F (only 4) 10 (out Preempt Scope Kind)
    ∷ line 0x5F (only 6) 10 (out RegisterIgnoring Nothing Nothing)
    ∷ line 0x88 any 16 (form (Moves Read) (eight 2) (four 10) Protection Count)
    ∷ line 0x8A any 16 (form (Moves Write) (eight 2) (four 10) Protection Count)
    ∷ line 0x93 any 16 (form_of (Moves WriteSame) (eight 2) (four 10) Protection SameAnchor SameCount)
    ∷ line 0x9E (only 0x10) 16 (form (Tells Capacity16) None (four 10) Nothing Nothing)
    ∷ line 0x9E (only 0x12) 16 (form (Moves Status) (eight 2) (four 10) Nothing Nothing)
    ∷ []

-- ---- what the table has for a code and a service action

abbrev pub listed : ℕ → Service → Entry
listed long service = Some (record { long = long; service = service })

-- `found` is what the lines so far say: a listed code with another action is known by its length alone
unfoldable pub lookup : ℕ → ℕ → Entry → List Line → Entry
lookup n a found [] = found
lookup n a found (l ∷ ls) =
    elim (eqb n l.code) [
      | false ↦ lookup n a found ls
      | true ↦ elim (takes l.actions a) [ true ↦ listed l.long (Some l.form) | false ↦ lookup n a (listed l.long None) ls ]
    ]

unfoldable pub entry_for : ℕ → ℕ → Entry
entry_for n a = lookup n a None lines

unfoldable pub entry_of : List ℕ → Entry
entry_of cdb = entry_for (byte 0 cdb) (action cdb)

-- ---- the request of a CDB by its row

-- the bytes of a number
unfoldable pub bytes_of : Field → Bits
bytes_of (Two at) = whole at 2
bytes_of (Four at) = whole at 4
bytes_of (Eight at) = whole at 8

-- where there is none, no byte
unfoldable pub span_bits : Span → Bits
span_bits None = whole 0 0
span_bits (Some f) = bytes_of f

-- the number that stands there; 0 where there is none
unfoldable pub number : Span → List ℕ → ℕ
number span cdb = number_in (span_bits span) cdb

-- INQUIRY: "byte 2"
abbrev pub page_bits : Bits
page_bits = whole 2 1

-- READ and WRITE: "Byte 1 bits 7-5"
abbrev pub protection_bits : Bits
protection_bits = within 1 7 3

-- "Byte 2: scope high half, type low half"
abbrev pub scope_bits : Bits
scope_bits = within 2 7 4

abbrev pub kind_bits : Bits
kind_bits = within 2 3 4

-- Q-1: "byte 1 bits … 3 UNMAP, 0 NDOB"
unfoldable pub request_by : Form → List ℕ → Request
request_by f cdb = record {
  command = f.command;
  address = record { 0 = number f.address cdb };
  size = number f.size cdb;
  kind = number_in kind_bits cdb;
  page = number_in page_bits cdb;
  options = byte 1 cdb;
}

-- what is asked for: a request, or nothing that the table serves
pub data Asked : Type 0 where
  nothing : Asked
  asks : Request → Asked

unfoldable pub asked_by : Service → List ℕ → Asked
asked_by (Some f) cdb = asks (request_by f cdb)
asked_by None cdb = nothing

unfoldable pub asked_in : Entry → List ℕ → Asked
asked_in (Some code) cdb = asked_by code.service cdb
asked_in None cdb = nothing

unfoldable pub asked_of : List ℕ → Asked
asked_of cdb = asked_in (entry_of cdb) cdb

-- the number that says how much has a name for each of its three uses: of READ, WRITE and WRITE SAME, the count of blocks
abbrev pub count_in : Request → ℕ
count_in r = r.size

-- of commands that tell and GET LBA STATUS, the allocation length
abbrev pub allocation_in : Request → ℕ
allocation_in r = r.size

-- of UNMAP and PERSISTENT RESERVE OUT, the length of the parameter list
abbrev pub list_length_in : Request → ℕ
list_length_in r = r.size
