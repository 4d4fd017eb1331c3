-- Words for what a store holds and for the calls that move it: used by the laws of the commands on the blocks.
-- Assumes nothing.
use Rattle.std.specs.Prelude.{◌≡◌, ◌≢◌, Bool, true, false, not, ◌&&◌, ◌||◌, List, [], ◌∷◌, ◌++◌, ℕ, zero, suc, ◌+◌, ◌-◌, ◌≤◌, ◌<◌, T, eqb, leb, ltb, length, Some, None}
use Rattle.fields.specs.Bytes.{zeros}
use Rattle.fields.specs.Field.{byte, bit, bytes}
use Rattle.fields.specs.Bits.{number_in}
use Rattle.answers.specs.declared.Answer.{Answer}
use Rattle.answers.specs.declared.Answer.TheVariants.{Good}
use Rattle.answers.specs.Answers.{number_of}
use Rattle.answers.specs.Order.{first}
use Rattle.pool.specs.Marks.{marks_of}
use Rattle.pool.specs.Pool.{Pool, free, unmapped, read_blocks, unmap_blocks}
use Rattle.pool.specs.Alike.{Alike}
use Rattle.descriptors.specs.declared.Descriptor.{Descriptor}
use Rattle.descriptors.specs.Descriptors.{descriptor_at, considered}
use Rattle.forms.specs.declared.Move.{Move}
use Rattle.forms.specs.declared.Move.TheVariants.{Read, Write, WriteSame, Unmap, Status}
use Rattle.forms.specs.declared.Command.{Command}
use Rattle.forms.specs.declared.Command.TheVariants.{Moves}
use Rattle.forms.specs.declared.Request.{Request}
use Rattle.forms.specs.Forms.{Entry, protection_bits, entry_of, asks, asked_of, count_in, list_length_in}
use Rattle.forms.specs.Tests.{code_rows, length_rows, field_rows}
use Rattle.store.specs.declared.Unit.{Unit}
use Rattle.store.specs.Store.{Store, Call, Result, usable}
use Rattle.store.specs.Conflict.{conflict}
use Rattle.store.specs.Step.{call_rows, due, step}

-- ---- a call on the blocks

-- it is for this command, in whichever of its forms; and what it asks for
pub record AsksFor (k : Command) (c : Call) : Type 0 where
  pub request : Request
  pub is : asked_of c.cdb ≡ asks request
  pub command : request.command ≡ k

-- it is this command on the blocks
abbrev pub Asks : Move → Call → Type 0
Asks m c = AsksFor (Moves m) c

-- the first block that is asked for; `count_in` says how many there are
abbrev pub address_in : Request → ℕ
address_in q = q.address.0

-- what the blocks that are asked for hold
abbrev pub blocks_in : Pool → Request → List ℕ
blocks_in p q = read_blocks p (address_in q) (count_in q)

-- the answer is GOOD
abbrev pub IsGood : Store → Call → Type 0
IsGood s c = (step s c).seen.answer ≡ Good

-- what the tests of a call by itself answer where sense has this format: who calls, the buffers, and the code, length and fields of the CDB
unfoldable pub by_itself : ℕ → Call → Answer
by_itself format c =
    first (call_rows format c ++ (code_rows (entry_of c.cdb) ++ (length_rows (entry_of c.cdb) c.cdb ++ field_rows (entry_of c.cdb) c.cdb)))

-- nothing that waits for the caller is due: nothing waits, or the command is INQUIRY
abbrev pub Quiet : Store → Call → Type 0
Quiet s c = T (not (due s.unit c.nexus c.cdb))

-- it comes as far as the command's own tests: the store is usable, the call is right by itself, nothing waits, and no reservation is in its way
pub record Reaches {m : Move} {c : Call} (s : Store) (a : Asks m c) : Type 0 where
  pub store : T (usable s)
  pub call : by_itself s.format c ≡ Good
  pub quiet : Quiet s c
  pub free : conflict s.unit.rights c.nexus (Moves m) ≡ false

-- its blocks lie within the capacity
abbrev pub Inside : Store → Request → Type 0
Inside s q = address_in q + count_in q ≤ s.unit.capacity

-- there are free slots for all that a WRITE maps
abbrev pub Room : Store → Request → Type 0
Room s q = unmapped s.pool.owners (address_in q) (count_in q) ≤ free s.pool.owners

-- ---- ranges of blocks

-- b is none of the n blocks from a on
abbrev pub Outside : ℕ → ℕ → ℕ → Type 0
Outside a n b = a ≤ b → a + n ≤ b

-- is b one of them
unfoldable pub in_range : ℕ → ℕ → ℕ → Bool
in_range a n b = leb a b && ltb b (a + n)

-- two requests name the same blocks
pub record SameRange (p q : Request) : Type 0 where
  pub address : address_in p ≡ address_in q
  pub count : count_in p ≡ count_in q

-- two requests have no block in common
abbrev pub Apart : Request → Request → Type 0
Apart p q = (i : ℕ) → i < count_in q → Outside (address_in p) (count_in p) (address_in q + i)

-- ---- the same transfer in different forms

-- READ and WRITE, which have two forms each
unfoldable pub is_transfer : Move → Bool
is_transfer Read = true
is_transfer Write = true
is_transfer WriteSame = false
is_transfer Unmap = false
is_transfer Status = false

-- how long a CDB is, as its code has it
unfoldable pub long_of : Entry → ℕ
long_of (Some code) = code.long
long_of None = 0

-- the control byte: the CDB's last by its code's length
abbrev pub control : Call → ℕ
control c = byte (long_of (entry_of c.cdb) - 1) c.cdb

-- two calls with CDBs of whichever form that say the same: each as long as its code has it, the same blocks, byte 1's upper bits and NACA alike,
-- from the same nexus and with the same buffers
pub record SaysSame {m : Move} {c d : Call} (a : Asks m c) (b : Asks m d) : Type 0 where
  pub range : SameRange a.request b.request
  pub first_long : length c.cdb ≡ long_of (entry_of c.cdb)
  pub second_long : length d.cdb ≡ long_of (entry_of d.cdb)
  pub flags : eqb (number_in protection_bits c.cdb) 0 ≡ eqb (number_in protection_bits d.cdb) 0
  pub naca : bit 2 (control c) ≡ bit 2 (control d)
  pub nexus : c.nexus ≡ d.nexus
  pub data_out : c.data_out ≡ d.data_out
  pub data_in : c.data_in ≡ d.data_in
  pub sense : c.sense ≡ d.sense

-- results that are the same but for the place of a wrong field, which Q-4 has told and each form has elsewhere: the same number, and where it is not 2
-- all that is seen, and the store. Where it is 2, `sense_table` of demand 1 leaves nothing else open
pub record SameButPlace (x y : Result) : Type 0 where
  pub number : number_of x.seen.answer ≡ number_of y.seen.answer
  pub same : number_of x.seen.answer ≢ 2 → x ≡ y

-- a CDB of a READ or WRITE, over the widths of its fields: address and count, with `gap` bytes between and `rest` behind
unfoldable pub transfer_cdb : ℕ → ℕ → ℕ → ℕ → ℕ → ℕ → ℕ → List ℕ
transfer_cdb code wide gap narrow rest address count =
    code ∷ 0 ∷ (bytes wide address ++ (zeros gap ++ (bytes narrow count ++ zeros rest)))

-- "address bytes 2-5, count 7-8"
unfoldable pub cdb10 : ℕ → ℕ → ℕ → List ℕ
cdb10 code address count = transfer_cdb code 4 1 2 1 address count

-- "2-9 and 10-13"
unfoldable pub cdb16 : ℕ → ℕ → ℕ → List ℕ
cdb16 code address count = transfer_cdb code 8 0 4 2 address count

-- a call with a CDB, who sends it, and the lent buffers
abbrev pub call_with : List ℕ → ℕ → List ℕ → List ℕ → List ℕ → Call
call_with cdb nexus data_out data_in sense = record { nexus = nexus; cdb = cdb; data_out = data_out; data_in = data_in; sense = sense }

-- ---- the descriptors of an UNMAP

-- the n descriptors of a list from byte `at` on
unfoldable pub descriptors_from : List ℕ → ℕ → ℕ → List Descriptor
descriptors_from list at zero = []
descriptors_from list at (suc n) = descriptor_at list at ∷ descriptors_from list (at + 16) n

-- "descriptors from byte 8"; those that are considered
unfoldable pub descriptors_of : Request → List ℕ → List Descriptor
descriptors_of q list = descriptors_from list 8 (considered (list_length_in q) list)

-- the pool after they act, one after another
unfoldable pub unmap_each : Pool → List Descriptor → Pool
unmap_each p [] = p
unmap_each p (d ∷ ds) = unmap_each (unmap_blocks p d.address.0 d.count) ds

-- does a descriptor cover the block b
unfoldable pub covers : Descriptor → ℕ → Bool
covers d b = in_range d.address.0 d.count b

-- does one of them
unfoldable pub names : List Descriptor → ℕ → Bool
names [] b = false
names (d ∷ ds) b = covers d b || names ds b

-- ---- stores that differ in their slots alone

-- the format and the unit's record (capacity, rights, generation and attentions) are the same, and the pools are alike: free slots, mapped blocks, and what every
-- block reads
pub record Same (s t : Store) : Type 0 where
  pub format : s.format ≡ t.format
  pub unit : s.unit ≡ t.unit
  pub pool : Alike s.pool t.pool

-- ---- a store with nothing in it, and all that everybody may know

unfoldable pub plain : ℕ → Unit → Store
plain format u = record { format = format; unit = u; pool = record { owners = zeros 1; marks = marks_of (zeros 1); medium = zeros 512 } }
