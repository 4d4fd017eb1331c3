-- The limits that hosts read, as those put it who rely on them: "Prove that every published limit is the enforced one." Each is a number in bytes that
-- a call has returned, at the place that SBC gives it, and what it says is said of calls. Of any build, so that wrong ones can be put in;
-- proofs/Limits proves it of `step`.
-- Assumes nothing.
use Rattle.std.specs.Prelude.{◌≡◌, ◌↔◌, Bool, true, false, not, List, [], ◌∷◌, ℕ, ◌+◌, ◌*◌, ◌/◌, ◌%◌, ◌≤◌, ◌<◌, T, eqb, leb, length, take, drop}
use Rattle.fields.specs.Bytes.{part, zeros}
use Rattle.fields.specs.Field.{field, byte, bit}
use Rattle.answers.specs.Answers.{number_of, not_listed}
use Rattle.answers.specs.Sense.{sense_bytes}
use Rattle.pool.specs.Pool.{mapped}
use Rattle.rights.specs.Rights.{is_one_of}
use Rattle.descriptors.specs.Descriptors.{considered}
use Rattle.forms.specs.declared.Tell.TheVariants.{Capacity16}
use Rattle.forms.specs.declared.Move.{Move}
use Rattle.forms.specs.declared.Move.TheVariants.{Read, WriteSame, Unmap}
use Rattle.forms.specs.declared.Command.TheVariants.{Tells}
use Rattle.forms.specs.Forms.{entry_of, count_in, allocation_in, list_length_in}
use Rattle.store.specs.Store.{Store, Call, usable}
use Rattle.demands.specs.History.{Build, after}
use Rattle.demands.specs.Contents.{AsksFor, Asks, address_in, Quiet, Reaches, is_transfer, long_of, control, descriptors_of, names}
use Rattle.demands.specs.Reservations.{GoodBy}
use Rattle.demands.specs.WriteSame.{Clears, covers}

-- ---- a page, as a host reads it

-- an INQUIRY for a page: bit 0 of byte 1 is set, byte 2 is the page code
pub record AsksPage (code : ℕ) (c : Call) : Type 0 where
  pub inquiry : byte 0 c.cdb ≡ 0x12
  pub vital : bit 0 (byte 1 c.cdb) ≡ true
  pub page : byte 2 c.cdb ≡ code

-- the bytes that a call returns
unfoldable pub returned_by : Build → Store → Call → List ℕ
returned_by f s c = take (f s c).seen.returned (f s c).seen.data_in

-- these bytes are the page of this code, whole: some call has returned them, and they are as many as bytes 2-3 say
pub record Reads (f : Build) (code : ℕ) (bs : List ℕ) : Type 0 where
  pub store : Store
  pub call : Call
  pub asks : AsksPage code call
  pub good : GoodBy f store call
  pub returned : returned_by f store call ≡ bs
  pub whole : 4 + field 2 2 bs ≤ length bs

-- page 00h: the page codes that it lists
unfoldable pub page_codes : List ℕ → List ℕ
page_codes bs = take (field 2 2 bs) (drop 4 bs)

-- page B0h: WSNZ, and the maximum lengths and counts
unfoldable pub wsnz : List ℕ → Bool
wsnz bs = bit 0 (byte 4 bs)

unfoldable pub compare_and_write_length : List ℕ → ℕ
compare_and_write_length bs = byte 5 bs

unfoldable pub transfer_length : List ℕ → ℕ
transfer_length bs = field 8 4 bs

unfoldable pub unmap_count : List ℕ → ℕ
unmap_count bs = field 20 4 bs

unfoldable pub descriptor_count : List ℕ → ℕ
descriptor_count bs = field 24 4 bs

unfoldable pub write_same_length : List ℕ → ℕ
write_same_length bs = field 36 8 bs

-- page B2h: its bits by their names, and the provisioning type
unfoldable pub lbpu : List ℕ → Bool
lbpu bs = bit 7 (byte 5 bs)

unfoldable pub lbpws : List ℕ → Bool
lbpws bs = bit 6 (byte 5 bs)

unfoldable pub lbpws10 : List ℕ → Bool
lbpws10 bs = bit 5 (byte 5 bs)

unfoldable pub lbprz : List ℕ → ℕ
lbprz bs = byte 5 bs / 4 % 8

unfoldable pub anc_sup : List ℕ → Bool
anc_sup bs = bit 1 (byte 5 bs)

unfoldable pub provisioning_type : List ℕ → ℕ
provisioning_type bs = byte 6 bs % 8

-- READ CAPACITY(16): byte 14 has LBPME and LBPRZ
unfoldable pub lbpme : List ℕ → Bool
lbpme bs = bit 7 (byte 14 bs)

unfoldable pub lbprz_told : List ℕ → Bool
lbprz_told bs = bit 6 (byte 14 bs)

-- ---- calls in which nothing but a limit can be wrong

-- nothing stands before the operation code: a usable store, one of 16 nexuses, and room for sense
pub record Heard (s : Store) (c : Call) : Type 0 where
  pub store : T (usable s)
  pub nexus : c.nexus ≤ 15
  pub sense : sense_bytes s.format ≤ length c.sense

-- nothing stands before the fields: the CDB is as long as its code has it, nothing that waits is due, and NACA is clear
pub record Fielded (s : Store) (c : Call) : Type 0 where
  pub heard : Heard s c
  pub long : length c.cdb ≡ long_of (entry_of c.cdb)
  pub quiet : Quiet s c
  pub naca : bit 2 (control c) ≡ false

-- byte 1 bits 7-5
abbrev pub Unprotected : Call → Type 0
Unprotected c = leb 32 (byte 1 c.cdb) ≡ false

-- a parameter list with a header that is there
pub record ListThere {c : Call} (a : Asks Unmap c) : Type 0 where
  pub header : 8 ≤ list_length_in a.request
  pub there : list_length_in a.request ≤ length c.data_out

-- how many of its descriptors count
unfoldable pub descriptors_in : {c : Call} → Asks Unmap c → ℕ
descriptors_in {c} a = considered (list_length_in a.request) c.data_out

-- ---- what the bits of page B2h say

-- LBPU: no block that a descriptor names is mapped after an UNMAP
abbrev pub UnmapUnmaps : Build → Type 0
UnmapUnmaps f = (s : Store) (c : Call) (a : Asks Unmap c) → GoodBy f s c → (b : ℕ) → T (names (descriptors_of a.request c.data_out) b)
    → mapped (after f s c).pool.owners b ≡ false

-- LBPWS: no block of the range is mapped after a WRITE SAME(16) with UNMAP and zeros
abbrev pub SameUnmaps : Build → Type 0
SameUnmaps f = (s : Store) (c : Call) (a : Asks WriteSame c) → GoodBy f s c → Clears a.request c → (b : ℕ) → T (covers a.request b)
    → mapped (after f s c).pool.owners b ≡ false

-- LBPRZ: a block that is not mapped is read as zeros
abbrev pub ZerosRead : Build → Type 0
ZerosRead f = (s : Store) (c : Call) (a : Asks Read c) → GoodBy f s c → (i : ℕ) → i < count_in a.request
    → mapped s.pool.owners (address_in a.request + i) ≡ false → part (f s c).seen.data_in (512 * i) 512 ≡ zeros 512

-- ANC_SUP: ANCHOR is refused
pub record AnchorRefused (f : Build) : Type 0 where
  pub unmap : (s : Store) (c : Call) → Asks Unmap c → Fielded s c → T (bit 0 (byte 1 c.cdb)) → number_of (f s c).seen.answer ≡ 2
  pub same : (s : Store) (c : Call) → Asks WriteSame c → Fielded s c → T (bit 4 (byte 1 c.cdb)) → number_of (f s c).seen.answer ≡ 2

-- a command of this code is not served
abbrev pub Unserved : Build → ℕ → Type 0
Unserved f code = (s : Store) (c : Call) → byte 0 c.cdb ≡ code → Heard s c → (f s c).seen.answer ≡ not_listed

-- ---- the laws

pub record Limits (f : Build) : Type 0 where
  -- each of the three pages can be read whole, by everybody and from every usable store
  pub readable : (s : Store) (c : Call) (code : ℕ) → T (is_one_of code (0x00 ∷ 0xB0 ∷ 0xB2 ∷ [])) → AsksPage code c → Fielded s c
      → 64 ≤ field 3 2 c.cdb → field 3 2 c.cdb ≤ length c.data_in → Reads f code (returned_by f s c)
  -- each page says which it is; page 00h lists exactly the pages that are served, and no other passes
  pub named : (bs : List ℕ) (code : ℕ) → Reads f code bs → byte 1 bs ≡ code
  pub unlisted : (bs : List ℕ) → Reads f 0x00 bs → (s : Store) (c : Call) (code : ℕ) → AsksPage code c → Fielded s c
      → number_of (f s c).seen.answer ≡ 2 ↔ T (not (is_one_of code (page_codes bs)))
  pub served : (bs : List ℕ) → Reads f 0x00 bs → (s : Store) (c : Call) (code : ℕ) → AsksPage code c → Fielded s c → T (is_one_of code (page_codes bs))
      → field 3 2 c.cdb ≤ length c.data_in → GoodBy f s c
  -- a READ or WRITE, in each of its forms, is refused for its count exactly where that is above the maximum transfer length
  pub transfers : (bs : List ℕ) → Reads f 0xB0 bs → (m : Move) → T (is_transfer m) → (s : Store) (c : Call) (a : Asks m c) → Fielded s c → Unprotected c
      → number_of (f s c).seen.answer ≡ 2 ↔ transfer_length bs < count_in a.request
  -- a WRITE SAME of some blocks, where it is above the maximum write same length; of no block, exactly as WSNZ says
  pub same : (bs : List ℕ) → Reads f 0xB0 bs → (s : Store) (c : Call) (a : Asks WriteSame c) → Fielded s c → Unprotected c
      → bit 4 (byte 1 c.cdb) ≡ false → 1 ≤ count_in a.request
      → number_of (f s c).seen.answer ≡ 2 ↔ write_same_length bs < count_in a.request
  pub same_none : (bs : List ℕ) → Reads f 0xB0 bs → (s : Store) (c : Call) (a : Asks WriteSame c) → Fielded s c → Unprotected c
      → bit 4 (byte 1 c.cdb) ≡ false → count_in a.request ≡ 0 → number_of (f s c).seen.answer ≡ 2 ↔ T (wsnz bs)
  -- an UNMAP is refused for the number of its descriptors exactly where there are more than published
  pub descriptors : (bs : List ℕ) → Reads f 0xB0 bs → (s : Store) (c : Call) (a : Asks Unmap c) → Reaches s a → ListThere a
      → number_of (f s c).seen.answer ≡ 5 ↔ descriptor_count bs < descriptors_in a
  -- and no count in them is refused for itself: it is GOOD exactly where each descriptor ends within the capacity; FFFF_FFFFh says that there is no limit
  pub counts : (bs : List ℕ) → Reads f 0xB0 bs → (s : Store) (c : Call) (a : Asks Unmap c) → Reaches s a → ListThere a
      → descriptors_in a ≤ descriptor_count bs
      → GoodBy f s c ↔ ((k : ℕ) → k < descriptors_in a → field (8 + 16 * k) 8 c.data_out + field (16 + 16 * k) 4 c.data_out ≤ s.unit.capacity)
  pub no_limit : (bs : List ℕ) → Reads f 0xB0 bs → unmap_count bs ≡ 0xFFFF_FFFF
  -- the bits of page B2h are set exactly where it is as they say
  pub by_unmap : (bs : List ℕ) → Reads f 0xB2 bs → T (lbpu bs) ↔ UnmapUnmaps f
  pub by_same : (bs : List ℕ) → Reads f 0xB2 bs → T (lbpws bs) ↔ SameUnmaps f
  pub zeros_read : (bs : List ℕ) → Reads f 0xB2 bs → lbprz bs ≡ 1 ↔ ZerosRead f
  pub anchors : (bs : List ℕ) → Reads f 0xB2 bs → T (not (anc_sup bs)) ↔ AnchorRefused f
  -- what a page says is not there is not served: WRITE SAME(10), COMPARE AND WRITE
  pub no_same_10 : (bs : List ℕ) → Reads f 0xB2 bs → T (not (lbpws10 bs)) ↔ Unserved f 0x41
  pub no_compare : (bs : List ℕ) → Reads f 0xB0 bs → compare_and_write_length bs ≡ 0 ↔ Unserved f 0x89
  -- READ CAPACITY(16) agrees: LBPME where a provisioning type is told, LBPRZ where unmapped blocks read as zeros
  pub capacity_16 : (bs : List ℕ) → Reads f 0xB2 bs → (s : Store) (c : Call) (a : AsksFor (Tells Capacity16) c) → GoodBy f s c
      → 15 ≤ allocation_in a.request
      → (lbpme (returned_by f s c) ≡ not (eqb (provisioning_type bs) 0)) × (lbprz_told (returned_by f s c) ≡ eqb (lbprz bs) 1)
