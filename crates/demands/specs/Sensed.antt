-- Sense data in both formats, as those put it who read it: "Big stores need addresses above 32 bits in sense." What a refusal tells is read from its
-- sense as a host reads it. Of any build, so that wrong ones can be put in; proofs/Sensed proves it of `step`.
-- Assumes nothing.
use Rattle.std.specs.Prelude.{◌≡◌, ◌≢◌, ◌⊎◌, Bool, true, false, not, ◌&&◌, List, [], ◌∷◌, ◌++◌, ℕ, ◌+◌, ◌≤◌, ◌<◌, T, leb, length}
use Rattle.answers.specs.declared.Refusal.{Refusal}
use Rattle.answers.specs.declared.Refusal.TheVariants.{NotListed, InvalidField, OutOfRange, ListLength, ListField, NoPlace, OtherType, NoRoom, RegistrationsPreempted, ReservationsPreempted, ReservationsReleased}
use Rattle.answers.specs.declared.Codes.{Codes}
use Rattle.answers.specs.declared.Answer.TheVariants.{Refused, Unusable}
use Rattle.answers.specs.Answers.{codes_of, number_of, out_of_range, no_room}
use Rattle.answers.specs.Sense.{fixed, descriptor, format_ok, sense_bytes, sense_written}
use Rattle.descriptors.specs.declared.Descriptor.{Descriptor}
use Rattle.forms.specs.declared.Move.{Move}
use Rattle.forms.specs.declared.Move.TheVariants.{Unmap}
use Rattle.store.specs.Store.{Store, Call}
use Rattle.demands.specs.History.{Build, after}
use Rattle.demands.specs.Contents.{Asks, address_in, descriptors_of}
use Rattle.demands.specs.Pointed.{AreBytes}
use Rattle.demands.specs.SenseRead.{response_code, sense_long, sense_key, additional_code, qualifier, Information, absent, present, fixed_valid, fixed_field, information_in}

-- ---- words

-- response code, key and codes read back
pub record ReadsAs (format : ℕ) (k : Codes) (sense : List ℕ) : Type 0 where
  pub response : response_code sense ≡ format
  pub key : sense_key sense ≡ k.key
  pub asc : additional_code sense ≡ k.asc
  pub ascq : qualifier sense ≡ k.ascq

-- the address that a refusal has to tell: answers 3 and 8 have one
unfoldable pub address_of : Refusal → Information
address_of NotListed = absent
address_of (InvalidField at top n) = absent
address_of (OutOfRange address) = present address
address_of ListLength = absent
address_of (ListField at top n) = absent
address_of NoPlace = absent
address_of OtherType = absent
address_of (NoRoom address) = present address
address_of RegistrationsPreempted = absent
address_of ReservationsPreempted = absent
address_of ReservationsReleased = absent

-- do these descriptors all end within the capacity
unfoldable pub all_inside : ℕ → List Descriptor → Bool
all_inside capacity [] = true
all_inside capacity (d ∷ ds) = leb (d.address.0 + d.count) capacity && all_inside capacity ds

-- the first of them that does not begins at this address
pub record FirstFails (capacity : ℕ) (ds : List Descriptor) (address : ℕ) : Type 0 where
  pub before : List Descriptor
  pub failing : Descriptor
  pub behind : List Descriptor
  pub list : ds ≡ before ++ (failing ∷ behind)
  pub inside : T (all_inside capacity before)
  pub past : capacity < failing.address.0 + failing.count
  pub begins : failing.address.0 ≡ address

-- the same call with another buffer for sense
abbrev pub with_sense : Call → List ℕ → Call
with_sense c sense = record { nexus = c.nexus; cdb = c.cdb; data_out = c.data_out; data_in = c.data_in; sense = sense }

-- ---- the laws

pub record Sensed (f : Build) : Type 0 where
  -- "Chosen when a store is made fresh": no call changes the format, and a number that is none is part of no valid state
  pub format_stays : (s : Store) (c : Call) → (after f s c).format ≡ s.format
  pub format_none : (s : Store) (c : Call) → T (not (format_ok s.format)) → (f s c).seen.answer ≡ Unusable
  -- "sense buffer under 18 bytes"; "sense needs 20 bytes … a shorter sense buffer there gives 11". More than that makes no difference
  pub fixed_short : (s : Store) (c : Call) → s.format ≡ fixed → length c.sense < 18 → (f s c).seen.answer ≡ Unusable
  pub descriptor_short : (s : Store) (c : Call) → s.format ≡ descriptor → length c.sense < 20 → (f s c).seen.answer ≡ Unusable
  pub long_enough : (s : Store) (c : Call) (sense : List ℕ) → sense_bytes s.format ≤ length c.sense → sense_bytes s.format ≤ length sense
      → (f s (with_sense c sense)).seen.answer ≡ (f s c).seen.answer
  -- "Prove once over both formats that key and codes read back"
  pub codes : (s : Store) (c : Call) (x : Refusal) → (f s c).seen.answer ≡ Refused x → ReadsAs s.format (codes_of x) (f s c).seen.sense
  -- the additional sense length is true: what is written ends where it says
  pub long : (s : Store) (c : Call) (x : Refusal) → (f s c).seen.answer ≡ Refused x
      → sense_long (f s c).seen.sense ≡ sense_written s.format (f s c).seen.answer
  -- "Answers 3 and 8 carry the command's first address, or for UNMAP that of the first failing descriptor", and no other command has them
  pub range_asked : (s : Store) (c : Call) → number_of (f s c).seen.answer ≡ 3 → (m : Move) × Asks m c
  pub room_asked : (s : Store) (c : Call) → number_of (f s c).seen.answer ≡ 8 → (m : Move) × Asks m c
  pub range_address : (m : Move) → m ≢ Unmap → (s : Store) (c : Call) (a : Asks m c) → number_of (f s c).seen.answer ≡ 3
      → (f s c).seen.answer ≡ out_of_range (address_in a.request)
  pub room_address : (m : Move) (s : Store) (c : Call) (a : Asks m c) → number_of (f s c).seen.answer ≡ 8
      → (f s c).seen.answer ≡ no_room (address_in a.request)
  pub unmap_address : (s : Store) (c : Call) (a : Asks Unmap c) → number_of (f s c).seen.answer ≡ 3
      → (address : ℕ) × ((f s c).seen.answer ≡ out_of_range address) × FirstFails s.unit.capacity (descriptors_of a.request c.data_out) address
  -- in descriptor format the address reads back always, however large, and nothing is told where there is none
  pub descriptor_address : (s : Store) (c : Call) (x : Refusal) → s.format ≡ descriptor → AreBytes c.cdb → AreBytes c.data_out
      → (f s c).seen.answer ≡ Refused x → information_in (f s c).seen.sense ≡ address_of x
  -- in fixed format it reads back where it fits, and "a value above FFFF_FFFFh leaves VALID and the field 0"
  pub fixed_address : (s : Store) (c : Call) (x : Refusal) (address : ℕ) → s.format ≡ fixed → (f s c).seen.answer ≡ Refused x
      → address_of x ≡ present address → address ≤ 0xFFFF_FFFF → information_in (f s c).seen.sense ≡ present address
  pub fixed_none : (s : Store) (c : Call) (x : Refusal) (address : ℕ) → s.format ≡ fixed → (f s c).seen.answer ≡ Refused x
      → address_of x ≡ present address → 0xFFFF_FFFF < address → information_in (f s c).seen.sense ≡ absent
  -- "never a clipped number": either VALID is set and bytes 3 to 6 are the address exactly, or it is clear and they are 0
  pub never_clipped : (s : Store) (c : Call) (x : Refusal) → s.format ≡ fixed → (f s c).seen.answer ≡ Refused x
      → ((fixed_valid (f s c).seen.sense ≡ true) × (address_of x ≡ present (fixed_field (f s c).seen.sense)))
      ⊎ ((fixed_valid (f s c).seen.sense ≡ false) × (fixed_field (f s c).seen.sense ≡ 0))
