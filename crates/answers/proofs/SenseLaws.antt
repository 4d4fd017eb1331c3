-- Laws of sense data: how long it is in each format, and that it fits where the buffer is long enough.
-- Assumes nothing.
use mathlib.Core.Path.{◌≡◌, refl}
use mathlib.Core.Bool.{Bool, true, false, cond}
use mathlib.Core.List.{List}
use Prim.Native.Nat.{ℕ, ◌≤◌}
use lib.Dec.{lit≤, eqb, leb}
use lib.ListN.{length}
use Rattle.fields.specs.Field.{bytes}
use Rattle.answers.specs.declared.Refusal.{Refusal}
use Rattle.answers.specs.declared.Codes.{Codes}
use Rattle.answers.specs.declared.sense.Detail.{Detail}
use Rattle.answers.specs.declared.sense.Detail.TheVariants.{Nothing, Pointer, Address}
use Rattle.answers.specs.Sense.{descriptor, fixed_most, descriptor_most, sense_bytes, detail_of, fixed_bytes, fixed_with, header_bytes, pointer_descriptor, address_descriptor, descriptor_of, described_with, sense_data}
use Rattle.answers.specs.Answers.{codes_of}

-- ---- fixed format has 18 bytes

fixed_two : (b : Bool) (x y : List ℕ) → length x ≡ fixed_most → length y ≡ fixed_most → length (cond b x y) ≡ fixed_most
fixed_two true x y e h = e
fixed_two false x y e h = h

pub length_fixed : (k : Codes) (d : Detail) → length (fixed_with k d) ≡ fixed_most
unfolding fixed_with fixed_bytes bytes
length_fixed k Nothing = refl
length_fixed k (Pointer mark at) = refl
length_fixed k (Address address) = fixed_two (leb address 0xFFFF_FFFF) _ _ refl refl

-- ---- what is written never needs more than the format asks for

described_most : (k : Codes) (d : Detail) → length (described_with k d) ≤ descriptor_most
unfolding described_with header_bytes descriptor_of pointer_descriptor address_descriptor bytes
described_most k Nothing = lit≤ tt
described_most k (Pointer mark at) = lit≤ tt
described_most k (Address address) = lit≤ tt

pub data_most : (format : ℕ) (x : Refusal) → length (sense_data format x) ≤ sense_bytes format
unfolding sense_data sense_bytes
data_most format x = most (eqb format descriptor)
  where
    most : (b : Bool) → length (cond b (described_with (codes_of x) (detail_of x)) (fixed_with (codes_of x) (detail_of x))) ≤ cond b descriptor_most fixed_most
    most true = described_most (codes_of x) (detail_of x)
    most false = rw (length_fixed (codes_of x) (detail_of x)) (lit≤ tt)
