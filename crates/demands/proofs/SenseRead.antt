-- What a host reads from sense data is what was written, in either format.
-- Assumes nothing.
use mathlib.Core.Path.{◌≡◌, refl, sym, ap, ◌∙◌, subst}
use mathlib.Core.Logic.{◌⊎◌, inl, inr}
use mathlib.Core.Bool.{Bool, true, false, ◌||◌, cond}
use mathlib.Core.List.{List, [], ◌∷◌, ◌++◌}
use Prim.Native.Nat.{ℕ, ◌%◌, ◌^◌, ◌≤◌, ◌<◌}
use native.Mathlib.Nat.{mod-eq_of_lt}
use native.Mathlib.Omega.{arith}
use borrow.Author.Tests.{eqb-true, leb-true}
use lib.Dec.{T, lit<, eqb, leb}
use lib.ListN.{length}
use Rattle.fields.specs.Field.{byte, bit, field, bytes}
use Rattle.fields.proofs.FieldLaws.{field_drop, field_bytes}
use Rattle.answers.specs.declared.Refusal.{Refusal}
use Rattle.answers.specs.declared.Refusal.TheVariants.{NotListed, InvalidField, OutOfRange, ListLength, ListField, NoPlace, OtherType, NoRoom, RegistrationsPreempted, ReservationsPreempted, ReservationsReleased}
use Rattle.answers.specs.declared.Codes.{Codes}
use Rattle.answers.specs.declared.sense.Detail.{Detail}
use Rattle.answers.specs.declared.sense.Detail.TheVariants.{Nothing, Pointer, Address}
use Rattle.answers.specs.Answers.{codes_of}
use Rattle.answers.specs.Sense.{fixed, descriptor, format_ok, detail_of, fixed_bytes, fixed_with, header_bytes, pointer_descriptor, address_descriptor, descriptor_of, described_with, sense_data}
use Rattle.answers.proofs.SenseLaws.{length_fixed}
use Rattle.demands.specs.SenseRead.{response_code, is_descriptor, sense_long, sense_key, additional_code, qualifier, find_type, descriptor_in, Information, absent, present, fixed_valid, fixed_field, information_in, specific}
use Rattle.demands.specs.Sensed.{ReadsAs, address_of}

-- ---- the ways a format and what is told can be

pub format_cases : (P : ℕ → Type 0) (format : ℕ) → T (format_ok format) → P fixed → P descriptor → P format
unfolding format_ok
format_cases P format t f d = go (eqb format fixed) refl (eqb format descriptor) refl t
  where
    go : (a : Bool) → eqb format fixed ≡ a → (b : Bool) → eqb format descriptor ≡ b → T (a || b) → P format
    go true e b h u = subst P (sym (eqb-true format fixed e)) f
    go false e true h u = subst P (sym (eqb-true format descriptor h)) d
    go false e false h u = absurd u

fixed_ways : (P : List ℕ → Type 0) (k : Codes) (d : Detail) → ((mark at : ℕ) → P (fixed_bytes 0x70 k 0 mark at))
    → ((address : ℕ) → P (fixed_bytes 0xF0 k address 0 0)) → P (fixed_with k d)
unfolding fixed_with
fixed_ways P k Nothing p q = p 0 0
fixed_ways P k (Pointer mark at) p q = p mark at
fixed_ways P k (Address address) p q = either (leb address 0xFFFF_FFFF)
  where
    either : (b : Bool) → P (cond b (fixed_bytes 0xF0 k address 0 0) (fixed_bytes 0x70 k 0 0 0))
    either true = q address
    either false = p 0 0

-- ---- response code, key and codes

small_key : (x : Refusal) → (codes_of x).key < 16
unfolding codes_of
small_key NotListed = lit< tt
small_key (InvalidField at top n) = lit< tt
small_key (OutOfRange address) = lit< tt
small_key ListLength = lit< tt
small_key (ListField at top n) = lit< tt
small_key NoPlace = lit< tt
small_key OtherType = lit< tt
small_key (NoRoom address) = lit< tt
small_key RegistrationsPreempted = lit< tt
small_key ReservationsPreempted = lit< tt
small_key ReservationsReleased = lit< tt

module _ (k : Codes) (d : Detail) (rest : List ℕ) (small : k.key < 16) where
  fixed_reads : ReadsAs fixed k (fixed_with k d ++ rest)
  unfolding fixed_bytes bytes byte response_code is_descriptor sense_key additional_code qualifier
  fixed_reads =
      fixed_ways (λ l. ReadsAs fixed k (l ++ rest)) k d
      (λ mark at. record { response = refl; key = mod-eq_of_lt small; asc = refl; ascq = refl })
      (λ address. record { response = refl; key = mod-eq_of_lt small; asc = refl; ascq = refl })

  described_reads : ReadsAs descriptor k (described_with k d ++ rest)
  unfolding described_with header_bytes byte response_code is_descriptor sense_key additional_code qualifier
  described_reads = record { response = refl; key = mod-eq_of_lt small; asc = refl; ascq = refl }

pub data_reads : (format : ℕ) (x : Refusal) (rest : List ℕ) → T (format_ok format) → ReadsAs format (codes_of x) (sense_data format x ++ rest)
unfolding sense_data
data_reads format x rest t =
    format_cases (λ v. ReadsAs v (codes_of x) (sense_data v x ++ rest)) format t
    (fixed_reads (codes_of x) (detail_of x) rest (small_key x)) (described_reads (codes_of x) (detail_of x) rest (small_key x))

-- ---- how long it is

fixed_long : (k : Codes) (d : Detail) (rest : List ℕ) → sense_long (fixed_with k d ++ rest) ≡ 18
unfolding fixed_bytes bytes byte sense_long
fixed_long k d rest = fixed_ways (λ l. sense_long (l ++ rest) ≡ 18) k d (λ mark at. refl) (λ address. refl)

described_long : (k : Codes) (d : Detail) (rest : List ℕ) → sense_long (described_with k d ++ rest) ≡ length (described_with k d)
unfolding described_with header_bytes descriptor_of pointer_descriptor address_descriptor bytes byte sense_long
described_long k Nothing rest = refl
described_long k (Pointer mark at) rest = refl
described_long k (Address address) rest = refl

pub data_long : (format : ℕ) (x : Refusal) (rest : List ℕ) → T (format_ok format) → sense_long (sense_data format x ++ rest) ≡ length (sense_data format x)
unfolding sense_data
data_long format x rest t =
    format_cases (λ v. sense_long (sense_data v x ++ rest) ≡ length (sense_data v x)) format t
    (fixed_long (codes_of x) (detail_of x) rest ∙ sym (length_fixed (codes_of x) (detail_of x))) (described_long (codes_of x) (detail_of x) rest)

-- ---- the pointer

unfoldable pub mark_of : Detail → ℕ
mark_of Nothing = 0
mark_of (Pointer mark at) = mark
mark_of (Address address) = 0

unfoldable pub at_of : Detail → ℕ
at_of Nothing = 0
at_of (Pointer mark at) = at
at_of (Address address) = 0

-- where the three bytes begin with the mark and the number of the byte stands behind it
record Points (d : Detail) (bs : List ℕ) : Type 0 where
  mark : byte 0 bs ≡ mark_of d
  at : field 1 2 bs ≡ at_of d % 0x1_0000

three_point : (d : Detail) → Points d (mark_of d ∷ bytes 2 (at_of d))
unfolding byte bytes
three_point d = record { mark = refl; at = sym (field_drop 1 0 2 (mark_of d ∷ bytes 2 (at_of d))) ∙ field_bytes 2 (at_of d) [] }

-- where there are none, nothing is pointed at
none_point : (d : Detail) → mark_of d ≡ 0 → at_of d ≡ 0 → Points d []
unfolding byte field
none_point d m a = record { mark = sym m; at = rw a refl }

fixed_points : (k : Codes) (d : Detail) (rest : List ℕ) → Points d (specific (fixed_with k d ++ rest))
unfolding fixed_with fixed_bytes bytes byte response_code is_descriptor specific mark_of at_of
fixed_points k Nothing rest = three_point Nothing
fixed_points k (Pointer mark at) rest = three_point (Pointer mark at)
fixed_points k (Address address) rest = either (leb address 0xFFFF_FFFF)
  where
    either : (b : Bool) → Points (Address address) (specific (cond b (fixed_bytes 0xF0 k address 0 0) (fixed_bytes 0x70 k 0 0 0) ++ rest))
    either true = three_point (Address address)
    either false = three_point (Address address)

described_points : (k : Codes) (d : Detail) (rest : List ℕ) → Points d (specific (described_with k d ++ rest))
unfolding described_with header_bytes descriptor_of pointer_descriptor address_descriptor bytes byte response_code is_descriptor find_type descriptor_in specific mark_of at_of
described_points k Nothing rest = none_point Nothing refl refl
described_points k (Pointer mark at) rest = three_point (Pointer mark at)
described_points k (Address address) rest = none_point (Address address) refl refl

module _ (format : ℕ) (x : Refusal) (rest : List ℕ) (t : T (format_ok format)) where
  data_points : Points (detail_of x) (specific (sense_data format x ++ rest))
  unfolding sense_data
  data_points =
      format_cases (λ v. Points (detail_of x) (specific (sense_data v x ++ rest))) format t
      (fixed_points (codes_of x) (detail_of x) rest) (described_points (codes_of x) (detail_of x) rest)

  pub mark_read : byte 0 (specific (sense_data format x ++ rest)) ≡ mark_of (detail_of x)
  mark_read = data_points.mark

  pub place_read : field 1 2 (specific (sense_data format x ++ rest)) ≡ at_of (detail_of x) % 0x1_0000
  place_read = data_points.at

-- ---- the address

unfoldable information_of : Detail → Information
information_of Nothing = absent
information_of (Pointer mark at) = absent
information_of (Address address) = present address

address_is : (x : Refusal) → address_of x ≡ information_of (detail_of x)
unfolding address_of detail_of information_of
address_is NotListed = refl
address_is (InvalidField at top n) = refl
address_is (OutOfRange address) = refl
address_is ListLength = refl
address_is (ListField at top n) = refl
address_is NoPlace = refl
address_is OtherType = refl
address_is (NoRoom address) = refl
address_is RegistrationsPreempted = refl
address_is ReservationsPreempted = refl
address_is ReservationsReleased = refl

-- the field of fixed format holds an address that fits
field_exact : (k : Codes) (address : ℕ) (rest : List ℕ) → address ≤ 0xFFFF_FFFF → fixed_field (fixed_bytes 0xF0 k address 0 0 ++ rest) ≡ address
unfolding fixed_bytes bytes fixed_field
field_exact k address rest h =
    sym (field_drop 3 0 4 (fixed_bytes 0xF0 k address 0 0 ++ rest)) ∙ field_bytes 4 address _ ∙ mod-eq_of_lt (omega arith)

-- an address that fits, and no other
unfoldable pub fitting : Information → Information
fitting absent = absent
fitting (present address) = cond (leb address 0xFFFF_FFFF) (present address) absent

-- VALID is set and the field is the address exactly, or it is clear and the field 0
abbrev pub Exactly : Information → List ℕ → Type 0
Exactly told sense = ((fixed_valid sense ≡ true) × (told ≡ present (fixed_field sense))) ⊎ ((fixed_valid sense ≡ false) × (fixed_field sense ≡ 0))

-- in 64 bits every address of a call fits
unfoldable pub wrapping : Information → Information
wrapping absent = absent
wrapping (present address) = present (address % 2 ^ 64)

module _ (k : Codes) (rest : List ℕ) where
  fixed_information : (d : Detail) → information_in (fixed_with k d ++ rest) ≡ fitting (information_of d)
  unfolding fixed_with fixed_bytes bytes byte bit response_code is_descriptor fixed_valid information_in information_of fitting
  fixed_information Nothing = refl
  fixed_information (Pointer mark at) = refl
  fixed_information (Address address) = go (leb address 0xFFFF_FFFF) refl
    where
      go : (b : Bool) → leb address 0xFFFF_FFFF ≡ b
          → information_in (cond b (fixed_bytes 0xF0 k address 0 0) (fixed_bytes 0x70 k 0 0 0) ++ rest) ≡ cond b (present address) absent
      go true e = ap present (field_exact k address rest (leb-true _ _ e))
      go false e = refl

  fixed_exactly : (d : Detail) → Exactly (information_of d) (fixed_with k d ++ rest)
  unfolding fixed_with fixed_bytes bytes byte bit field fixed_valid fixed_field information_of
  fixed_exactly Nothing = inr (refl, refl)
  fixed_exactly (Pointer mark at) = inr (refl, refl)
  fixed_exactly (Address address) = go (leb address 0xFFFF_FFFF) refl
    where
      go : (b : Bool) → leb address 0xFFFF_FFFF ≡ b
          → Exactly (present address) (cond b (fixed_bytes 0xF0 k address 0 0) (fixed_bytes 0x70 k 0 0 0) ++ rest)
      go true e = inl (refl, ap present (sym (field_exact k address rest (leb-true _ _ e))))
      go false e = inr (refl, refl)

  described_information : (d : Detail) → information_in (described_with k d ++ rest) ≡ wrapping (information_of d)
  unfolding described_with header_bytes descriptor_of pointer_descriptor address_descriptor bytes byte bit response_code is_descriptor find_type descriptor_in information_in information_of wrapping
  described_information Nothing = refl
  described_information (Pointer mark at) = refl
  described_information (Address address) = ap present (sym (field_drop 4 0 8 (address_descriptor address)) ∙ field_bytes 8 address [])

module _ (x : Refusal) (rest : List ℕ) where
  pub fixed_told : information_in (sense_data fixed x ++ rest) ≡ fitting (address_of x)
  unfolding sense_data
  fixed_told = fixed_information (codes_of x) rest (detail_of x) ∙ ap fitting (sym (address_is x))

  pub exactly_told : Exactly (address_of x) (sense_data fixed x ++ rest)
  unfolding sense_data
  exactly_told = rw (address_is x) (fixed_exactly (codes_of x) rest (detail_of x))

  pub described_told : information_in (sense_data descriptor x ++ rest) ≡ wrapping (address_of x)
  unfolding sense_data
  described_told = described_information (codes_of x) rest (detail_of x) ∙ ap wrapping (sym (address_is x))
