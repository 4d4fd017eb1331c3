-- Sense data as a host reads it, in whichever of the two formats it is: the response code first, then by it all else. The names are SPC's.
-- Assumes nothing.
use Rattle.std.specs.Prelude.{Bool, cond, List, [], ℕ, zero, suc, ◌+◌, ◌%◌, eqb, length, take, drop}
use Rattle.fields.specs.Field.{byte, bit, field}

-- ---- either format

-- byte 0: the response code has the seven bits below VALID
unfoldable pub response_code : List ℕ → ℕ
response_code sense = byte 0 sense % 128

unfoldable pub is_descriptor : List ℕ → Bool
is_descriptor sense = eqb (response_code sense) 0x72

-- byte 7, the additional sense length, says in both formats how many bytes follow it: all that there are
unfoldable pub sense_long : List ℕ → ℕ
sense_long sense = 8 + byte 7 sense

-- the sense key has four bits
unfoldable pub sense_key : List ℕ → ℕ
sense_key sense = byte (cond (is_descriptor sense) 1 2) sense % 16

unfoldable pub additional_code : List ℕ → ℕ
additional_code sense = byte (cond (is_descriptor sense) 2 12) sense

unfoldable pub qualifier : List ℕ → ℕ
qualifier sense = byte (cond (is_descriptor sense) 3 13) sense

-- ---- descriptors: a type, a length, and so many bytes behind them

-- in at most n of them, one after another, the first of a type, and what is behind it; nothing where there is none
unfoldable pub find_type : ℕ → ℕ → List ℕ → List ℕ
find_type zero type l = []
find_type (suc n) type l = cond (eqb (length l) 0) [] (cond (eqb (byte 0 l) type) l (find_type n type (drop (2 + byte 1 l) l)))

-- those of the sense data begin at byte 8
unfoldable pub descriptor_in : ℕ → List ℕ → List ℕ
descriptor_in type sense = find_type (byte 7 sense) type (take (byte 7 sense) (drop 8 sense))

-- ---- information: an address, where it is valid

pub data Information : Type 0 where
  absent : Information
  present : ℕ → Information

-- VALID of fixed format, and the field behind the key
unfoldable pub fixed_valid : List ℕ → Bool
fixed_valid sense = bit 7 (byte 0 sense)

unfoldable pub fixed_field : List ℕ → ℕ
fixed_field sense = field 3 4 sense

unfoldable pub information_in : List ℕ → Information
information_in sense =
    cond (is_descriptor sense)
    (let d = descriptor_in 0x00 sense in cond (bit 7 (byte 2 d)) (present (field 4 8 d)) absent)
    (cond (fixed_valid sense) (present (fixed_field sense)) absent)

-- ---- sense key specific data: three bytes, here the field pointer

unfoldable pub specific : List ℕ → List ℕ
specific sense = take 3 (cond (is_descriptor sense) (drop 4 (descriptor_in 0x02 sense)) (drop 15 sense))

-- the first byte: SKSV, C/D, BPV and the bit pointer
unfoldable pub sksv : List ℕ → Bool
sksv sense = bit 7 (byte 0 (specific sense))

unfoldable pub command_data : List ℕ → Bool
command_data sense = bit 6 (byte 0 (specific sense))

unfoldable pub bpv : List ℕ → Bool
bpv sense = bit 3 (byte 0 (specific sense))

unfoldable pub bit_pointer : List ℕ → ℕ
bit_pointer sense = byte 0 (specific sense) % 8

-- the others: the field pointer
unfoldable pub field_pointer : List ℕ → ℕ
field_pointer sense = field 1 2 (specific sense)
