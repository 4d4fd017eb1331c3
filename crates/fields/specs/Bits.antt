-- Where a field stands in bytes: its first byte, its highest bit and how many bits it has; and the number in it.
-- Assumes nothing.
use Rattle.std.specs.Prelude.{◌≡◌, Bool, true, ◌&&◌, List, ℕ, ◌+◌, ◌*◌, ◌-◌, ◌/◌, ◌%◌, ◌^◌, ◌<◌, leb}
use Rattle.fields.specs.Field.{byte, bit, field}

pub data Bits : Type 0 where
  -- some bits of one byte: the byte, the highest of them, how many
  within : ℕ → ℕ → ℕ → Bits
  -- whole bytes: the first, how many
  whole : ℕ → ℕ → Bits

unfoldable pub first_byte : Bits → ℕ
first_byte (within at top n) = at
first_byte (whole at n) = at

unfoldable pub top_bit : Bits → ℕ
top_bit (within at top n) = top
top_bit (whole at n) = 7

unfoldable pub bit_count : Bits → ℕ
bit_count (within at top n) = n
bit_count (whole at n) = 8 * n

-- the number that stands there
unfoldable pub number_in : Bits → List ℕ → ℕ
number_in (within at top n) l = byte at l / 2 ^ (top + 1 - n) % 2 ^ n
number_in (whole at n) l = field at n l

-- bit i of the field, counted from its highest down and on through the bytes that follow
unfoldable pub bit_in : Bits → ℕ → List ℕ → Bool
bit_in b i l = bit (7 - (7 - top_bit b + i) % 8) (byte (first_byte b + (7 - top_bit b + i) / 8) l)

-- two lists have the same bits there
abbrev pub AgreeIn : Bits → List ℕ → List ℕ → Type 0
AgreeIn b l m = (i : ℕ) → i < bit_count b → bit_in b i l ≡ bit_in b i m

-- bits of one byte lie in it; a word of proofs
unfoldable pub is_place : Bits → Bool
is_place (within at top n) = leb top 7 && leb n (top + 1)
is_place (whole at n) = true
