-- The UNMAP parameter list: "The descriptors are taken one after another from the list as lent."
-- Assumes nothing.
use Rattle.std.specs.Prelude.{Bool, false, ◌||◌, cond, List, ℕ, zero, suc, ◌+◌, ◌-◌, ◌/◌, min, ltb, Option, Some, None}
use Rattle.fields.specs.Field.{field}
use Rattle.fields.specs.Bits.{Bits, whole, number_in}
use Rattle.pool.specs.declared.Lba.{Lba}
use Rattle.pool.specs.Pool.{unmap_owners}
use Rattle.descriptors.specs.declared.Descriptor.{Descriptor}

-- "16 bytes each: address 0-7, count 8-11": the descriptor from byte `at` of the list on
unfoldable pub descriptor_at : List ℕ → ℕ → Descriptor
descriptor_at list at = record { address = record { 0 = field at 8 list }; count = field (at + 8) 4 list }

-- "block descriptor data length in 2-3"
abbrev pub data_length_bits : Bits
data_length_bits = whole 2 2

-- "Considered are floor(min(that length, list length - 8) / 16); an incomplete last one is ignored."
unfoldable pub considered : ℕ → List ℕ → ℕ
considered list_length list = min (number_in data_length_bits list) (list_length - 8) / 16

-- "block address + count > capacity"
unfoldable pub fails : ℕ → Descriptor → Bool
fails capacity d = ltb capacity (d.address.0 + d.count)

-- "more than 16 descriptors 5"
abbrev pub most_descriptors : ℕ
most_descriptors = 16

-- "3 if any descriptor fails": the address of the first that does, in the order of the list, of the n from byte `at` on
unfoldable pub first_failing : ℕ → List ℕ → ℕ → ℕ → Option Lba
first_failing capacity list at zero = None
first_failing capacity list at (suc n) =
    cond (fails capacity (descriptor_at list at)) (Some (descriptor_at list at).address) (first_failing capacity list (at + 16) n)

-- Q-8: "or for UNMAP that of the first failing descriptor": its address; 0 where none fails
unfoldable pub address_of : Option Lba → ℕ
address_of (Some address) = address.0
address_of None = 0

-- "if any descriptor fails", of the n from byte `at` on
unfoldable pub some_fails : ℕ → List ℕ → ℕ → ℕ → Bool
some_fails capacity list at zero = false
some_fails capacity list at (suc n) = fails capacity (descriptor_at list at) || some_fails capacity list (at + 16) n

-- "taken one after another": the owners after the n from byte `at` on; "they may overlap"
unfoldable pub unmap_all : List ℕ → List ℕ → ℕ → ℕ → List ℕ
unmap_all owners list at zero = owners
unmap_all owners list at (suc n) =
    unmap_all (unmap_owners owners (descriptor_at list at).address.0 (descriptor_at list at).count) list (at + 16) n
