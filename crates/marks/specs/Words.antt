-- What the contracts of the marks' words speak of: the two words, and a slot's bit in its word, set or cleared.
-- Assumes nothing.
use Rattle.std.specs.Prelude.{List, [], ◌∷◌, ℕ, ◌-◌, ◌/◌, ◌%◌, ◌^◌, get_or, set}
use Rattle.std.specs.Int.Bits.{bit_and, bit_or}
use Rattle.pool.specs.Bounds.{word_slots}
use Rattle.pool.specs.Marks.{marked, lowest}
use Rattle.marks.specs.declared.FreeRoom.{FreeRoom}
use Rattle.marks.specs.declared.Words.{Words}

-- the words, in their order
abbrev pub both : Words → List ℕ
both w = w.low ∷ w.high ∷ []

-- what is read off them, of so many slots
abbrev pub room_in : ℕ → List ℕ → FreeRoom
room_in slots marks = record { free = slots - marked marks; lowest = lowest marks }

-- slot i is "bit i mod 64 of word i / 64"
abbrev pub bit_of : ℕ → ℕ
bit_of i = 2 ^ (i % word_slots)

abbrev pub with_mark : List ℕ → ℕ → List ℕ
with_mark marks i = set marks (i / word_slots) (bit_or (get_or marks (i / word_slots) 0) (bit_of i))

abbrev pub without_mark : List ℕ → ℕ → List ℕ
without_mark marks i = set marks (i / word_slots) (bit_and (get_or marks (i / word_slots) 0) (2 ^ word_slots - 1 - bit_of i))
