-- The bounds of document 01, named once.
-- Assumes nothing.
use Rattle.std.specs.Prelude.{ℕ, ◌^◌}

-- "capacity, blocks | 1 to 2^40"
abbrev pub most_blocks : ℕ
most_blocks = 2 ^ 40

-- "slots in the pool | 1 to 128"
abbrev pub most_slots : ℕ
most_slots = 128

-- "blocks of 512 bytes"
abbrev pub block_bytes : ℕ
block_bytes = 512

-- "blocks in one READ or WRITE | 128"; by Q-1 in one WRITE SAME too
abbrev pub most_transfer : ℕ
most_transfer = 128

-- Q-7: "one bit per slot in two 64-bit words"
abbrev pub word_slots : ℕ
word_slots = 64

abbrev pub mark_words : ℕ
mark_words = 2
