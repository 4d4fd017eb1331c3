-- How large the numbers of a line are, and how many bytes it has. For contracts only.
-- Assumes nothing.
use Rattle.std.specs.Prelude.{ℕ}

-- calls, answers and lengths have at most 4 digits
abbrev pub numbers_below : ℕ
numbers_below = 10000

-- three numbers of 4 digits, a status of 2 bytes, a sense of 6, data of 64, five commas, a line feed
abbrev pub line_most : ℕ
line_most = 90
