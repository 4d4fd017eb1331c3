-- Numbers and bytes as texts, in ASCII: decimal of every number, and what a text of digits says; hex.
-- Assumes nothing.
use Rattle.std.specs.Prelude.{true, false, cond, List, [], ◌∷◌, ◌++◌, ℕ, zero, suc, ◌+◌, ◌-◌, ◌*◌, ◌/◌, ◌%◌, ◌≤◌, ◌<◌, ltb, length, get_or}

abbrev pub comma : ℕ
comma = 0x2C

abbrev pub line_feed : ℕ
line_feed = 0x0A

-- ---- decimal

-- the last digit of x
unfoldable pub digit : ℕ → ℕ
digit x = 0x30 + x % 10

-- the digits of x, most significant first; n bounds how many stand before the last
unfoldable pub digits : ℕ → ℕ → List ℕ
digits zero x = digit x ∷ []
digits (suc n) x = elim (ltb x 10) [ true ↦ digit x ∷ [] | false ↦ digits n (x / 10) ++ (digit x ∷ []) ]

-- x in decimal, with no leading zero: no number has more digits before its last than it counts
unfoldable pub decimal : ℕ → List ℕ
decimal x = digits x x

-- the number that digits say, behind those that said v
unfoldable pub say_after : ℕ → List ℕ → ℕ
say_after v [] = v
say_after v (d ∷ ds) = say_after (v * 10 + (d - 0x30)) ds

unfoldable pub says : List ℕ → ℕ
says l = say_after 0 l

-- each byte of l is a decimal digit
unfoldable pub Digits : List ℕ → Type 0
Digits l = (k : ℕ) → k < length l → (0x30 ≤ get_or l k 0) × (get_or l k 0 ≤ 0x39)

-- ---- hex

-- "hex is upper case": the digit of a number below 16
unfoldable pub hex_digit : ℕ → ℕ
hex_digit d = cond (ltb d 10) (0x30 + d) (0x41 + (d - 10))

unfoldable pub hex_byte : ℕ → List ℕ
hex_byte b = hex_digit (b / 16) ∷ hex_digit (b % 16) ∷ []

unfoldable pub hex : List ℕ → List ℕ
hex [] = []
hex (b ∷ bs) = hex_byte b ++ hex bs
