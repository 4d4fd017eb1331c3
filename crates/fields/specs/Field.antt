-- Numbers in bytes: "most significant byte first, in sheets and files too".
-- Assumes nothing.
use Rattle.std.specs.Prelude.{Bool, List, [], ◌∷◌, ℕ, zero, suc, ◌+◌, ◌*◌, ◌/◌, ◌%◌, ◌^◌, eqb, get_or}

-- byte i of l; past the end 0
unfoldable pub byte : ℕ → List ℕ → ℕ
byte i l = get_or l i 0

-- bit k of the byte b, counted from 0, the least significant
unfoldable pub bit : ℕ → ℕ → Bool
bit k b = eqb (b / 2 ^ k % 2) 1

-- the number in the n bytes of l from i on: one definition over the width n, which the 10 and 16 byte forms share
unfoldable pub field : ℕ → ℕ → List ℕ → ℕ
field i zero l = 0
field i (suc n) l = field i n l * 256 + byte (i + n) l

-- x in n bytes
unfoldable pub bytes : ℕ → ℕ → List ℕ
bytes zero x = []
bytes (suc n) x = x / 256 ^ n % 256 ∷ bytes n x
