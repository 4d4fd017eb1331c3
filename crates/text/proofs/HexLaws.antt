-- Laws of hex: the digits, and one byte more.
-- Assumes nothing.
use mathlib.Core.Path.{◌≡◌, refl, sym, ap, ◌∙◌}
use mathlib.Core.List.{List, [], ◌∷◌, ◌++◌, append-nil, append_assoc}
use Prim.Native.Nat.{ℕ, ◌+◌, ◌<◌}
use native.Mathlib.Numerals.{add-one}
use lib.ListN.{length, take, get_or}
use lib.Seq.{take-suc}
use Rattle.text.specs.Text.{hex_digit, hex_byte, hex}

hex_last : (l : List ℕ) (b : ℕ) → hex (l ++ (b ∷ [])) ≡ hex l ++ hex_byte b
unfolding hex
hex_last [] b = append-nil (hex_byte b)
hex_last (x ∷ xs) b = rw (hex_last xs b) (sym (append_assoc (hex_byte x) (hex xs) (hex_byte b)))

pub hex_none : hex [] ≡ []
unfolding hex
hex_none = refl

-- one byte more
pub hex_next : (from : List ℕ) (i : ℕ) → i < length from → hex (take i from) ++ hex_byte (get_or from i 0) ≡ hex (take (i + 1) from)
hex_next from i h = rw (add-one i, take-suc from i 0 h) (sym (hex_last (take i from) (get_or from i 0)))

-- what begins a loop over bytes, and what one turn of it wants
pub ruleset hex_steps = (hex_none, hex_next)

-- ---- appended to a page that has the bytes `l`

pub hex_begun : (l : List ℕ) → l ≡ l ++ hex []
unfolding hex
hex_begun l = sym (append-nil l)

module _ (l from : List ℕ) (i : ℕ) where
  pub hex_more : i < length from → (l ++ hex (take i from)) ++ hex_byte (get_or from i 0) ≡ l ++ hex (take (i + 1) from)
  hex_more h = append_assoc l (hex (take i from)) (hex_byte (get_or from i 0)) ∙ ap (λ (t : List ℕ). l ++ t) (hex_next from i h)

-- the definition runs: each of the sixteen digits
sixteen : hex (0x01 ∷ 0x23 ∷ 0x45 ∷ 0x67 ∷ 0x89 ∷ 0xAB ∷ 0xCD ∷ 0xEF ∷ []) ≡
    0x30 ∷ 0x31 ∷ 0x32 ∷ 0x33 ∷ 0x34 ∷ 0x35 ∷ 0x36 ∷ 0x37 ∷ 0x38 ∷ 0x39 ∷ 0x41 ∷ 0x42 ∷ 0x43 ∷ 0x44 ∷ 0x45 ∷ 0x46 ∷ []
unfolding hex hex_byte hex_digit
sixteen = refl
