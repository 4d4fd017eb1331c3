-- Laws of fields in bytes: the bits of a field make its number.
-- Assumes nothing.
use mathlib.Core.Path.{◌≡◌, refl, sym, ap, ap₂, ◌∙◌}
use mathlib.Core.Bool.{Bool, cond}
use mathlib.Core.List.{List}
use Prim.Native.Nat.{ℕ, zero, suc, ◌+◌, ◌*◌, ◌-◌, ◌/◌, ◌%◌, ◌^◌, ◌≤◌, ◌<◌}
use native.Mathlib.Nat.{zero-add, add-zero, mod-one, pow-succ'}
use native.Mathlib.Omega.{arith}
use lib.Arith.{mod-mul}
use lib.Dec.{T, eqb, leb, leb→le, lit<}
use lib.Pow.{pow_pos, shr-shr}
use Rattle.fields.specs.Field.{byte, bit, field}
use Rattle.fields.specs.Bits.{Bits, within, whole, bit_in, number_in, AgreeIn, is_place, first_byte, top_bit, bit_count}
use Rattle.fields.proofs.Tests.{and_l, and_r}

-- ---- the bits of a number

-- a digit below 2 is known by the test for 1
digit_is : (u : ℕ) → u < 2 → u ≡ cond (eqb u 1) 1 0
digit_is zero h = refl
digit_is (suc zero) h = refl
digit_is (suc (suc u)) h = absurd (omega arith)

-- so equal bits are equal digits
bit_same : (k x y : ℕ) → bit k x ≡ bit k y → x / 2 ^ k % 2 ≡ y / 2 ^ k % 2
unfolding bit
bit_same k x y e =
    digit_is (x / 2 ^ k % 2) (omega arith) ∙ ap (λ (t : Bool). cond t 1 0) e ∙ sym (digit_is (y / 2 ^ k % 2) (omega arith))

-- the highest of n + 1 bits from s on, and the others
highest_bit : (n s x : ℕ) → x / 2 ^ s % 2 ^ suc n ≡ x / 2 ^ (s + n) % 2 * 2 ^ n + x / 2 ^ s % 2 ^ n
highest_bit n s x = rw (pow-succ' 2 n, ← shr-shr x s n) (mod-mul (x / 2 ^ s) {m = 2} {c = 2 ^ n} (lit< tt) (pow_pos n))

-- numbers that agree in n bits from s on agree in what those bits say
bits_same : (n s x y : ℕ) → ((i : ℕ) → i < n → bit (s + i) x ≡ bit (s + i) y) → x / 2 ^ s % 2 ^ n ≡ y / 2 ^ s % 2 ^ n
bits_same zero s x y h = mod-one (x / 2 ^ s) ∙ sym (mod-one (y / 2 ^ s))
bits_same (suc n) s x y h =
    rw (highest_bit n s x, highest_bit n s y)
    (ap₂ (λ (d r : ℕ). d * 2 ^ n + r) (bit_same (s + n) x y (h n (omega arith))) (bits_same n s x y (λ i hi. h i (omega arith))))

-- eight bits are all that a byte has
byte_same : (x y : ℕ) → x < 256 → y < 256 → ((i : ℕ) → i < 8 → bit i x ≡ bit i y) → x ≡ y
byte_same x y hx hy h = omega (arith, bits_same 8 0 x y (λ i hi. rw zero-add (h i hi)))

-- ---- which bit of which byte a field's bit is: a field counts from its highest bit, a byte from its lowest

within_bit : (at top n i : ℕ) (l : List ℕ) → top ≤ 7 → n ≤ top + 1 → i < n
    → bit_in (within at top n) (n - 1 - i) l ≡ bit (top + 1 - n + i) (byte at l)
unfolding bit_in first_byte top_bit
within_bit at top n i l ht hn hi = ap₂ (λ (k j : ℕ). bit k (byte j l)) (omega arith) (omega arith)

whole_bit : (at n k i : ℕ) (l : List ℕ) → i < 8 → bit_in (whole at n) (8 * k + (7 - i)) l ≡ bit i (byte (at + k) l)
unfolding bit_in first_byte top_bit
whole_bit at n k i l hi = ap₂ (λ (j p : ℕ). bit j (byte p l)) (omega arith) (omega arith)

-- ---- the same bits make the same number

-- here the bytes may be any numbers: nothing above the field is read
pub within_number : (at top n : ℕ) (l m : List ℕ) → top ≤ 7 → n ≤ top + 1 → AgreeIn (within at top n) l m
    → number_in (within at top n) l ≡ number_in (within at top n) m
unfolding number_in bit_count
within_number at top n l m ht hn h =
    bits_same n (top + 1 - n) (byte at l) (byte at m)
    (λ i hi. sym (within_bit at top n i l ht hn hi) ∙ h (n - 1 - i) (omega arith) ∙ within_bit at top n i m ht hn hi)

module _ (at : ℕ) (l m : List ℕ) (hl : (k : ℕ) → byte k l < 256) (hm : (k : ℕ) → byte k m < 256) where
  -- the last byte's eight bits, below those of the bytes before it
  last_byte : (n : ℕ) → AgreeIn (whole at (suc n)) l m → byte (at + n) l ≡ byte (at + n) m
  unfolding bit_count
  last_byte n h =
      byte_same (byte (at + n) l) (byte (at + n) m) (hl (at + n)) (hm (at + n))
      (λ i hi. sym (whole_bit at (suc n) n i l hi) ∙ h (8 * n + (7 - i)) (omega arith) ∙ whole_bit at (suc n) n i m hi)

  fewer_agree : (n : ℕ) → AgreeIn (whole at (suc n)) l m → AgreeIn (whole at n) l m
  unfolding bit_in first_byte top_bit bit_count
  fewer_agree n h i hi = h i (omega arith)

  whole_number : (n : ℕ) → AgreeIn (whole at n) l m → field at n l ≡ field at n m
  unfolding field
  whole_number zero h = refl
  whole_number (suc n) h = ap₂ (λ (v b : ℕ). v * 256 + b) (whole_number n (fewer_agree n h)) (last_byte n h)

-- two lists of bytes that have the same bits in a field have the same number in it
pub agree_number : (b : Bits) (l m : List ℕ) → T (is_place b) → ((k : ℕ) → byte k l < 256) → ((k : ℕ) → byte k m < 256)
    → AgreeIn b l m → number_in b l ≡ number_in b m
unfolding is_place number_in
agree_number (within at top n) l m t hl hm h =
    within_number at top n l m (leb→le top 7 (and_l (leb top 7) (leb n (top + 1)) t))
    (leb→le n (top + 1) (and_r (leb top 7) (leb n (top + 1)) t)) h
agree_number (whole at n) l m t hl hm h = whole_number at l m hl hm n h

-- ---- a field of one byte

pub one_byte : (at : ℕ) (l : List ℕ) → number_in (whole at 1) l ≡ byte at l
unfolding number_in field
one_byte at l = rw (zero-add, add-zero)
