-- Laws of numbers in bytes, each once over the width.
-- Assumes nothing.
use mathlib.Core.Path.{◌≡◌, refl, sym, ap, ap₂, ◌∙◌}
use mathlib.Core.List.{List, ◌∷◌, ◌++◌}
use Prim.Native.Nat.{ℕ, zero, suc, ◌+◌, ◌-◌, ◌*◌, ◌/◌, ◌%◌, ◌^◌, ◌≤◌, ◌<◌}
use native.Mathlib.Nat.{div-one, add-zero, zero-add, suc-add, add_assoc, mul-one, mul_comm, mod-one, one-le-pow, pow-suc, pow-le-pow_right, lt_of_lt_of_le}
use native.Mathlib.Numerals.{add-one}
use native.Mathlib.Omega.{arith}
use lib.Arith.{mod-mul}
use lib.Dec.{lit<}
use lib.ListN.{length, take, drop}
use lib.Seq.{get_or-drop, take_all}
use Rattle.std.specs.Int.{w64, byte_at, bytes_high_first, to_be_bytes}
use Rattle.fields.specs.Field.{byte, field, bytes}

-- one byte more
pub field_more : (i n : ℕ) (l : List ℕ) → field i (suc n) l ≡ field i n l * 256 + byte (i + n) l
unfolding field
field_more i n l = refl

-- the same as a loop says it
pub field_next : (i n : ℕ) (l : List ℕ) → field i (n + 1) l ≡ field i n l * 256 + byte (i + n) l
field_next i n l = rw add-one (field_more i n l)

pub below_more : (n v b : ℕ) → v < 256 ^ n → b < 256 → v * 256 + b < 256 ^ (n + 1)
below_more n v b hv hb = rw (add-one, pow-suc) (omega arith)

-- eight bytes fit 64 bits
pub below_64 : (n x : ℕ) → n ≤ 8 → x < 256 ^ n → x < 2 ^ 64
below_64 n x hn h = lt_of_lt_of_le h (pow-le-pow_right (lit< tt) hn)

pub field_below : (i n : ℕ) (l : List ℕ) → ((k : ℕ) → byte k l < 256) → field i n l < 256 ^ n
unfolding field
field_below i zero l h = lit< tt
field_below i (suc n) l h = rw pow-suc (omega (arith, field_below i n l h, h (i + n)))

pub field_drop : (k i n : ℕ) (l : List ℕ) → field i n (drop k l) ≡ field (k + i) n l
unfolding field byte
field_drop k i zero l = refl
field_drop k i (suc n) l = rw (field_drop k i n l, get_or-drop k l (i + n) 0, add_assoc k i n)

-- ---- a number's bytes

-- those that std's methods give, of every width
be_bytes : (n x : ℕ) → bytes_high_first n x ≡ bytes n x
unfolding bytes
be_bytes zero x = refl
be_bytes (suc n) x = ap₂ (λ (b : ℕ) (l : List ℕ). b ∷ l) (be_byte n x) (be_bytes n x)
  where
    be_byte : (i n : ℕ) → byte_at i n ≡ n / 256 ^ i % 256
    be_byte zero n = ap (λ (q : ℕ). q % 256) (sym (div-one n))
    be_byte (suc i) n = refl

drop_bytes : (m n x : ℕ) → drop m (bytes (m + n) x) ≡ bytes n x
unfolding bytes
drop_bytes zero n x = rw zero-add refl
drop_bytes (suc m) n x = rw suc-add (drop_bytes m n x)

pub length_bytes : (n x : ℕ) → length (bytes n x) ≡ n
unfolding bytes
length_bytes zero x = refl
length_bytes (suc n) x = ap suc (length_bytes n x)

-- the last n of eight
pub last_bytes : (n x : ℕ) → n ≤ 8 → take (8 - (8 - n)) (drop (8 - n) (to_be_bytes w64 x)) ≡ bytes n x
last_bytes n x h =
    let e : 8 ≡ 8 - n + n = omega arith in
    let d : drop (8 - n) (to_be_bytes w64 x) ≡ bytes n x = ap (drop (8 - n)) (be_bytes 8 x ∙ ap (λ (k : ℕ). bytes k x) e) ∙ drop_bytes (8 - n) n x in
    ap (take (8 - (8 - n))) d ∙ take_all (8 - (8 - n)) (bytes n x) (omega (arith, length_bytes n x))

-- the first byte counts most
field_front : (i n : ℕ) (l : List ℕ) → field i (suc n) l ≡ byte i l * 256 ^ n + field (i + 1) n l
unfolding field
field_front i zero l = simp (add-zero, mul-one, zero-add) refl
field_front i (suc n) l =
    rw (field_front i n l, pow-suc 256 n, next i n) (omega arith)
  where
    next : (i n : ℕ) → i + suc n ≡ i + 1 + n
    next i n = omega arith

field_tail : (b : ℕ) (n : ℕ) (l : List ℕ) → field 1 n (b ∷ l) ≡ field 0 n l
field_tail b n l = sym (field_drop 1 0 n (b ∷ l))

-- what is put in n bytes and read again
pub field_bytes : (n x : ℕ) (l : List ℕ) → field 0 n (bytes n x ++ l) ≡ x % 256 ^ n
unfolding bytes byte field
field_bytes zero x l = sym (mod-one x)
field_bytes (suc n) x l =
    field_front 0 n _
    ∙ rw (field_tail (x / 256 ^ n % 256) n (bytes n x ++ l), field_bytes n x l, pow-suc 256 n, mul_comm (256 ^ n) 256)
    (sym (mod-mul x {m = 256} {c = 256 ^ n} (lit< tt) (one-le-pow n 256 (lit< tt))))
