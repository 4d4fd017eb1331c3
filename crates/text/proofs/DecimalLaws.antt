-- Laws of decimal: a number's digits are those of its tenth and the last; they say the number, and no other text with no leading zero does;
-- how many they are. Assumes nothing.
use mathlib.Core.Path.{◌≡◌, refl, sym, ap, ◌∙◌}
use mathlib.Core.Bool.{Bool, true, false}
use mathlib.Core.List.{List, [], ◌∷◌, ◌++◌, append-nil, append_assoc}
use Prim.Native.Nat.{ℕ, zero, suc, ◌+◌, ◌-◌, ◌*◌, ◌/◌, ◌%◌, ◌^◌, ◌≤◌, ◌<◌}
use native.Mathlib.Nat.{le_refl, pow-suc}
use native.Mathlib.Omega.{arith}
use lib.ListN.{length, length-append}
use lib.Dec.{ltb}
use borrow.Author.Tests.{ltb-true, ltb-false, lt-ltb, le-ltb}
use Rattle.text.specs.Text.{digit, digits, decimal, say_after, says, Digits}

-- one digit, or more
split : {X : Type 0} (x : ℕ) → (x < 10 → X) → (10 ≤ x → X) → X
split {X} x one more = go (ltb x 10) refl
  where
    go : (b : Bool) → ltb x 10 ≡ b → X
    go true e = one (ltb-true x 10 e)
    go false e = more (ltb-false x 10 e)

-- ---- the last digit, and what stands before it

digits_one : (n x : ℕ) → x < 10 → digits n x ≡ digit x ∷ []
unfolding digits
digits_one zero x h = refl
digits_one (suc n) x h = rw (lt-ltb x 10 h, digits)

digits_more : (n x : ℕ) → 10 ≤ x → digits (suc n) x ≡ digits n (x / 10) ++ (digit x ∷ [])
unfolding digits
digits_more n x h = rw (le-ltb x 10 h, digits)

-- how many may stand before the last does not matter where it is enough
enough : (n m x : ℕ) → x ≤ n → x ≤ m → digits n x ≡ digits m x
enough zero m x h k = digits_one zero x (omega arith) ∙ sym (digits_one m x (omega arith))
enough (suc n) zero x h k = digits_one (suc n) x (omega arith) ∙ sym (digits_one zero x (omega arith))
enough (suc n) (suc m) x h k =
    split x
    (λ l. digits_one (suc n) x l ∙ sym (digits_one (suc m) x l))
    (λ g. digits_more n x g ∙ ap (λ (l : List ℕ). l ++ (digit x ∷ [])) (enough n m (x / 10) (omega arith) (omega arith)) ∙ sym (digits_more m x g))

pub decimal_one : (x : ℕ) → x < 10 → decimal x ≡ digit x ∷ []
unfolding decimal
decimal_one x h = digits_one x x h

pub decimal_more : (x : ℕ) → 10 ≤ x → decimal x ≡ decimal (x / 10) ++ (digit x ∷ [])
unfolding decimal
decimal_more zero h = absurd (omega arith)
decimal_more (suc y) h =
    digits_more y (suc y) h
    ∙ ap (λ (l : List ℕ). l ++ (digit (suc y) ∷ [])) (enough y (suc y / 10) (suc y / 10) (omega arith) (le_refl _))

-- what holds of one digit, and with each digit more, holds of every number
below : (P : ℕ → Type 0) → ((x : ℕ) → x < 10 → P x) → ((x : ℕ) → 10 ≤ x → P (x / 10) → P x) → (n x : ℕ) → x ≤ n → P x
below P one more zero x h = one x (omega arith)
below P one more (suc n) x h = split x (one x) (λ g. more x g (below P one more n (x / 10) (omega arith)))

by_digits : (P : ℕ → Type 0) → ((x : ℕ) → x < 10 → P x) → ((x : ℕ) → 10 ≤ x → P (x / 10) → P x) → (x : ℕ) → P x
by_digits P one more x = below P one more x x (le_refl x)

-- ---- reading

say_append : (v : ℕ) (s t : List ℕ) → say_after v (s ++ t) ≡ say_after (say_after v s) t
unfolding say_after
say_append v [] t = refl
say_append v (d ∷ ds) t = say_append (v * 10 + (d - 0x30)) ds t

says_one : (x : ℕ) → x < 10 → says (digit x ∷ []) ≡ x
unfolding says say_after digit
says_one x h = omega arith

says_more : (x : ℕ) (l : List ℕ) → says l ≡ x / 10 → says (l ++ (digit x ∷ [])) ≡ x
unfolding says say_after digit
says_more x l e = say_append 0 l _ ∙ rw e (omega arith)

-- the digits of a number say the number
pub decimal_reads_back : (x : ℕ) → says (decimal x) ≡ x
decimal_reads_back =
    by_digits (λ x. says (decimal x) ≡ x)
    (λ x h. ap says (decimal_one x h) ∙ says_one x h)
    (λ x h e. ap says (decimal_more x h) ∙ says_more x (decimal (x / 10)) e)

-- ---- no other text

digit_more : (v d : ℕ) → 1 ≤ v → 0x30 ≤ d → d ≤ 0x39 → decimal (v * 10 + (d - 0x30)) ≡ decimal v ++ (d ∷ [])
unfolding digit
digit_more v d g h k =
    let x : ℕ = v * 10 + (d - 0x30) in
    let q : x / 10 ≡ v = omega arith in
    let r : 0x30 + x % 10 ≡ d = omega arith in
    decimal_more x (omega arith) ∙ rw (q, r)

decimal_after : (v : ℕ) (l : List ℕ) → 1 ≤ v → Digits l → decimal (say_after v l) ≡ decimal v ++ l
unfolding say_after Digits
decimal_after v [] g f = sym (append-nil (decimal v))
decimal_after v (d ∷ ds) g f =
    let h = f 0 (omega arith) in
    decimal_after (v * 10 + (d - 0x30)) ds (omega arith) (λ k l. f (suc k) (omega arith))
    ∙ rw (digit_more v d g h.0 h.1) (append_assoc (decimal v) (d ∷ []) ds)

-- digits with no leading zero are the decimal of the number that they say
pub decimal_only : (d : ℕ) (ds : List ℕ) → Digits (d ∷ ds) → 0x31 ≤ d → decimal (says (d ∷ ds)) ≡ d ∷ ds
unfolding says say_after Digits digit
decimal_only d ds f n =
    let h = f 0 (omega arith) in
    decimal_after (0 * 10 + (d - 0x30)) ds (omega arith) (λ k l. f (suc k) (omega arith))
    ∙ ap (λ (l : List ℕ). l ++ ds) (decimal_one (0 * 10 + (d - 0x30)) (omega arith) ∙ ap (λ (b : ℕ). b ∷ []) (omega arith))

-- ---- how many digits

-- a number below 10 ^ n has at most n, n from 1 on
pub decimal_length : (n x : ℕ) → 1 ≤ n → x < 10 ^ n → length (decimal x) ≤ n
decimal_length zero x g h = absurd (omega arith)
decimal_length (suc zero) x g h = rw (decimal_one x (omega arith)) (omega arith)
decimal_length (suc (suc n)) x g h =
    let tenth : x / 10 < 10 ^ suc n = omega (arith, rw pow-suc at h) in
    split x
    (λ l. rw (decimal_one x l) (omega arith))
    (λ m. rw (decimal_more x m, length-append) (omega (arith, decimal_length (suc n) (x / 10) (omega arith) tenth)))

-- ---- put into a lent buffer

-- a u64 has at most 19 digits before its last
pub tenth_length : (y : ℕ) → y < 10 ^ 19 → length (decimal y) ≤ 19
tenth_length y h = decimal_length 19 y (omega arith) h

-- what one turn wants
pub ruleset decimal_steps = (decimal_one, decimal_more, tenth_length)

-- ---- appended to a page that has the bytes `l`

pub appended_length : (n : ℕ) (l : List ℕ) (x : ℕ) → 1 ≤ n → x < 10 ^ n → length (l ++ decimal x) ≤ length l + n
appended_length n l x g h = omega (arith, length-append l (decimal x), decimal_length n x g h)

-- a u64 has at most 20 digits
pub decimal_most : (l : List ℕ) (x : ℕ) → x < 2 ^ 64 → length (l ++ decimal x) ≤ length l + 20
decimal_most l x h = appended_length 20 l x (omega arith) (omega arith)

-- and all but the last are 19
pub tenth_most : (l : List ℕ) (y : ℕ) → y < 10 ^ 19 → length (l ++ decimal y) ≤ length l + 19
tenth_most l y h = appended_length 19 l y (omega arith) h

-- and where it is appended digit after digit: the first, and one more
module _ (l : List ℕ) (x : ℕ) where
  pub put_one : x < 10 → l ++ (digit x ∷ []) ≡ l ++ decimal x
  put_one h = ap (λ (t : List ℕ). l ++ t) (sym (decimal_one x h))

  pub put_more : 10 ≤ x → (l ++ decimal (x / 10)) ++ (digit x ∷ []) ≡ l ++ decimal x
  put_more h = append_assoc l (decimal (x / 10)) (digit x ∷ []) ∙ ap (λ (t : List ℕ). l ++ t) (sym (decimal_more x h))

-- ---- the definition runs: 0, and 2 ^ 40

zero_is : decimal 0 ≡ 0x30 ∷ []
unfolding decimal digits digit
zero_is = refl

large_is : decimal (2 ^ 40) ≡ 0x31 ∷ 0x30 ∷ 0x39 ∷ 0x39 ∷ 0x35 ∷ 0x31 ∷ 0x31 ∷ 0x36 ∷ 0x32 ∷ 0x37 ∷ 0x37 ∷ 0x37 ∷ 0x36 ∷ []
unfolding decimal digits digit
large_is = refl
