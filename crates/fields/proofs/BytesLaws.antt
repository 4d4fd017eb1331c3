-- Laws of bytes in lent buffers: `put`, `part`, `zeros`, `are_zeros`.
-- Assumes nothing.
use mathlib.Core.Path.{◌≡◌, refl, sym, ap, ap₂, ◌∙◌}
use mathlib.Core.Bool.{Bool, true, ◌&&◌}
use mathlib.Core.List.{List, [], ◌∷◌, ◌++◌}
use Prim.Native.Nat.{ℕ, zero, suc, ◌+◌, ◌≤◌}
use native.Mathlib.Omega.{arith}
use native.Mathlib.Nat.{zero-add, suc-add}
use lib.Dec.{eqb, eqb→eq}
use lib.ListN.{length, take, drop, replicate, length-take, length-drop}
use Rattle.std.specs.List.{list_all}
use Rattle.fields.specs.Bytes.{part, put, zeros, are_zeros}
use Rattle.fields.proofs.Tests.{and_l, and_r, true→T, T_true}

-- ---- zeros

pub zeros_replicate : (n : ℕ) → zeros n ≡ replicate n 0
unfolding zeros
zeros_replicate zero = refl
zeros_replicate (suc n) = ap (λ (l : List ℕ). 0 ∷ l) (zeros_replicate n)

pub length_zeros : (n : ℕ) → length (zeros n) ≡ n
unfolding zeros
length_zeros zero = refl
length_zeros (suc n) = ap suc (length_zeros n)

pub zeros_add : (m n : ℕ) → zeros m ++ zeros n ≡ zeros (m + n)
unfolding zeros
zeros_add zero n = ap zeros (sym (zero-add n))
zeros_add (suc m) n = ap (λ (l : List ℕ). 0 ∷ l) (zeros_add m n) ∙ ap zeros (sym (suc-add m n))

pub are_zeros_zeros : (n : ℕ) → are_zeros (zeros n) ≡ true
unfolding are_zeros zeros
are_zeros_zeros zero = refl
are_zeros_zeros (suc n) = are_zeros_zeros n

pub are_zeros_is : (l : List ℕ) → are_zeros l ≡ true → l ≡ zeros (length l)
unfolding are_zeros zeros
are_zeros_is [] e = refl
are_zeros_is (x ∷ xs) e =
    let t = true→T (eqb x 0 && are_zeros xs) e in
    ap₂ (λ (y : ℕ) (l : List ℕ). y ∷ l) (eqb→eq x 0 (and_l (eqb x 0) (are_zeros xs) t))
    (are_zeros_is xs (T_true (are_zeros xs) (and_r (eqb x 0) (are_zeros xs) t)))

-- all of them, as an iterator tells it
pub all_zeros : (l : List ℕ) → list_all (λ x. eqb x 0) l ≡ are_zeros l
unfolding are_zeros
all_zeros [] = refl
all_zeros (x ∷ xs) = ap (λ (t : Bool). eqb x 0 && t) (all_zeros xs)

-- ---- put

pub length_put : (l : List ℕ) (i : ℕ) (bs : List ℕ) → length (put l i bs) ≡ length l
unfolding put
length_put [] i bs = refl
length_put (x ∷ xs) zero [] = refl
length_put (x ∷ xs) zero (b ∷ bs) = ap suc (length_put xs zero bs)
length_put (x ∷ xs) (suc i) bs = ap suc (length_put xs i bs)

pub put_none : (l : List ℕ) (i : ℕ) → put l i [] ≡ l
unfolding put
put_none [] i = refl
put_none (x ∷ xs) zero = refl
put_none (x ∷ xs) (suc i) = ap (λ (l : List ℕ). x ∷ l) (put_none xs i)

-- nothing is laid past the end
pub put_beyond : (l : List ℕ) (i : ℕ) (bs : List ℕ) → length l ≤ i → put l i bs ≡ l
unfolding put
put_beyond [] i bs h = refl
put_beyond (x ∷ xs) zero bs h = absurd (omega arith)
put_beyond (x ∷ xs) (suc i) bs h = ap (λ (l : List ℕ). x ∷ l) (put_beyond xs i bs (omega arith))

-- at the front
pub put_front : (l bs : List ℕ) → length bs ≤ length l → put l 0 bs ≡ bs ++ drop (length bs) l
unfolding put
put_front [] [] h = refl
put_front [] (b ∷ bs) h = absurd (omega arith)
put_front (x ∷ xs) [] h = refl
put_front (x ∷ xs) (b ∷ bs) h = ap (λ (l : List ℕ). b ∷ l) (put_front xs bs (omega arith))

-- what is laid over is put between what stays
pub put_is : (l : List ℕ) (i : ℕ) (bs : List ℕ) → i + length bs ≤ length l → put l i bs ≡ take i l ++ (bs ++ drop (i + length bs) l)
unfolding put
put_is l zero bs h = put_front l bs (omega arith) ∙ ap (λ (k : ℕ). bs ++ drop k l) (sym (zero-add (length bs)))
put_is [] (suc i) bs h = absurd (omega arith)
put_is (x ∷ xs) (suc i) bs h =
    ap (λ (l : List ℕ). x ∷ l) (put_is xs i bs (omega arith))
    ∙ ap (λ (k : ℕ). x ∷ (take i xs ++ (bs ++ drop k (x ∷ xs)))) (sym (suc-add i (length bs)))

-- the whole
pub put_all : (l bs : List ℕ) → length bs ≡ length l → put l 0 bs ≡ bs
unfolding put
put_all [] [] e = refl
put_all [] (b ∷ bs) e = absurd (omega arith)
put_all (x ∷ xs) [] e = absurd (omega arith)
put_all (x ∷ xs) (b ∷ bs) e = ap (λ (l : List ℕ). b ∷ l) (put_all xs bs (omega arith))

-- neighbours laid one after the other are laid at once
pub put_next : (l : List ℕ) (i : ℕ) (cs bs : List ℕ) → put (put l i cs) (i + length cs) bs ≡ put l i (cs ++ bs)
unfolding put
put_next [] i cs bs = refl
put_next (x ∷ xs) zero [] bs = refl
put_next (x ∷ xs) zero (c ∷ cs) bs =
    ap (λ (k : ℕ). put (c ∷ put xs 0 cs) k bs) (zero-add (suc (length cs)))
    ∙ ap (λ (l : List ℕ). c ∷ l) (ap (λ (k : ℕ). put (put xs 0 cs) k bs) (sym (zero-add (length cs))) ∙ put_next xs zero cs bs)
put_next (x ∷ xs) (suc i) cs bs =
    ap (λ (k : ℕ). put (x ∷ put xs i cs) k bs) (suc-add i (length cs)) ∙ ap (λ (l : List ℕ). x ∷ l) (put_next xs i cs bs)

-- ---- part

pub length_part : (l : List ℕ) (i n : ℕ) → i + n ≤ length l → length (part l i n) ≡ n
unfolding part
length_part l i n h = simp (length-take, length-drop) (omega arith)

pub part_put_same : (l : List ℕ) (i : ℕ) (bs : List ℕ) → i + length bs ≤ length l → part (put l i bs) i (length bs) ≡ bs
unfolding put part
part_put_same [] i [] h = refl
part_put_same [] i (b ∷ bs) h = absurd (omega arith)
part_put_same (x ∷ xs) zero [] h = refl
part_put_same (x ∷ xs) zero (b ∷ bs) h = ap (λ (l : List ℕ). b ∷ l) (part_put_same xs zero bs (omega arith))
part_put_same (x ∷ xs) (suc i) bs h = part_put_same xs i bs (omega arith)

pub take_put : (l : List ℕ) (i : ℕ) (bs : List ℕ) (k : ℕ) → k ≤ i → take k (put l i bs) ≡ take k l
unfolding put
take_put l i bs zero h = refl
take_put [] i bs (suc k) h = refl
take_put (x ∷ xs) zero bs (suc k) h = absurd (omega arith)
take_put (x ∷ xs) (suc i) bs (suc k) h = ap (λ (l : List ℕ). x ∷ l) (take_put xs i bs k (omega arith))

pub drop_put : (l : List ℕ) (i : ℕ) (bs : List ℕ) (j : ℕ) → i + length bs ≤ j → drop j (put l i bs) ≡ drop j l
unfolding put
drop_put [] i bs j h = refl
drop_put (x ∷ xs) zero [] j h = refl
drop_put (x ∷ xs) zero (b ∷ bs) zero h = absurd (omega arith)
drop_put (x ∷ xs) zero (b ∷ bs) (suc j) h = drop_put xs zero bs j (omega arith)
drop_put (x ∷ xs) (suc i) bs zero h = absurd (omega arith)
drop_put (x ∷ xs) (suc i) bs (suc j) h = drop_put xs i bs j (omega arith)

-- a part before, or behind, what is laid over stays
pub part_put_before : (l : List ℕ) (i : ℕ) (bs : List ℕ) (j n : ℕ) → j + n ≤ i → part (put l i bs) j n ≡ part l j n
unfolding put part
part_put_before l i bs j zero h = refl
part_put_before [] i bs j (suc n) h = refl
part_put_before (x ∷ xs) zero bs j (suc n) h = absurd (omega arith)
part_put_before (x ∷ xs) (suc i) bs zero (suc n) h = ap (λ (l : List ℕ). x ∷ l) (take_put xs i bs n (omega arith))
part_put_before (x ∷ xs) (suc i) bs (suc j) (suc n) h = part_put_before xs i bs j (suc n) (omega arith)

pub part_put_behind : (l : List ℕ) (i : ℕ) (bs : List ℕ) (j n : ℕ) → i + length bs ≤ j → part (put l i bs) j n ≡ part l j n
unfolding part
part_put_behind l i bs j n h = ap (take n) (drop_put l i bs j h)
