-- Bytes in lent buffers: a part of one, one laid over another, zeros, and whether all of one are zeros.
-- Assumes nothing.
use Rattle.std.specs.Prelude.{Bool, true, ◌&&◌, List, [], ◌∷◌, ℕ, zero, suc, eqb, take, drop}

-- n bytes of l from i on
unfoldable pub part : List ℕ → ℕ → ℕ → List ℕ
part l i n = take n (drop i l)

-- l with bs laid over it from i on, as far as l goes: it never grows
unfoldable pub put : List ℕ → ℕ → List ℕ → List ℕ
put [] i bs = []
put (x ∷ xs) zero [] = x ∷ xs
put (x ∷ xs) zero (b ∷ bs) = b ∷ put xs zero bs
put (x ∷ xs) (suc i) bs = x ∷ put xs i bs

unfoldable pub zeros : ℕ → List ℕ
zeros zero = []
zeros (suc n) = 0 ∷ zeros n

unfoldable pub are_zeros : List ℕ → Bool
are_zeros [] = true
are_zeros (x ∷ xs) = eqb x 0 && are_zeros xs
