-- One turn of each loop over a sheet.
-- Assumes nothing.
use mathlib.Core.Path.{◌≡◌}
use mathlib.Core.List.{List}
use Prim.Native.Nat.{ℕ, suc, ◌+◌, ◌-◌, ◌<◌, ◌≤◌}
use native.Mathlib.Omega.{arith}
use Rattle.contents.specs.Contents.{body_end, bodies_end}

bodies_more : (sheet : List ℕ) (i m n at : ℕ) → n ≡ suc m → bodies_end sheet (i + 1) m (body_end sheet i at) ≡ bodies_end sheet i n at
unfolding bodies_end
bodies_more sheet i m n at e = rw (e, sym_suc)
  where
    sym_suc : i + 1 ≡ suc i
    sym_suc = omega arith

pub bodies_turn : (sheet : List ℕ) (i n at end : ℕ) → i < n → end ≡ body_end sheet i at
    → bodies_end sheet (i + 1) (n - (i + 1)) end ≡ bodies_end sheet i (n - i) at
bodies_turn sheet i n at end h e = rw e (bodies_more sheet i (n - (i + 1)) (n - i) at (omega arith))

pub bodies_done : (sheet : List ℕ) (i n at : ℕ) → n ≤ i → at ≡ bodies_end sheet i (n - i) at
unfolding bodies_end
bodies_done sheet i n at h = let e : n - i ≡ 0 = omega arith in rw e
