-- One turn of the loop that copies bytes.
-- Assumes nothing.
use mathlib.Core.Path.{◌≡◌, sym, ◌∙◌}
use mathlib.Core.List.{List}
use Prim.Native.Nat.{ℕ, ◌+◌, ◌<◌, ◌≤◌}
use native.Mathlib.Omega.{arith}
use native.Mathlib.Numerals.{add-one}
use lib.ListN.{length, get_or, take, set}
use lib.Seq.{take_all, take-suc, take-suc-set}

pub copy_turn : (d s : List ℕ) (i : ℕ) → i < length d → i < length s → take i d ≡ take i s
    → take (i + 1) (set d i (get_or s i 0)) ≡ take (i + 1) s
copy_turn d s i hd hs e = rw (add-one i, take-suc-set d i (get_or s i 0), take-suc s i 0, e)

pub copy_done : (d s : List ℕ) (i : ℕ) → length d ≡ length s → length d ≤ i → take i d ≡ take i s → d ≡ s
copy_done d s i l h e = sym (take_all i d h) ∙ e ∙ take_all i s (omega arith)
