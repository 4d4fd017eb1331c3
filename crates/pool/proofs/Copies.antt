-- One block so many times over: how long that is, each block of it, and what a range reads after it is written.
-- Assumes nothing.
use mathlib.Core.Path.{◌≡◌, refl, ap, ◌∙◌}
use mathlib.Core.List.{List}
use Prim.Native.Nat.{ℕ, zero, suc, ◌+◌, ◌*◌, ◌≤◌, ◌<◌}
use native.Mathlib.Omega.{arith}
use lib.ListN.{length, take, drop, length-append}
use lib.Seq.{drop-append-add, take_at}
use Rattle.pool.specs.Bounds.{block_bytes}
use Rattle.pool.specs.Pool.{Pool, free, unmapped, read_block, write_blocks, copies}
use Rattle.pool.proofs.Reading.{write_in}

pub length_copies : (n : ℕ) (block : List ℕ) → length block ≡ block_bytes → length (copies n block) ≡ block_bytes * n
unfolding copies
length_copies zero block e = refl
length_copies (suc n) block e = omega (arith, length-append block (copies n block), length_copies n block e)

-- each block of it is that block
pub copies_at : (n : ℕ) (block : List ℕ) → length block ≡ block_bytes → (i : ℕ) → i < n
    → take block_bytes (drop (block_bytes * i) (copies n block)) ≡ block
unfolding copies
copies_at zero block e i h = absurd (omega arith)
copies_at (suc n) block e zero h = take_at block (copies n block) block_bytes e
copies_at (suc n) block e (suc i) h =
    let next : block_bytes * suc i ≡ length block + block_bytes * i = omega arith in
    ap (λ (k : ℕ). take block_bytes (drop k (copies (suc n) block))) next
    ∙ ap (take block_bytes) (drop-append-add block (copies n block) (block_bytes * i))
    ∙ copies_at n block e i (omega arith)

-- every block of the range reads as that block after it is written
pub copies_in : (p : Pool) (a n : ℕ) (block : List ℕ) → length p.medium ≡ block_bytes * length p.owners → length block ≡ block_bytes
    → unmapped p.owners a n ≤ free p.owners → (i : ℕ) → i < n → read_block (write_blocks p a n (copies n block)) (a + i) ≡ block
copies_in p a n block w e room i h =
    let l = length_copies n block e in
    write_in p a n (copies n block) w (omega arith) room i h ∙ copies_at n block e i h
