-- Pools that differ only in what no answer tells: which slot holds a block, and what a free slot holds.
-- Assumes nothing.
use Rattle.std.specs.Prelude.{◌≡◌, ℕ}
use Rattle.pool.specs.Pool.{Pool, mapped, free, read_block}

-- as many free slots, the same blocks mapped, and the same bytes in each
pub record Alike (p q : Pool) : Type 0 where
  pub frees : free p.owners ≡ free q.owners
  pub maps : (b : ℕ) → mapped p.owners b ≡ mapped q.owners b
  pub reads : (b : ℕ) → read_block p b ≡ read_block q b
