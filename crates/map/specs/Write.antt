-- A write that is done whole or refused with nothing changed.
-- Assumes nothing.
use Rattle.std.specs.Prelude.{◌≡◌, ℕ, Bool, true, cond, List, ◌*◌, ◌<◌}
use Rattle.fields.specs.Bytes.{part}
use Rattle.pool.specs.Bounds.{block_bytes}
use Rattle.pool.specs.Marks.{marks_of}
use Rattle.pool.specs.Pool.{Pool, pool, room_for, assign_blocks, write_blocks}
use Rattle.map.specs.Index.{Indexed}

-- slots given to all of the n blocks from a on, where there is room, or to none; the marks and the index go with them
pub record Gave (owners : List ℕ) (a n : ℕ) (done : Bool) (after marks index : List ℕ) : Type 0 where
  pub room : done ≡ room_for owners a n
  pub given : after ≡ cond done (assign_blocks owners a n) owners
  pub marked : marks ≡ marks_of after
  pub indexed : done ≡ true → Indexed after a n index

-- whether a write was done, and the pool after it
pub record Written : Type 0 where
  pub done : Bool
  pub after : Pool

abbrev pub written : Bool → List ℕ → List ℕ → List ℕ → Written
written done owners marks medium = record { done = done; after = pool owners marks medium }

-- done where there is room; where not, nothing changes
unfoldable pub try_write : Pool → ℕ → ℕ → List ℕ → Written
try_write p a n bs =
    record { done = room_for p.owners a n; after = cond (room_for p.owners a n) (write_blocks p a n bs) p }

-- the first n blocks of `source` are those that stand a step apart in `bytes`: step 0 is one block n times over
pub record Stepped (step n : ℕ) (bytes source : List ℕ) : Type 0 where
  pub each : (k : ℕ) → k < n → part source (block_bytes * k) block_bytes ≡ part bytes (step * k) block_bytes
