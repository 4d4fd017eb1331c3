-- WRITE SAME(16): one block for a whole range, written or, where it is asked for and the block is zeros, unmapped.
-- Assumes nothing.
use Rattle.std.specs.Prelude.{Bool, ◌&&◌, cond, List, ℕ, take}
use Rattle.fields.specs.Bytes.{zeros, are_zeros}
use Rattle.fields.specs.Field.{bit}
use Rattle.pool.specs.Bounds.{block_bytes}
use Rattle.pool.specs.Pool.{Pool, copies, write_blocks, unmap_blocks}

-- Q-1: "byte 1 bits … 3 UNMAP, 0 NDOB"
unfoldable pub may_unmap : ℕ → Bool
may_unmap options = bit 3 options

unfoldable pub has_no_data : ℕ → Bool
has_no_data options = bit 0 options

-- the block that is sent: the first of data-out; Q-1: "NDOB means zeros."
unfoldable pub block_sent : ℕ → List ℕ → List ℕ
block_sent options data_out = cond (has_no_data options) (zeros block_bytes) (take block_bytes data_out)

-- Q-1: "With UNMAP and an all-zero block, unmap; with a nonzero one, write"
unfoldable pub unmaps_same : ℕ → List ℕ → Bool
unmaps_same options data_out = may_unmap options && are_zeros (block_sent options data_out)

-- the pool after it: freed as UNMAP frees, or written as a WRITE of the block so many times over
unfoldable pub same_blocks : Pool → ℕ → ℕ → ℕ → List ℕ → Pool
same_blocks p address count options data_out =
    cond (unmaps_same options data_out) (unmap_blocks p address count) (write_blocks p address count (copies count (block_sent options data_out)))
