-- `put_blocks`: the bytes of the blocks passed are at their places, those left are to be put.
-- Assumes nothing.
use Rattle.std.proofs.Common.{◌≡◌, ℕ, List, ◌*◌, length, take, drop}
use Rattle.pool.specs.Bounds.{block_bytes}
use Rattle.map.specs.Index.{put_places}
use Rattle.map.specs.Write.{Stepped}
use Rattle.map.proofs.write.put_blocks.Given as goal

abbrev pub invariant-loop-k : goal.invariant-loop-k
invariant-loop-k l =
    (length l.medium ≡ length l.initial.medium)
    × ((source : List ℕ) → Stepped l.step l.count l.bytes source
    → put_places (drop l.k (take l.count l.index)) l.medium (drop (block_bytes * l.k) source) ≡ put_places (take l.count l.index) l.initial.medium source)
