-- `read_blocks`: the blocks passed are laid over the front of what was lent.
-- Assumes nothing.
use Rattle.std.proofs.Common.{◌≡◌, length, take}
use Rattle.fields.specs.Bytes.{put}
use Rattle.map.specs.Index.{read_places}
use Rattle.map.proofs.read.read_blocks.Given as goal

abbrev pub invariant-loop-k : goal.invariant-loop-k
invariant-loop-k l = (length l.out ≡ length l.initial.out) × (l.out ≡ put l.initial.out 0 (read_places l.medium (length l.owners) (take l.k l.index)))
