-- `assign_blocks`: the blocks passed have their slots.
-- Assumes nothing.
use Rattle.std.proofs.Common.{◌≡◌, length}
use Rattle.marks.specs.Words.{both}
use Rattle.map.proofs.Blocks.{Given}
use Rattle.map.proofs.write.assign_blocks.Given as goal

abbrev pub invariant-loop-k : goal.invariant-loop-k
invariant-loop-k l = (length l.index ≡ length l.initial.index) × Given l.initial.owners l.transfer.range.first.0 l.transfer.range.count l.owners (both l.words) l.index l.k
