-- `unmap_blocks`: those of the slots passed that hold a block of the range are freed.
-- Assumes nothing.
use Rattle.map.proofs.Turns.{Freeing}
use Rattle.map.proofs.unmap.unmap_blocks.Given as goal

abbrev pub invariant-loop-i : goal.invariant-loop-i
invariant-loop-i l = Freeing l.range.first.0 l.range.count l.initial.owners l.owners l.marks l.i
