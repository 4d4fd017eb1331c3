-- `unmap_blocks`: a slot of the range is freed and loses its mark, any other is kept.
-- Assumes nothing.
use Rattle.std.proofs.Common.{length, sym, ap, ◌∙◌, arith}
use Rattle.pool.proofs.Marking.{length_marks_of}
use Rattle.map.proofs.Turns.{free_start, free_one, free_none, free_done}
use Rattle.map.proofs.unmap.unmap_blocks.Goals as goal

pub loop-i-init : goal.loop-i-init
loop-i-init c = free_start _ _ _ _ c.requires.0 c.requires.1

pub loop-i-preserved-then-not-names : goal.loop-i-preserved-then-not-names
loop-i-preserved-then-not-names c = free_none _ _ _ _ _ _ c.loop-i.invariant (omega (arith, c.loop-i.invariant.same)) (sym c.names.ensures ∙ c.if-not-names.true)

pub clear-requires : goal.clear-requires
clear-requires c = (omega (arith, c.loop-i.invariant.same, c.loop-i.invariant.few), ap length c.loop-i.invariant.marked ∙ length_marks_of _)

pub loop-i-preserved : goal.loop-i-preserved
loop-i-preserved c = free_one _ _ _ _ _ _ c.loop-i.invariant _ (omega (arith, c.loop-i.invariant.same)) (sym c.names.ensures ∙ c.if-not-names.false) c.clear.ensures

pub shape_of-marks : goal.shape_of-marks
shape_of-marks c = ap length c.loop-i.invariant.marked ∙ length_marks_of _ ∙ sym (ap length c.requires.1 ∙ length_marks_of _)

pub returns : goal.returns
returns c = (free_done _ _ _ _ _ _ c.loop-i.invariant (omega (arith, c.loop-i.invariant.same)), c.loop-i.invariant.marked)
