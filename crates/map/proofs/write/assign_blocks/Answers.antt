-- `assign_blocks`: a block that has its slot keeps it, any other gets the lowest that is not marked.
-- Assumes nothing.
use Rattle.std.proofs.Common.{length, refl, ap, ◌∙◌, arith, length-set}
use Rattle.pool.proofs.Marking.{length_marks_of}
use Rattle.map.proofs.Blocks.{give_start, give_none, give_below, give_one, give_done}
use Rattle.map.proofs.write.assign_blocks.Goals as goal

pub of-words-requires : goal.of-words-requires
of-words-requires c = ap length c.requires.1 ∙ length_marks_of _

pub loop-k-init : goal.loop-k-init
loop-k-init c = (refl, give_start _ _ _ _ _ c.requires.0 (c.of-words.ensures ∙ c.requires.1) c.requires.2 c.requires.3)

pub bounds-index-k : goal.bounds-index-k
bounds-index-k c = omega (arith, c.requires.2.size)

pub loop-k-preserved-then-index-k : goal.loop-k-preserved-then-index-k
loop-k-preserved-then-index-k c = (c.loop-k.invariant.0, give_none _ _ _ _ _ _ _ c.loop-k.invariant.1 c.loop-k-test.true (omega (arith, c.loop-k.invariant.1.same)))

pub take-place-requires : goal.take-place-requires
take-place-requires c = omega (arith, c.loop-k.invariant.1.few, give_below _ _ _ _ _ _ _ c.loop-k.invariant.1 c.loop-k-test.true (omega (arith, c.loop-k.invariant.1.same)) _ refl)

pub offset_bounds-owners-place : goal.offset_bounds-owners-place
offset_bounds-owners-place c = omega (arith, c.loop-k.invariant.1.few, give_below _ _ _ _ _ _ _ c.loop-k.invariant.1 c.loop-k-test.true (omega (arith, c.loop-k.invariant.1.same)) _ c.take-place.ensures.0)

pub bounds-owners-place : goal.bounds-owners-place
bounds-owners-place c = give_below _ _ _ _ _ _ _ c.loop-k.invariant.1 c.loop-k-test.true (omega (arith, c.loop-k.invariant.1.same)) _ c.take-place.ensures.0

pub bounds-index-k-in-loop-k : goal.bounds-index-k-in-loop-k
bounds-index-k-in-loop-k c = omega (arith, c.requires.2.size)

pub loop-k-preserved : goal.loop-k-preserved
loop-k-preserved c = (simp length-set c.loop-k.invariant.0, give_one _ _ _ _ _ _ _ c.loop-k.invariant.1 c.loop-k-test.true (omega (arith, c.loop-k.invariant.1.same)) _ _ c.take-place.ensures.0 c.take-place.ensures.1)

pub put-requires : goal.put-requires
put-requires c = ap length c.requires.1 ∙ length_marks_of _

pub returns : goal.returns
returns c = (give_done _ _ _ _ _ _ _ c.loop-k.invariant.1 (omega arith), c.put.ensures ∙ c.loop-k.invariant.1.marked, c.loop-k.invariant.1.indexed)
