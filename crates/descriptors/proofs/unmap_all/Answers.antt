-- `unmap_all`: none of the descriptors left fails, so each lies within the capacity; one unmapped, the others are left.
-- Assumes nothing.
use Rattle.std.proofs.Common.{length, ap, ◌∙◌, arith}
use Rattle.descriptors.proofs.Takes.{lies_within, passes_on, unmap_next, unmap_none, length_unmap}
use Rattle.descriptors.proofs.unmap_all.Goals as goal

pub invariant_of-range : goal.invariant_of-range
invariant_of-range c = omega (arith, lies_within _ _ _ c.in-Some.ensures.steps _ c.loop-descriptor.invariant.passes, c.requires.1.0)

pub loop-descriptor-preserved : goal.loop-descriptor-preserved
loop-descriptor-preserved c =
    let i = c.loop-descriptor.invariant in
    let took = c.in-Some.ensures.steps in
    record {
      can_next = omega (arith, i.can_next, took.1, took.2);
      is_finite = tt;
      passes = passes_on _ _ _ took _ i.passes;
      as_many = ap length c.unmap_blocks.ensures.0 ∙ length_unmap _ _ _ ∙ i.as_many;
      marked = c.unmap_blocks.ensures.1;
      same = rw c.unmap_blocks.ensures.0 (unmap_next _ _ _ took _) ∙ i.same;
    }

pub returns : goal.returns
returns c = (unmap_none _ _ _ _ c.in-None.ensures.steps ∙ c.loop-descriptor.invariant.same, c.loop-descriptor.invariant.marked)
