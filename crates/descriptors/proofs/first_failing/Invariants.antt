-- `first_failing`: what is told of the descriptors left is told of all.
-- Assumes nothing.
use Rattle.std.proofs.Common.{◌≡◌}
use Rattle.descriptors.specs.Descriptors.{first_failing}
use Rattle.descriptors.proofs.first_failing.Given as goal

abbrev pub invariant-loop-descriptor : goal.invariant-loop-descriptor
invariant-loop-descriptor l = goal.iterator-loop-descriptor.can_next l.descriptor-iterator
    × goal.iterator-loop-descriptor.is_finite l.descriptor-iterator
    × (first_failing l.capacity l.descriptor-iterator.list.now l.descriptor-iterator.at l.descriptor-iterator.left ≡ first_failing l.capacity l.list 8 l.count)
