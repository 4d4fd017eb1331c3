-- `unmap_all`: none of the descriptors left fails, and unmapping those from the owners as they are is unmapping all from the owners as they were.
-- Assumes nothing.
use Rattle.std.proofs.Common.{◌≡◌, false, length}
use Rattle.pool.specs.Marks.{marks_of}
use Rattle.descriptors.specs.Descriptors.{some_fails, unmap_all}
use Rattle.descriptors.proofs.unmap_all.Given as goal

abbrev pub invariant-loop-descriptor : goal.invariant-loop-descriptor
invariant-loop-descriptor l = record {
  can_next : goal.iterator-loop-descriptor.can_next l.descriptor-iterator;
  is_finite : goal.iterator-loop-descriptor.is_finite l.descriptor-iterator;
  passes : some_fails l.capacity l.descriptor-iterator.list.now l.descriptor-iterator.at l.descriptor-iterator.left ≡ false;
  as_many : length l.owners ≡ length l.initial.owners;
  marked : l.marks ≡ marks_of l.owners;
  same : unmap_all l.owners l.descriptor-iterator.list.now l.descriptor-iterator.at l.descriptor-iterator.left ≡ unmap_all l.initial.owners l.list 8 l.count;
}
