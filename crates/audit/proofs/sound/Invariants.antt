-- `sound`: no slot passed is beyond the capacity, no two name the same block, each is in the chain of its bucket, and the marks are those
-- of the slots passed. Assumes nothing.
use Prim.Native.Nat.{◌≤◌, ◌-◌, ◌*◌}
use Rattle.pool.specs.Bounds.{word_slots, mark_words}
use Rattle.audit.proofs.Chains.{Passed}
use Rattle.audit.proofs.Words.{Made, Agreed}
use Rattle.audit.proofs.sound.Given as goal

abbrev pub invariant-loop-i : goal.invariant-loop-i
invariant-loop-i l = Passed l.capacity l.owners l.last l.earlier l.i × Made l.owners l.word l.i l.made

abbrev pub decreases-loop-i : goal.decreases-loop-i
decreases-loop-i l = l.end - l.i

abbrev pub invariant-loop-word : goal.invariant-loop-word
invariant-loop-word l = (l.word ≤ mark_words) × Passed l.capacity l.owners l.last l.earlier (l.word * word_slots) × Agreed l.owners l.marks l.word

abbrev pub decreases-loop-word : goal.decreases-loop-word
decreases-loop-word l = mark_words - l.word
