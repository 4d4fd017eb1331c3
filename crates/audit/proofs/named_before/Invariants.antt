-- `named_before`: no slot from the link on names the block, and the link is into its chain.
-- Assumes nothing.
use Rattle.audit.proofs.Chains.{Walked}
use Rattle.audit.proofs.named_before.Given as goal

abbrev pub invariant-loop-at : goal.invariant-loop-at
invariant-loop-at l = Walked l.owners l.x l.fn.slot.0 l.at

abbrev pub decreases-loop-at : goal.decreases-loop-at
decreases-loop-at l = l.at
