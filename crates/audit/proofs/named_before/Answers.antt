-- `named_before`: no slot from the link on names the block, and the link is into its chain.
-- Assumes nothing.
use mathlib.Core.Path.{sym}
use Rattle.audit.proofs.Chains.{walk_found, walk_end}
use Rattle.audit.proofs.named_before.Goals as goal

pub returns-then-owners-at : goal.returns-then-owners-at
returns-then-owners-at c = sym (walk_found c.requires c.loop-at.invariant c.loop-at-test.true c.if-owners-at.true)

pub returns : goal.returns
returns c = sym (walk_end c.requires c.loop-at.invariant c.loop-at-test.false)
