-- `first_failing`: the descriptor taken either is the first that fails, or leaves the question to those behind it.
-- Assumes nothing.
use Rattle.std.proofs.Common.{sym, ◌∙◌, arith}
use Rattle.descriptors.proofs.Takes.{told_here, told_later, told_end}
use Rattle.descriptors.proofs.first_failing.Goals as goal

pub returns-then-fails : goal.returns-then-fails
returns-then-fails c = told_here _ _ _ c.in-Some.ensures.steps _ (sym c.fails.ensures ∙ c.if-fails.true) ∙ c.loop-descriptor.invariant.2

pub loop-descriptor-preserved : goal.loop-descriptor-preserved
loop-descriptor-preserved c = (omega (arith, c.loop-descriptor.invariant.0, c.in-Some.ensures.steps.1, c.in-Some.ensures.steps.2), tt, told_later _ _ _ c.in-Some.ensures.steps _ (sym c.fails.ensures ∙ c.if-fails.false) ∙ c.loop-descriptor.invariant.2)

pub returns : goal.returns
returns c = told_end _ _ _ _ c.in-None.ensures.steps ∙ c.loop-descriptor.invariant.2
