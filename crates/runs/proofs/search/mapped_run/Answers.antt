-- `runs::search::mapped_run` meets its contract.
-- Assumes nothing.
use mathlib.Core.Path.{◌≡◌}
use native.Mathlib.Omega.{arith}
use borrow.Author.Rules.{rules}
use Rattle.runs.proofs.RunLaws.{marks_run, true_more}
use Rattle.runs.proofs.search.mapped_run.Goals as goal

pub loop-k-init : goal.loop-k-init
loop-k-init c = (search rules, λ j h. absurd (omega arith))

pub returns-then-not-near-k : goal.returns-then-not-near-k
returns-then-not-near-k c =
    marks_run _ c.mapped_near-near.result _ _ _ c.mapped_near-near.ensures c.requires.0 c.loop-k.invariant.0 c.loop-k.invariant.1 (λ h. c.if-not-near-k.true)

pub loop-k-preserved : goal.loop-k-preserved
loop-k-preserved c =
    (search rules, true_more c.mapped_near-near.result _ c.loop-k.invariant.1 (c.if-not-near-k.false))

pub returns : goal.returns
returns c =
    let e : c.loop-k.k ≡ c.args.most = omega arith in
    marks_run _ c.mapped_near-near.result _ _ _ c.mapped_near-near.ensures c.requires.0 (search rules) (rw e at c.loop-k.invariant.1) (λ h. absurd (omega arith))
