-- `runs::search::mapped_near` meets its contract.
-- Assumes nothing.
use native.Mathlib.Omega.{arith}
use borrow.Author.Rules.{rules}
use Rattle.runs.proofs.RunLaws.{mark_start, mark_none, mark_one, mark_done, wraps}
use Rattle.runs.proofs.search.mapped_near.Goals as goal

pub loop-owner-init : goal.loop-owner-init
loop-owner-init c = mark_start _ _

pub loop-owner-preserved : goal.loop-owner-preserved
loop-owner-preserved c =
    let o = c.args.owners.now in
    elim c.if-far.branch [
      | goal.then-far w ↦
          rw w.near-is (mark_one o _ _ c.loop-owner.owner-index _ (search rules) c.loop-owner.invariant c.above-far.ensures.0 (wraps _ _ _ (omega (arith, c.requires)) c.above-far.ensures.1) w.if-far.true)
      | goal.else-far w ↦
          rw w.near-is (mark_none o _ _ c.loop-owner.owner-index _ (search rules) c.loop-owner.invariant c.above-far.ensures.0 (wraps _ _ _ (omega (arith, c.requires)) c.above-far.ensures.1) w.if-far.false)
    ]

pub returns : goal.returns
returns c = mark_done _ _ _ _ (search rules) c.loop-owner.invariant
