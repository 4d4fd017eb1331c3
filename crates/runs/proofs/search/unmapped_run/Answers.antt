-- `runs::search::unmapped_run` meets its contract.
-- Assumes nothing.
use mathlib.Core.Path.{◌≡◌}
use Prim.Native.Nat.{◌*◌, ◌/◌}
use native.Mathlib.Omega.{arith}
use lib.ListN.{length}
use borrow.Author.Rules.{rules}
use Rattle.runs.proofs.RunLaws.{near_start, near_next, near_two, near_none, near_run}
use Rattle.runs.proofs.search.unmapped_run.Goals as goal

pub loop-t-init : goal.loop-t-init
loop-t-init c = (search rules, search rules, search rules, near_start _ _ _)

pub returns-then-least-eq0 : goal.returns-then-least-eq0
returns-then-least-eq0 c =
    let t = c.loop-t-test.true in
    let n = near_two c.args.owners.now _ _ c.loop-t.t _ _ _ (search rules) (omega (arith, c.requires)) (omega (arith, c.requires)) c.loop-t.invariant.3 c.nearer-least.ensures c.nearer-least-in-loop-t.ensures in
    near_none c.args.owners.now _ _ _ _ n c.if-least-eq0.true

pub loop-t-preserved : goal.loop-t-preserved
loop-t-preserved c =
    let t = c.loop-t-test.true in
    let n = near_two c.args.owners.now _ _ c.loop-t.t _ _ _ (search rules) (omega (arith, c.requires)) (omega (arith, c.requires)) c.loop-t.invariant.3 c.nearer-least.ensures c.nearer-least-in-loop-t.ensures in
    (search rules, c.loop-t.invariant.1, c.loop-t.invariant.2, n)

pub returns-then-turns-owners : goal.returns-then-turns-owners
returns-then-turns-owners c =
    let o = c.args.owners.now in
    let t = c.loop-t-test.false in
    let q = c.loop-t.invariant in
    let e : 2 * c.loop-t.t ≡ 2 * (length o / 2) = search rules in
    let n = rw e at c.loop-t.invariant.3 in
    near_run o _ _ _ _ (search rules)
    (near_next o _ _ (2 * (length o / 2)) _ _ (search rules) (omega (arith, c.requires)) (omega (arith, c.requires)) n c.nearer.ensures)

pub returns : goal.returns
returns c =
    near_run c.args.owners.now _ _ (2 * c.loop-t.t) _ (search rules) c.loop-t.invariant.3
