-- `runs::Map::put_runs` meets its contract.
-- Assumes nothing.
use mathlib.Core.Path.{◌≡◌, sym, ap, ◌∙◌}
use Prim.Native.Nat.{◌<◌}
use native.Mathlib.Omega.{arith}
use Rattle.runs.specs.Runs.{most_runs, Run, run_at}
use Rattle.runs.proofs.RunLaws.{run_most, run_left}
use Rattle.runs.proofs.PageLaws.{tell_start, tell_turn, tell_end, tell_full}
use Rattle.runs.proofs.Map.put_runs.Goals as goal

pub loop-count-init : goal.loop-count-init
loop-count-init c =
    tell_start _ _ _ _ c.requires.0 c.requires.1

pub shape_of-page-then-a-self : goal.shape_of-page-then-a-self
shape_of-page-then-a-self c = c.loop-count.invariant.long ∙ sym c.requires.1

pub returns-then-a-self : goal.returns-then-a-self
returns-then-a-self c = tell_end _ _ _ _ _ _ _ c.loop-count.invariant c.if-a-self.true

pub run_bytes-requires : goal.run_bytes-requires
run_bytes-requires c =
    let a = c.args in
    let e : c.next_run-found.result.count ≡ (run_at a.self.capacity a.self.owners.now c.loop-count.a).count = ap (λ (q : Run). q.count) c.next_run-found.ensures in
    omega (arith, run_most a.self.capacity a.self.owners.now c.loop-count.a)

pub overflow_add-a : goal.overflow_add-a
overflow_add-a c =
    let a = c.args in
    let e : c.next_run-found.result.count ≡ (run_at a.self.capacity a.self.owners.now c.loop-count.a).count = ap (λ (q : Run). q.count) c.next_run-found.ensures in
    omega (arith, run_left a.self.capacity a.self.owners.now c.loop-count.a, c.loop-count.invariant.reached)

pub loop-count-preserved : goal.loop-count-preserved
loop-count-preserved c =
    let h : c.loop-count.count < most_runs = omega (arith, c.loop-count-test.true) in
    tell_turn _ _ _ _ _ _ _ c.loop-count.invariant h c.if-a-self.false _ _ c.next_run-found.ensures (c.copy_from_slice.ensures.after ∙ c.run_bytes.ensures)

pub shape_of-page : goal.shape_of-page
shape_of-page c = c.loop-count.invariant.long ∙ sym c.requires.1

pub returns : goal.returns
returns c = tell_full _ _ _ _ _ _ _ c.loop-count.invariant c.loop-count-test.false
