-- `first_clash`: no pair passed clashes; the outer loop is left at the first that does.
-- Assumes nothing.
use mathlib.Core.Path.{◌≡◌}
use Prim.Native.Nat.{◌≤◌, ◌-◌, ◌+◌}
use lib.ListN.{drop}
use Rattle.pool.specs.Valid.{again_from, clash_from}
use Rattle.std.specs.Prelude.{Ok}
use Rattle.audit.proofs.first_clash.Given as goal

abbrev pub invariant-loop-high : goal.invariant-loop-high
invariant-loop-high l = (l.high ≤ l.n) × (l.found ≡ Ok tt) × (clash_from 0 l.owners ≡ again_from l.low l.x l.high (drop l.high l.owners) (clash_from (l.low + 1) (drop (l.low + 1) l.owners)))

abbrev pub decreases-loop-high : goal.decreases-loop-high
decreases-loop-high l = l.n - l.high

abbrev pub invariant-pairs : goal.invariant-pairs
invariant-pairs l = (l.low ≤ l.n) × (l.found ≡ Ok tt) × (clash_from 0 l.owners ≡ clash_from l.low (drop l.low l.owners))

abbrev pub decreases-pairs : goal.decreases-pairs
decreases-pairs l = l.n - l.low
