-- `runs::search::unmapped_run` meets its contract.
-- Assumes nothing.
use Prim.Native.Nat.{◌+◌, ◌*◌, ◌≤◌, ◌-◌}
use lib.ListN.{length}
use Rattle.runs.proofs.RunLaws.{Nearest}
use Rattle.runs.proofs.search.unmapped_run.Given as goal

abbrev pub invariant-loop-t : goal.invariant-loop-t
invariant-loop-t l = (l.t ≤ l.turns) × (2 * l.turns ≤ length l.owners) × (length l.owners ≤ 2 * l.turns + 1) × Nearest l.owners l.first l.most (2 * l.t) l.least

abbrev pub decreases-loop-t : goal.decreases-loop-t
decreases-loop-t l = l.turns - l.t
