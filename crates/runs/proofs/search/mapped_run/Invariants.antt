-- `runs::search::mapped_run` meets its contract.
-- Assumes nothing.
use mathlib.Core.Path.{◌≡◌}
use mathlib.Core.Bool.{true, false}
use Prim.Native.Nat.{ℕ, ◌≤◌, ◌<◌, ◌-◌}
use lib.ListN.{get_or}
use Rattle.runs.proofs.search.mapped_run.Given as goal

abbrev pub invariant-loop-k : goal.invariant-loop-k
invariant-loop-k l = (l.k ≤ l.most) × ((j : ℕ) → j < l.k → get_or l.near j false ≡ true)

abbrev pub decreases-loop-k : goal.decreases-loop-k
decreases-loop-k l = l.most - l.k
