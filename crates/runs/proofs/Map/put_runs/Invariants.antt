-- `runs::Map::put_runs` meets its contract.
-- Assumes nothing.
use Prim.Native.Nat.{◌-◌}
use Rattle.runs.specs.Runs.{most_runs}
use Rattle.runs.proofs.PageLaws.{Telling}
use Rattle.runs.proofs.Map.put_runs.Given as goal

abbrev pub invariant-loop-count : goal.invariant-loop-count
invariant-loop-count l = Telling l.self.capacity l.self.owners.now l.initial.page l.initial.a l.page l.a l.count

abbrev pub decreases-loop-count : goal.decreases-loop-count
decreases-loop-count l = most_runs - l.count
