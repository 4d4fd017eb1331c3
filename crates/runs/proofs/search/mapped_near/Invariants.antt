-- `runs::search::mapped_near` meets its contract.
-- Assumes nothing.
use Rattle.runs.proofs.RunLaws.{Marked}
use Rattle.runs.proofs.search.mapped_near.Given as goal

abbrev pub invariant-loop-owner : goal.invariant-loop-owner
invariant-loop-owner l = Marked l.owners l.first l.near l.owner-index
