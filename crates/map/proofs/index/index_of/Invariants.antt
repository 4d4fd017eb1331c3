-- `index_of`: the index holds the places among the slots from i on.
-- Assumes nothing.
use Rattle.std.proofs.Common.{◌≡◌, ◌+◌, ◌≤◌, map, length, take, drop}
use Rattle.pool.specs.Bounds.{most_transfer}
use Rattle.map.specs.Index.{places}
use Rattle.map.proofs.index.index_of.Given as goal

abbrev pub invariant-loop-i : goal.invariant-loop-i
invariant-loop-i l = (l.i ≤ length l.owners) × (length l.index ≡ most_transfer) × (take l.fn.transfer.range.count l.index ≡ map (λ p. l.i + p) (places (drop l.i l.owners) l.first l.fn.transfer.range.count))
