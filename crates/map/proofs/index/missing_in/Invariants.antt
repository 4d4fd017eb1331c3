-- `missing_in`: what is missing among the addresses passed.
-- Assumes nothing.
use Rattle.std.proofs.Common.{◌≡◌, eqb, take}
use Rattle.std.specs.List.{count_by}
use Rattle.map.proofs.index.missing_in.Given as goal

abbrev pub invariant-loop-slot : goal.invariant-loop-slot
invariant-loop-slot l = l.n ≡ count_by (λ x. eqb x l.slots) (take l.slot-index l.slot-items)
