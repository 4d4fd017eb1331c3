-- `missing_in`: what is counted is what is missing.
-- Assumes nothing.
use Rattle.std.proofs.Common.{ℕ, eqb, take, take_all, sym, ap, ◌∙◌}
use Rattle.std.specs.List.{count_by}
use Rattle.map.proofs.Indexing.{missing_counts}
use Rattle.map.proofs.index.missing_in.Goals as goal

pub returns : goal.returns
returns c =
    let slots = c.args.slots in
    let l = take c.args.count c.args.index.now in
    c.loop-slot.invariant ∙ ap (count_by (λ (x : ℕ). eqb x slots)) (take_all c.loop-slot.slot-index l c.loop-slot-test.false) ∙ sym (missing_counts slots l)
