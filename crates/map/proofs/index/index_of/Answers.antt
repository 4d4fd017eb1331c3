-- `index_of`: the index holds the places among the slots from i on.
-- Assumes nothing.
use Rattle.std.proofs.Common.{◌≡◌, ◌-◌, length, get_or, arith, length-set, rules}
use lib.ListN.{length-replicate}
use Rattle.pool.specs.Bounds.{most_transfer}
use Rattle.map.proofs.Indexing.{index_start, index_out, index_in, index_end}
use Rattle.map.proofs.index.index_of.Goals as goal

pub loop-i-init : goal.loop-i-init
loop-i-init c =
    let xs = c.args.owners.now in
    (search rules, length-replicate most_transfer (length xs), index_start xs c.args.transfer.range.first.0 c.args.transfer.range.count most_transfer c.args.transfer.few)

pub loop-i-preserved-then-owner-first : goal.loop-i-preserved-then-owner-first
loop-i-preserved-then-owner-first c =
    (search rules, c.loop-i.invariant.1, index_out c.args.owners.now c.loop-i.index c.loop-i.i c.args.transfer.range.first.0 c.args.transfer.range.count (omega arith) (omega arith) c.loop-i.invariant.2 (λ h. absurd (omega arith)))

pub loop-i-preserved-then-owner-end : goal.loop-i-preserved-then-owner-end
loop-i-preserved-then-owner-end c =
    let x = get_or c.args.owners.now (c.loop-i.i - 1) 0 in
    (search rules, simp length-set c.loop-i.invariant.1, index_in c.args.owners.now c.loop-i.index c.loop-i.i c.args.transfer.range.first.0 c.args.transfer.range.count (omega arith) (omega arith) c.loop-i.invariant.2 (x - c.args.transfer.range.first.0 - 1) (omega arith) (omega arith))

pub loop-i-preserved : goal.loop-i-preserved
loop-i-preserved c =
    (search rules, c.loop-i.invariant.1, index_out c.args.owners.now c.loop-i.index c.loop-i.i c.args.transfer.range.first.0 c.args.transfer.range.count (omega arith) (omega arith) c.loop-i.invariant.2 (λ h. omega arith))

pub returns : goal.returns
returns c =
    let e : c.loop-i.i ≡ 0 = omega arith in
    index_end _ _ _ _ c.loop-i.invariant.1 (rw e at c.loop-i.invariant.2)
