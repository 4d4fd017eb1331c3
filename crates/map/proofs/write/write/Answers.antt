-- `write`: a refusal leaves the pool, and a write is done by the index that the slots completed.
-- Assumes nothing.
use Rattle.std.proofs.Common.{arith}
use Rattle.pool.specs.Pool.{pool}
use Rattle.map.proofs.Trying.{gave_size, gave_below, try_full, try_done}
use Rattle.map.proofs.write.write.Goals as goal

pub returns-then-not-give_slots : goal.returns-then-not-give_slots
returns-then-not-give_slots c source x = try_full (pool c.args.owners.now c.args.marks.now c.args.medium.now) c.args.transfer.range.first.0 c.args.transfer.range.count source _ _ _ _ c.give_slots.ensures c.requires.1 c.if-not-give_slots.true

pub put_blocks-requires : goal.put_blocks-requires
put_blocks-requires c =
    let g = c.give_slots.ensures in
    let t = c.if-not-give_slots.false in
    let s = gave_size c.args.owners.now c.args.transfer.range.first.0 c.args.transfer.range.count _ _ _ _ g t in
    let b = gave_below c.args.owners.now c.args.transfer.range.first.0 c.args.transfer.range.count _ _ _ _ g t in
    (c.args.transfer.few, omega (arith, c.args.transfer.few, s), omega (arith, c.requires.0, c.requires.2), λ k h. omega (arith, b k h, c.requires.2), c.requires.3, c.requires.4)

pub returns : goal.returns
returns c source x = try_done (pool c.args.owners.now c.args.marks.now c.args.medium.now) c.args.transfer.range.first.0 c.args.transfer.range.count source _ _ _ _ c.give_slots.ensures _ c.if-not-give_slots.false (c.put_blocks.ensures source x)
