-- `read_slot`: the bytes of a slot, or zeros.
-- Assumes nothing.
use Rattle.std.proofs.Common.{◌*◌, sym, ap, ◌∙◌, length, rules}
use Rattle.fields.specs.Bytes.{zeros}
use Rattle.fields.proofs.BytesLaws.{zeros_replicate}
use Rattle.pool.specs.Bounds.{block_bytes}
use Rattle.map.proofs.Blocks.{part_is, bytes_at, bytes_none}
use Rattle.map.proofs.read.read_slot.Goals as goal

pub returns-then-slot-slots : goal.returns-then-slot-slots
returns-then-slot-slots c =
    let a = c.args in
    c.copy.ensures ∙ part_is (block_bytes * a.slot.0) block_bytes a.medium.now ∙ sym (bytes_at _ _ _ c.if-slot-slots.true)

pub returns-else-slot-slots : goal.returns-else-slot-slots
returns-else-slot-slots c =
    c.fill.ensures.after (λ y e. search rules) ∙ sym (zeros_replicate (length c.args.out.now)) ∙ ap zeros c.requires.2 ∙ sym (bytes_none _ _ _ c.if-slot-slots.false)
