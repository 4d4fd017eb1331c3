-- `give_slots`: what is missing is what is unmapped, and what the marks leave is what is free.
-- Assumes nothing.
use Rattle.std.proofs.Common.{length, ap, ◌∙◌, arith}
use Rattle.pool.specs.Marks.{marked}
use Rattle.pool.proofs.Marking.{length_marks_of, marked_free}
use Rattle.map.proofs.Indexing.{missing_is}
use Rattle.map.proofs.Trying.{gave_all, gave_nothing, gave_none}
use Rattle.map.proofs.write.give_slots.Goals as goal

pub returns-then-missing-eq0 : goal.returns-then-missing-eq0
returns-then-missing-eq0 c =
    let m = missing_is c.args.owners.now c.args.index.now c.args.transfer.range.first.0 c.args.transfer.range.count _ c.requires.2 c.missing_in-missing.ensures in
    gave_nothing c.args.owners.now c.args.transfer.range.first.0 c.args.transfer.range.count _ _ (omega arith) c.requires.1 c.requires.2

pub of-words-requires : goal.of-words-requires
of-words-requires c = ap length c.requires.1 ∙ length_marks_of _

pub overflow_sub-owners : goal.overflow_sub-owners
overflow_sub-owners c = omega (arith, marked_free c.args.owners.now, c.marked.ensures ∙ ap marked (c.of-words.ensures ∙ c.requires.1))

pub returns-then-missing-owners : goal.returns-then-missing-owners
returns-then-missing-owners c =
    let m = missing_is c.args.owners.now c.args.index.now c.args.transfer.range.first.0 c.args.transfer.range.count _ c.requires.2 c.missing_in-missing.ensures in
    gave_none c.args.owners.now c.args.transfer.range.first.0 c.args.transfer.range.count _ _ (omega (arith, marked_free c.args.owners.now, c.marked.ensures ∙ ap marked (c.of-words.ensures ∙ c.requires.1))) c.requires.1

pub assign_blocks-requires : goal.assign_blocks-requires
assign_blocks-requires c =
    let m = missing_is c.args.owners.now c.args.index.now c.args.transfer.range.first.0 c.args.transfer.range.count _ c.requires.2 c.missing_in-missing.ensures in
    (c.requires.0, c.requires.1, c.requires.2, omega (arith, c.if-missing-owners.false, marked_free c.args.owners.now, c.marked.ensures ∙ ap marked (c.of-words.ensures ∙ c.requires.1)))

pub returns : goal.returns
returns c =
    let m = missing_is c.args.owners.now c.args.index.now c.args.transfer.range.first.0 c.args.transfer.range.count _ c.requires.2 c.missing_in-missing.ensures in
    gave_all c.args.owners.now c.args.transfer.range.first.0 c.args.transfer.range.count _ _ _ (omega (arith, c.if-missing-owners.false, marked_free c.args.owners.now, c.marked.ensures ∙ ap marked (c.of-words.ensures ∙ c.requires.1))) c.assign_blocks.ensures.0 c.assign_blocks.ensures.1 c.assign_blocks.ensures.2
