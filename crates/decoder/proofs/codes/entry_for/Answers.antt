-- `decoder::codes::entry_for` meets its contract. Assumes nothing.
use mathlib.Core.Path.{sym}
use borrow.Author.Rules.{rules}
use borrow.Author.Tests.{ne_eqb}
use Rattle.forms.proofs.Table.{lookup_skips, lists}
use Rattle.forms.specs.Forms.{entry_for, lookup, lines, takes}
use Rattle.decoder.proofs.codes.entry_for.Goals as goal

pub returns-in-0 : goal.returns-in-0
unfolding entry_for lookup lines takes
returns-in-0 c = simp (c.plain.ensures, c.in-0.is)

pub returns-in-18 : goal.returns-in-18
returns-in-18 c = simp (c.inquiry.ensures, c.in-18.is)

pub returns-in-37 : goal.returns-in-37
unfolding entry_for lookup lines takes
returns-in-37 c = simp (c.plain-in-37.ensures, c.in-37.is)

pub returns-in-40 : goal.returns-in-40
unfolding entry_for lookup lines takes
returns-in-40 c = simp (c.transfer.ensures, c.in-40.is)

pub returns-in-42 : goal.returns-in-42
unfolding entry_for lookup lines takes
returns-in-42 c = simp (c.transfer-in-42.ensures, c.in-42.is)

pub returns-in-66 : goal.returns-in-66
returns-in-66 c = simp (c.unmapping.ensures c.args.action, c.in-66.is)

pub returns-in-94 : goal.returns-in-94
returns-in-94 c = simp (c.reserve_in.ensures, c.in-94.is)

pub returns-in-95 : goal.returns-in-95
returns-in-95 c = simp (c.reserve_out.ensures, c.in-95.is)

pub returns-in-136 : goal.returns-in-136
unfolding entry_for lookup lines takes
returns-in-136 c = simp (c.transfer-in-136.ensures, c.in-136.is)

pub returns-in-138 : goal.returns-in-138
unfolding entry_for lookup lines takes
returns-in-138 c = simp (c.transfer-in-138.ensures, c.in-138.is)

pub returns-in-147 : goal.returns-in-147
returns-in-147 c = simp (c.writing_same.ensures c.args.action, c.in-147.is)

pub returns-in-158 : goal.returns-in-158
returns-in-158 c = simp (c.service_in.ensures, c.in-158.is)

pub returns-in-1-to-17 : goal.returns-in-1-to-17
unfolding entry_for lines lists
returns-in-1-to-17 c = sym (lookup_skips _ _ _ _ (search (rules, ne_eqb)))

pub returns-in-1-to-17-2 : goal.returns-in-1-to-17-2
unfolding entry_for lines lists
returns-in-1-to-17-2 c = sym (lookup_skips _ _ _ _ (search (rules, ne_eqb)))
