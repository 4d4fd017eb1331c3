-- `conflict::column_of` meets its contract.
-- Assumes nothing.
use mathlib.Core.Path.{sym, ◌∙◌}
use borrow.Author.Rules.{rules}
use Rattle.store.specs.Conflict.{column_under, column_of}
use Rattle.conflict.proofs.ColumnLaws.{not_holder, write_exclusive, exclusive_access, no_type}
use Rattle.conflict.proofs.column_of.Goals as goal

pub returns-then-holds : goal.returns-then-holds
unfolding column_of
returns-then-holds c = simp (sym c.holds.ensures ∙ c.if-holds.true)

pub returns-in-1 : goal.returns-in-1
unfolding column_under
returns-in-1 c = not_holder _ _ _ (sym c.holds.ensures ∙ c.if-holds.false) (rw c.in-1.is)

pub returns-in-3 : goal.returns-in-3
unfolding column_under
returns-in-3 c = not_holder _ _ _ (sym c.holds.ensures ∙ c.if-holds.false) (rw c.in-3.is)

pub returns-in-5 : goal.returns-in-5
returns-in-5 c =
    not_holder _ _ _ (sym c.holds.ensures ∙ c.if-holds.false)
    (c.registered_or.ensures ∙ write_exclusive _ _ c.in-5.is)

pub returns-in-6 : goal.returns-in-6
returns-in-6 c =
    not_holder _ _ _ (sym c.holds.ensures ∙ c.if-holds.false)
    (c.registered_or-in-6.ensures ∙ exclusive_access _ _ c.in-6.is)

pub returns-in_default : goal.returns-in_default
returns-in_default c =
    not_holder _ _ _ (sym c.holds.ensures ∙ c.if-holds.false) (search (rules, no_type))
