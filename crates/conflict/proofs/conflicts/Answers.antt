-- `conflict::conflicts` meets its contract.
-- Assumes nothing.
use mathlib.Core.Path.{◌≡◌, sym, ◌∙◌, subst}
use mathlib.Core.Bool.{Bool, false}
use mathlib.Core.List.{List}
use borrow.Author.Rules.{rules}
use Rattle.store.specs.Conflict.{says, conflict}
use Rattle.store.proofs.ConflictLaws.{column_listed}
use Rattle.conflict.specs.Rows.{somewhere}
use Rattle.conflict.proofs.TableLaws.{nobody_stopped}
use Rattle.conflict.proofs.conflicts.Goals as goal

pub returns-then-not-stops_anybody : goal.returns-then-not-stops_anybody
returns-then-not-stops_anybody c =
    nobody_stopped _ _ _
    (subst (λ (cells : List Bool). somewhere cells ≡ false) c.row_of-row.ensures
    (sym c.stops_anybody.ensures ∙ c.if-not-stops_anybody.true))

pub bounds-row-at : goal.bounds-row-at
bounds-row-at c = search (rules, column_listed _ _ _ (sym c.in-Some.ensures))

pub returns-in-None : goal.returns-in-None
unfolding conflict says
returns-in-None c = rw (sym c.in-None.ensures)

pub returns-in-Some : goal.returns-in-Some
unfolding conflict says
returns-in-Some c = rw (c.row_of-row.ensures, sym c.in-Some.ensures)
