use mathlib.Core.Path.{sym, ◌∙◌}
use mathlib.Core.List.{[]}
use Rattle.commands.proofs.SenseLaws.{senseless_but_refused, refused_sense}
use Rattle.commands.proofs.StepLaws.{step_unready, step_wrong, asks_fits, step_served}
use Rattle.readiness.proofs.ReadyLaws.{ready_bounded, ready_sense}
use Rattle.commands.proofs.execute.Goals as goal

pub returns-then-not-ready : goal.returns-then-not-ready
returns-then-not-ready c = rw c.answered.ensures (step_unready _ _ _ _ _ _ (sym c.ready.ensures ∙ c.if-not-ready.true))

pub put_sense-requires : goal.put_sense-requires
put_sense-requires c = ready_sense _ _ _ _ _ _ _ _ (sym c.ready.ensures ∙ c.if-not-ready.false)

pub act-outcome-requires : goal.act-outcome-requires
act-outcome-requires c = (ready_bounded _ _ _ _ _ _ _ _ (sym c.ready.ensures ∙ c.if-not-ready.false), asks_fits _ _ _ [] [] _ (sym c.ready.ensures ∙ c.if-not-ready.false) _ (sym c.in-Ok.ensures))

pub returns-in_default : goal.returns-in_default
returns-in_default c = step_served _ _ _ _ _ _ (sym c.ready.ensures ∙ c.if-not-ready.false) _ (sym c.in-Ok.ensures) _ _ _ _ _ _ (c.act-outcome.ensures _) (senseless_but_refused _ _ _ c.in_default.not-Refused)

pub put_refusal-requires : goal.put_refusal-requires
put_refusal-requires c = ready_sense _ _ _ _ _ _ _ _ (sym c.ready.ensures ∙ c.if-not-ready.false)

pub returns-in-Err : goal.returns-in-Err
returns-in-Err c = rw (c.answered-in-Err.ensures, c.refused_unit.ensures) (step_wrong _ _ _ _ _ _ (sym c.ready.ensures ∙ c.if-not-ready.false) _ _ (sym c.in-Err.ensures) c.put_sense.ensures)

pub returns-in-Refused : goal.returns-in-Refused
returns-in-Refused c = step_served _ _ _ _ _ _ (sym c.ready.ensures ∙ c.if-not-ready.false) _ (sym c.in-Ok.ensures) _ _ _ _ _ _ (c.act-outcome.ensures _) (refused_sense _ _ _ _ c.in-Refused.is c.put_refusal.ensures)
