-- `commands::stages::asked` meets its contract. Assumes nothing.
use mathlib.Core.Path.{sym, ◌∙◌}
use Rattle.std.proofs.lemmas.Result.{err_from_is_err_and}
use Rattle.fields.proofs.Tests.{true→T, false→T}
use Rattle.conflict.proofs.TableLaws.{none_stopped}
use Rattle.commands.proofs.StageLaws.{long_within, is_due, refusal_is, asked_unlisted, asked_length, asked_attention, asked_wrong, asked_conflict, asked_passes}
use Rattle.commands.proofs.stages.asked.Goals as goal
use Rattle.commands.proofs.stages.asked.Goals.{else-unit-ne-NO_TYPE-via-then-unit-ne-NO_TYPE+else-conflicts, else-unit-ne-NO_TYPE-via-else-unit-ne-NO_TYPE}

pub returns-in_default : goal.returns-in_default
returns-in_default c = rw c.not_listed.ensures (asked_unlisted _ _ _ _ (sym c.in_default.ensures))

pub returns-then-cdb-code : goal.returns-then-cdb-code
returns-then-cdb-code c = asked_length _ _ _ _ _ (sym c.in-Some.ensures) c.if-cdb-code.true

pub returns-then-is_due : goal.returns-then-is_due
returns-then-is_due c = rw (refusal_is _ _ _ c.waiting-waiting.ensures _ c.refusal_of.ensures) (asked_attention _ _ _ _ _ (sym c.in-Some.ensures) c.if-cdb-code.false (true→T _ (sym (is_due _ _ _ c.waiting-waiting.ensures _ _ c.is_due.ensures) ∙ c.if-is_due.true)))

pub request-requires : goal.request-requires
request-requires c = long_within _ _ (sym c.in-Some.ensures)

pub returns-in_err-request : goal.returns-in_err-request
returns-in_err-request c = let p = err_from_is_err_and c.from_residual.result c.from_residual.ensures.1 in rw (p.1, p.2) (asked_wrong _ _ _ _ _ (sym c.in-Some.ensures) c.if-cdb-code.false (false→T _ (sym (is_due _ _ _ c.waiting-waiting.ensures _ _ c.is_due.ensures) ∙ c.if-is_due.false)) _ c.request.ensures _ c.in_err-request.was)

pub returns-then-conflicts : goal.returns-then-conflicts
returns-then-conflicts c = asked_conflict _ _ _ _ _ (sym c.in-Some.ensures) c.if-cdb-code.false (false→T _ (sym (is_due _ _ _ c.waiting-waiting.ensures _ _ c.is_due.ensures) ∙ c.if-is_due.false)) _ c.request.ensures _ c.in_ok-request.was (sym c.conflicts.ensures ∙ c.if-conflicts.true)

pub returns : goal.returns
returns c =
    asked_passes _ _ _ _ _ (sym c.in-Some.ensures) c.if-cdb-code.false (false→T _ (sym (is_due _ _ _ c.waiting-waiting.ensures _ _ c.is_due.ensures) ∙ c.if-is_due.false)) _ c.request.ensures _ c.in_ok-request.was
    (elim c.else-unit-ne-NO_TYPE.branch [
      | else-unit-ne-NO_TYPE-via-then-unit-ne-NO_TYPE+else-conflicts w ↦ sym w.conflicts.ensures ∙ w.if-conflicts.false
      | else-unit-ne-NO_TYPE-via-else-unit-ne-NO_TYPE w ↦ sym (none_stopped _ _ _ w.if-unit-ne-NO_TYPE.false)
    ])
