-- A reservation-out call that is GOOD: what it leaves of the rights, and what its GOOD says of them and of the call.
-- Assumes nothing.
use mathlib.Core.Path.{◌≡◌, sym, ap, ◌∙◌}
use mathlib.Core.Bool.{not}
use lib.Dec.{T}
use Rattle.answers.specs.declared.Answer.TheVariants.{Good, Conflict, Short}
use Rattle.answers.specs.Answers.{list_length}
use Rattle.answers.specs.Order.{first, refuses}
use Rattle.answers.proofs.OrderLaws.{rows_after}
use Rattle.rights.specs.declared.Action.{Action}
use Rattle.rights.specs.declared.Parameters.{Parameters}
use Rattle.rights.specs.Places.{registered}
use Rattle.rights.specs.Rights.{is_type, rights_ok}
use Rattle.rights.specs.Actions.{key_wrong, action_rows, decision_rows, acted}
use Rattle.rights.proofs.DecisionLaws.{later_good}
use Rattle.rights.proofs.Keeping.{makes, maker_registered, key_right}
use Rattle.forms.specs.declared.Command.TheVariants.{Alters}
use Rattle.forms.specs.Forms.{asked_of}
use Rattle.forms.proofs.Fields.{is_maker, asked_typed}
use Rattle.rights.specs.Notices.{notified}
use Rattle.store.specs.Store.{Store, Call, with_unit, enacted}
use Rattle.store.specs.Alter.{parameters_of, alter_rows}
use Rattle.store.specs.Step.{command_rows, own_rows, command_store, store_by, step}
use Rattle.store.proofs.Parts.{good_cleared, good_own}
use Rattle.store.proofs.StoreLaws.{step_answer}
use Rattle.demands.specs.History.{after}
use Rattle.demands.specs.Contents.{AsksFor, IsGood}
use Rattle.demands.proofs.Usable.{usable_unit, unit_rights}
use Rattle.demands.proofs.Moving.{good_usable, done_after}

-- what it leaves where nothing refuses it
pub altered_store : (a : Action) (s : Store) (c : Call) (w : AsksFor (Alters a) c)
    → store_by (asked_of c.cdb) s c ≡ with_unit s (enacted a c.nexus s.unit (acted a s.unit.rights c.nexus (parameters_of w.request c.data_out)))
unfolding store_by command_store
altered_store a s c w = rw (w.is, w.command)

-- its own tests
pub altered_rows : (a : Action) (s : Store) (c : Call) (w : AsksFor (Alters a) c)
    → own_rows (asked_of c.cdb) s c ≡ alter_rows a w.request s.unit.rights c.nexus c.data_out
unfolding own_rows command_rows
altered_rows a s c w = rw (w.is, w.command)

module _ (a : Action) (s : Store) (c : Call) (w : AsksFor (Alters a) c) (e : IsGood s c) where
  abbrev parameters : Parameters
  parameters = parameters_of w.request c.data_out

  pub altered : (after step s c).unit.rights ≡ acted a s.unit.rights c.nexus parameters
  unfolding enacted
  altered = ap (λ (t : Store). t.unit.rights) (done_after s c e ∙ altered_store a s c w)

  -- and what waits for each
  pub altered_attentions : (after step s c).unit.attentions
      ≡ notified a s.unit.rights (acted a s.unit.rights c.nexus parameters) c.nexus s.unit.attentions
  unfolding enacted
  altered_attentions = ap (λ (t : Store). t.unit.attentions) (done_after s c e ∙ altered_store a s c w)

  pub altered_decision : first (decision_rows a s.unit.rights c.nexus parameters) ≡ Good
  unfolding alter_rows refuses
  altered_decision =
      rows_after Short _ _ tt (rows_after list_length _ _ tt (ap first (sym (altered_rows a s c w)) ∙ good_own s c (sym (step_answer s c) ∙ e)))

  -- its own rows
  pub altered_own : first (action_rows a s.unit.rights c.nexus parameters) ≡ Good
  unfolding refuses
  altered_own = rows_after Conflict _ _ tt (later_good a s.unit.rights c.nexus parameters altered_decision)

  pub altered_key : T (not (key_wrong a s.unit.rights c.nexus parameters))
  altered_key = key_right a s.unit.rights c.nexus parameters altered_decision

  -- one who makes a reservation is registered
  pub altered_sender : T (makes a) → T (registered c.nexus s.unit.rights.places)
  altered_sender m = maker_registered a s.unit.rights c.nexus parameters altered_key m

  pub altered_ok : T (rights_ok s.unit.rights)
  altered_ok = unit_rights s.unit (usable_unit s (good_usable s c e))

  -- "a type outside the six: 2"
  pub altered_type : T (makes a) → T (is_type w.request.kind)
  unfolding is_maker
  altered_type m = asked_typed c.cdb w.request w.is (good_cleared s c (sym (step_answer s c) ∙ e)).fields (rw w.command m)
