-- What the commands that tell return, proved of `step`: they tell exactly the data, change nothing, and are never in conflict.
-- Assumes nothing.
use mathlib.Core.Path.{◌≡◌, refl, sym, ap, ap₂, ◌∙◌}
use mathlib.Core.List.{List}
use Prim.Native.Nat.{ℕ}
use native.Mathlib.Omega.{arith}
use lib.ListN.{take}
use Rattle.fields.specs.Bytes.{part}
use Rattle.fields.proofs.BytesLaws.{part_put_same}
use Rattle.answers.specs.declared.Answer.{Answer}
use Rattle.answers.specs.declared.Answer.TheVariants.{Good}
use Rattle.answers.specs.Order.{if_good_by, refuses}
use Rattle.forms.specs.declared.Tell.{Tell}
use Rattle.forms.specs.declared.Tell.TheVariants.{Ready, Inquiry, VitalData, Capacity10, Capacity16}
use Rattle.forms.specs.declared.Command.TheVariants.{Tells}
use Rattle.forms.specs.Forms.{asked_of}
use Rattle.store.specs.Store.{Store, Call, Seen, seen_of}
use Rattle.store.specs.Tell.{told}
use Rattle.store.specs.Step.{command_data, data_by, command_store, store_by, step}
use Rattle.store.proofs.StoreLaws.{step_answer, step_seen}
use Rattle.store.proofs.Returned.{returned_fits}
use Rattle.demands.specs.History.{after}
use Rattle.demands.specs.Contents.{AsksFor, IsGood}
use Rattle.demands.specs.Telling.{Telling}
use Rattle.demands.specs.Limits.{returned_by}
use Rattle.demands.proofs.Moving.{done_after, after_ways}
use Rattle.answers.specs.Answers.{number_of}
use mathlib.Core.Logic.{◌≢◌}

module _ (t : Tell) (s : Store) (c : Call) (w : AsksFor (Tells t) c) where
  told_data : data_by (asked_of c.cdb) s ≡ told t w.request s.unit
  unfolding data_by command_data
  told_data = rw (w.is, w.command)

  pub told_seen : IsGood s c → (step s c).seen ≡ seen_of s.format Good (told t w.request s.unit) c
  told_seen e = step_seen s c ∙ ap₂ (λ (x : Answer) (bs : List ℕ). seen_of s.format x bs c) (sym (step_answer s c) ∙ e) told_data

  -- the bytes returned are what is told: all of it is there, for it fits
  pub returned_told : IsGood s c → returned_by step s c ≡ told t w.request s.unit
  unfolding returned_by seen_of if_good_by part refuses
  returned_told e =
      ap (λ (x : Seen). take x.returned x.data_in) (told_seen e)
      ∙ part_put_same c.data_in 0 (told t w.request s.unit)
      (let n = ap (λ (x : Seen). x.returned) (told_seen e) in let h = returned_fits s c in omega arith)

  told_store_law : store_by (asked_of c.cdb) s c ≡ s
  unfolding store_by command_store
  told_store_law = rw (w.is, w.command)

  pub told_leaves : number_of (step s c).seen.answer ≢ 13 → after step s c ≡ s
  told_leaves n = after_ways s c (λ x. x ≡ s) (λ e. done_after s c e ∙ told_store_law) refl (λ e. absurd (n e))

pub telling : Telling step
unfolding told
telling = record {
  ready = told_seen Ready;
  inquiry = told_seen Inquiry;
  vital = told_seen VitalData;
  capacity_10 = told_seen Capacity10;
  capacity_16 = told_seen Capacity16;
  leaves = told_leaves;
}
