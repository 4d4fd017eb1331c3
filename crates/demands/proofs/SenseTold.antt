-- The sense of a refusal by `step`: what the store's format writes, and behind it what was lent.
-- Assumes nothing.
use mathlib.Core.Path.{◌≡◌, sym, ap, ◌∙◌}
use mathlib.Core.Bool.{Bool, true, false}
use mathlib.Core.List.{◌++◌}
use Prim.Native.Nat.{ℕ, ◌≤◌}
use native.Mathlib.Nat.{le_trans}
use borrow.Author.Tests.{ltb-false}
use lib.Dec.{T}
use lib.ListN.{length, drop}
use Rattle.fields.proofs.BytesLaws.{put_front}
use Rattle.answers.specs.declared.Refusal.{Refusal}
use Rattle.answers.specs.declared.Answer.{Answer}
use Rattle.answers.specs.declared.Answer.TheVariants.{Good, Refused, Conflict, Unusable, Short}
use Rattle.answers.specs.Order.{refuses}
use Rattle.answers.specs.Sense.{format_ok, sense_bytes, sense_data, sense_written, sense_after}
use Rattle.answers.proofs.OrderLaws.{row_fails, rows_after}
use Rattle.answers.proofs.SenseLaws.{data_most}
use Rattle.store.specs.Store.{Store, Call, seen_of}
use Rattle.store.specs.Step.{call_rows, step, answer_to}
use Rattle.store.proofs.Parts.{call_answer}
use Rattle.store.proofs.StoreLaws.{step_answer, step_seen}
use Rattle.demands.specs.SenseRead.{sense_long}
use Rattle.demands.proofs.Usable.{usable_format}
use Rattle.demands.proofs.Answering.{at_call, at_store}
use Rattle.demands.proofs.SenseRead.{data_long}

unfoldable has_sense : Answer → Bool
has_sense Good = false
has_sense (Refused x) = true
has_sense Conflict = false
has_sense Unusable = false
has_sense Short = false

-- the buffer has room for it
call_sense : (format : ℕ) (c : Call) → call_answer format c ≡ Good → sense_bytes format ≤ length c.sense
unfolding call_rows refuses
call_sense format c g = ltb-false _ _ (row_fails Unusable _ _ tt (rows_after Unusable _ _ tt (rows_after Unusable _ _ tt g)))

module _ (s : Store) (c : Call) (x : Refusal) (e : (step s c).seen.answer ≡ Refused x) where
  pub answer_is : answer_to s c ≡ Refused x
  answer_is = sym (step_answer s c) ∙ e

  sense_room : sense_bytes s.format ≤ length c.sense
  unfolding has_sense
  sense_room = call_sense s.format c (at_call has_sense tt tt s c (rw answer_is tt))

  -- the store is usable, so that its format is one
  pub format_is : T (format_ok s.format)
  unfolding has_sense
  format_is = usable_format s (at_store has_sense tt tt s c (rw answer_is tt))

  pub sense_is : (step s c).seen.sense ≡ sense_data s.format x ++ drop (length (sense_data s.format x)) c.sense
  unfolding sense_after seen_of
  sense_is =
      ap (λ v. v.sense) (step_seen s c) ∙ ap (λ (a : Answer). sense_after s.format a c.sense) answer_is
      ∙ put_front c.sense (sense_data s.format x) (le_trans (data_most s.format x) sense_room)

  pub long_read : sense_long (step s c).seen.sense ≡ sense_written s.format (Refused x)
  unfolding sense_written
  long_read = ap sense_long sense_is ∙ data_long s.format x _ format_is
