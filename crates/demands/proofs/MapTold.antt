-- GET LBA STATUS, proved of `step`: what it tells is the map, it changes nothing, and it is stopped where READ is.
-- Assumes nothing.
use mathlib.Core.Path.{◌≡◌, refl, sym, ◌∙◌, subst}
use mathlib.Core.Logic.{◌↔◌, ◌≢◌}
use mathlib.Core.Bool.{Bool}
use Prim.Native.Nat.{ℕ, ◌≤◌}
use lib.Dec.{T, leb, leb→le}
use borrow.Author.Tests.{le-leb}
use Rattle.fields.proofs.Tests.{and_r}
use Rattle.answers.specs.declared.Answer.TheVariants.{Good, Conflict}
use Rattle.answers.specs.Answers.{out_of_range, number_of}
use Rattle.answers.proofs.OrderLaws.{row_stop}
use Rattle.pool.specs.Bounds.{most_blocks}
use Rattle.pool.specs.Valid.{capacity_ok}
use Rattle.rights.specs.declared.Rights.{Rights}
use Rattle.runs.specs.Page.{status_data}
use Rattle.runs.proofs.Truth.{tells_map}
use Rattle.forms.specs.declared.Move.TheVariants.{Read, Status}
use Rattle.forms.specs.declared.Command.TheVariants.{Moves}
use Rattle.forms.specs.Forms.{allocation_in}
use Rattle.store.specs.Store.{Store, Call, usable}
use Rattle.store.specs.Conflict.{conflict, shut_out, stops, ruled}
use Rattle.store.specs.Move.{status_told, status_rows, move_rows, moved, fetched}
use Rattle.store.specs.Step.{step}
use Rattle.store.proofs.ConflictLaws.{table_rule}
use Rattle.store.proofs.MoveLaws.{status_passes}
use Rattle.demands.specs.History.{after, is_shut_out}
use Rattle.demands.specs.Contents.{Asks, address_in, IsGood, by_itself, Reaches, Quiet}
use Rattle.demands.specs.MapTold.{Shown, MapTold}
use Rattle.demands.proofs.Usable.{usable_unit, unit_capacity}
use Rattle.demands.proofs.Moving.{good_usable, good_seen, good_after, good_rows, after_ways}
use Rattle.demands.proofs.WhenGood.{rows_answer}
use Rattle.demands.proofs.Conflicts.{move_decided}

few : (capacity : ℕ) → T (capacity_ok capacity) → capacity ≤ most_blocks
unfolding capacity_ok
few capacity t = leb→le capacity most_blocks (and_r (leb 1 capacity) (leb capacity most_blocks) t)

status_told_law : (s : Store) (c : Call) (a : Asks Status c) → IsGood s c → Shown s c (address_in a.request) (allocation_in a.request) (step s c).seen
unfolding fetched status_told move_rows
status_told_law s c a e = record {
  page = status_data s.unit.capacity s.pool.owners (address_in a.request);
  tells = tells_map s.unit.capacity s.pool.owners (address_in a.request)
      ((status_passes s.unit.capacity s.pool.owners (address_in a.request) (allocation_in a.request) c.data_in).0 (good_rows Status s c a e)).0
      (few s.unit.capacity (unit_capacity s.unit (usable_unit s (good_usable s c e))));
  seen = good_seen Status s c a e;
}

status_still : (s : Store) (c : Call) → Asks Status c → number_of (step s c).seen.answer ≢ 13 → after step s c ≡ s
unfolding moved
status_still s c a n = after_ways s c (λ x. x ≡ s) (λ e. good_after Status s c a e) refl (λ e. absurd (n e))

-- "as READ"
as_read : (r : Rights) (n : ℕ) → conflict r n (Moves Status) ≡ shut_out r n
unfolding shut_out ruled stops
as_read r n = table_rule r n (Moves Status) ∙ sym (table_rule r n (Moves Read))

status_shut_out : (s : Store) (c : Call) → Asks Status c → T (usable s) → by_itself s.format c ≡ Good → Quiet s c
    → (step s c).seen.answer ≡ Conflict ↔ T (is_shut_out s c)
unfolding is_shut_out
status_shut_out s c a u g d =
    subst (λ (b : Bool). (step s c).seen.answer ≡ Conflict ↔ T b) (as_read s.unit.rights c.nexus) (move_decided Status s c a u g d)

status_past_end : (s : Store) (c : Call) (a : Asks Status c) → Reaches s a → s.unit.capacity ≤ address_in a.request
    → (step s c).seen.answer ≡ out_of_range (address_in a.request)
unfolding move_rows status_rows
status_past_end s c a r h = rows_answer Status s c a r ∙ row_stop (out_of_range _) _ _ (le-leb _ _ h)

pub map_told : MapTold step
map_told = record { told = status_told_law; still = status_still; shut_out_law = status_shut_out; past_end = status_past_end }
