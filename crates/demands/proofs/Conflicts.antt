-- The conflict table: a call on the blocks is answered 10 exactly where the table stops it, and a command that tells never is.
-- Assumes nothing.
use mathlib.Core.Path.{◌≡◌, sym, ◌∙◌, subst}
use mathlib.Core.Logic.{◌↔◌, ◌≢◌}
use mathlib.Core.Bool.{Bool, true, false, cond}
use mathlib.Core.List.{List, [], ◌∷◌}
use Prim.Native.Nat.{ℕ}
use lib.Dec.{T, T_not, eqb}
use Rattle.std.specs.Prelude.{Some, None}
use Rattle.fields.proofs.Tests.{test, T_true, T_false, false→T, agree}
use Rattle.answers.specs.declared.Answer.{Answer}
use Rattle.answers.specs.declared.Answer.TheVariants.{Good, Refused, Conflict, Unusable, Short}
use Rattle.answers.specs.Order.{Row, first, next, first_of, refusing_by}
use Rattle.answers.proofs.OrderLaws.{first_obeys, next_obeys}
use Rattle.rights.specs.declared.Action.{Action}
use Rattle.rights.specs.Places.{registered}
use Rattle.rights.specs.Rights.{is_one_of, is_type, one_holds, all_hold, holds}
use Rattle.rights.proofs.Types.{types, every, agrees_under, agree_under}
use Rattle.rights.proofs.Holders.{kind_listed}
use Rattle.forms.specs.declared.Tell.{Tell}
use Rattle.forms.specs.declared.Move.{Move}
use Rattle.forms.specs.declared.Move.TheVariants.{Read, Write, WriteSame, Unmap, Status}
use Rattle.forms.specs.declared.Command.TheVariants.{Tells, Moves, Alters}
use Rattle.forms.specs.declared.Request.{Request}
use Rattle.forms.specs.Forms.{Entry, entry_of, asked_of}
use Rattle.forms.specs.Tests.{code_rows, length_rows, Check, check_rows, checks_of, field_rows}
use Rattle.forms.proofs.Table.{is_alters, alters_in, alters_code}
use Rattle.pool.specs.Pool.{Pool}
use Rattle.store.specs.Store.{Store, Call, usable}
use Rattle.store.specs.Conflict.{conflict, passes, stops, ruled}
use Rattle.store.specs.Move.{read_rows, write_rows, same_rows, unmap_rows, status_rows, move_rows}
use Rattle.store.specs.Tell.{tell_rows}
use Rattle.store.specs.Step.{call_rows, store_rows, guard_rows, command_rows, own_rows, step, answer_to, attention_rows}
use Rattle.store.proofs.ConflictLaws.{holds_by, rule_by, table_rule, telling_passes}
use Rattle.store.proofs.Parts.{call_answer, store_answer, code_answer, length_answer, field_answer, guard_answer, parts, attention_answer}
use Rattle.store.proofs.StoreLaws.{step_answer}
use Rattle.demands.specs.History.{is_out}
use Rattle.demands.specs.Contents.{AsksFor, Asks, by_itself, Quiet}
use Rattle.demands.specs.ConflictTable.{CellsDecide}
use Rattle.demands.specs.Reservations.{holder, registrant, outsider, sender_of, same_sender, conflict_table, column, says, type_in, stopped}
use Rattle.demands.proofs.Usable.{usable_unit, unit_rights}
use Rattle.demands.proofs.WhenGood.{conflict_first, own_answers}

-- ---- rows that do not answer 10

unfoldable not_ten : Answer → Bool
not_ten Good = true
not_ten (Refused s) = true
not_ten Conflict = false
not_ten Unusable = true
not_ten Short = true

abbrev no_ten : List Row → Bool
no_ten = refusing_by not_ten

first_none : (rows : List Row) → T (no_ten rows) → T (not_ten (first rows))
unfolding not_ten
first_none rows t = first_obeys not_ten rows tt t

next_none : (a b : Answer) → T (not_ten a) → T (not_ten b) → T (not_ten (next a b))
next_none = next_obeys not_ten

none_ten : (a : Answer) → T (not_ten a) → a ≢ Conflict
unfolding not_ten
none_ten a t e = subst (λ (x : Answer). T (not_ten x)) e t

-- ---- the lines of the types and senders say what the rule says

unfoldable lines_by : Move → ℕ → Bool → Bool → Bool
lines_by m kind named known = says conflict_table kind (cond (holds_by kind named known) holder (cond known registrant outsider)) m

lines_agree : (m : Move) → T (every (agrees_under (rule_by (Moves m)) (lines_by m)) types)
unfolding every agrees_under agree rule_by lines_by holds_by stops is_type is_one_of one_holds all_hold conflict_table says column same_sender
lines_agree Read = tt
lines_agree Write = tt
lines_agree WriteSame = tt
lines_agree Unmap = tt
lines_agree Status = tt

rule_stopped : (m : Move) (s : Store) (c : Call) → T (usable s) → conflict s.unit.rights c.nexus (Moves m) ≡ stopped s c m
unfolding ruled passes holds rule_by lines_by holds_by stopped sender_of type_in
rule_stopped m s c u =
    table_rule s.unit.rights c.nexus (Moves m)
    ∙ agree_under (rule_by (Moves m)) (lines_by m) types (lines_agree m) s.unit.rights.kind (eqb s.unit.rights.holder c.nexus)
    (registered c.nexus s.unit.rights.places) (kind_listed s.unit.rights (unit_rights s.unit (usable_unit s u)))

-- ---- a call on the blocks

moves_none : (m : Move) (q : Request) (capacity : ℕ) (p : Pool) (c : Call) → T (no_ten (move_rows m q capacity p c))
unfolding move_rows read_rows write_rows same_rows unmap_rows status_rows refusing_by not_ten
moves_none Read q capacity p c = tt
moves_none Write q capacity p c = tt
moves_none WriteSame q capacity p c = tt
moves_none Unmap q capacity p c = tt
moves_none Status q capacity p c = tt

-- it is answered 10 exactly where the table has a conflict
pub move_decided : (m : Move) (s : Store) (c : Call) → Asks m c → T (usable s) → by_itself s.format c ≡ Good → Quiet s c
    → (step s c).seen.answer ≡ Conflict ↔ T (conflict s.unit.rights c.nexus (Moves m))
move_decided m s c a u g d = (
  λ e. test (conflict s.unit.rights c.nexus (Moves m)) (λ t. t)
      (λ n. absurd (none_ten _ (first_none _ (moves_none m a.request s.unit.capacity s.pool c))
      (sym (own_answers m s c a u g d (T_false _ n)) ∙ e))),
  λ t. conflict_first m s c a u g d (T_true _ t),
)

-- and so where the lines of the types and senders have one
pub conflict_table_law : (m : Move) (s : Store) (c : Call) → Asks m c → T (usable s) → by_itself s.format c ≡ Good → Quiet s c
    → (step s c).seen.answer ≡ Conflict ↔ T (stopped s c m)
conflict_table_law m s c a u g d =
    subst (λ (b : Bool). (step s c).seen.answer ≡ Conflict ↔ T b) (rule_stopped m s c u) (move_decided m s c a u g d)

-- ---- a command that tells

checks_none : (ks : List Check) (cdb : List ℕ) → T (no_ten (check_rows ks cdb))
unfolding check_rows refusing_by not_ten
checks_none [] cdb = tt
checks_none (k ∷ ks) cdb = checks_none ks cdb

fields_none : (e : Entry) (cdb : List ℕ) → T (no_ten (field_rows e cdb))
unfolding field_rows
fields_none e cdb = checks_none (checks_of e) cdb

length_none : (e : Entry) (cdb : List ℕ) → T (no_ten (length_rows e cdb))
unfolding length_rows refusing_by not_ten
length_none (Some code) cdb = tt
length_none None cdb = tt

fixed_none : (s : Store) (c : Call) → T (no_ten (call_rows s.format c)) × T (no_ten (store_rows s)) × T (no_ten (code_rows (entry_of c.cdb)))
unfolding call_rows store_rows code_rows refusing_by not_ten
fixed_none s c = (tt, tt, tt)

attention_none : (s : Store) (c : Call) → T (no_ten (attention_rows s.unit c.nexus c.cdb))
unfolding attention_rows refusing_by not_ten
attention_none s c = tt

module _ (t : Tell) (s : Store) (c : Call) (w : AsksFor (Tells t) c) where
  guard_none : T (not_ten (guard_answer s.unit c))
  unfolding guard_rows first_of not_ten
  guard_none = rw (w.is, w.command, telling_passes s.unit.rights c.nexus t) tt

  own_none : T (no_ten (own_rows (asked_of c.cdb) s c))
  unfolding own_rows command_rows tell_rows refusing_by not_ten
  own_none = rw (w.is, w.command) tt

  -- "All other commands pass."
  pub tells_pass : (step s c).seen.answer ≢ Conflict
  tells_pass e =
      none_ten (answer_to s c)
      (rw (parts s c)
      (next_none (call_answer s.format c) _ (first_none _ (fixed_none s c).0)
      (next_none (store_answer s) _ (first_none _ (fixed_none s c).1)
      (next_none (code_answer c) _ (first_none _ (fixed_none s c).2)
      (next_none (length_answer c) _ (first_none _ (length_none (entry_of c.cdb) c.cdb))
      (next_none (attention_answer s.unit c) _ (first_none _ (attention_none s c))
      (next_none (field_answer c) _ (first_none _ (fields_none (entry_of c.cdb) c.cdb))
      (next_none (guard_answer s.unit c) _ guard_none (first_none _ own_none)))))))))
      (sym (step_answer s c) ∙ e)

-- ---- every command that is served

altering_out : (a : Action) (c : Call) → AsksFor (Alters a) c → T (is_out c)
unfolding is_out alters_in is_alters
altering_out a c w = alters_code c.cdb (rw (w.is, w.command) tt)

pub cells_decide : CellsDecide step
cells_decide (Tells t) s c w o u g d = (
  λ e. absurd (tells_pass t s c w e),
  λ h. absurd (T_not (conflict s.unit.rights c.nexus (Tells t)) (false→T _ (telling_passes s.unit.rights c.nexus t)) h),
)
cells_decide (Moves m) s c w o u g d = move_decided m s c w u g d
cells_decide (Alters a) s c w o u g d = absurd (T_not (is_out c) o (altering_out a c w))
