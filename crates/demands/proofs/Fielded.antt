-- A call in which nothing but a field can be wrong is answered 2 exactly where a test of its fields holds: nothing behind the fields answers 2.
-- Assumes nothing.
use mathlib.Core.Path.{◌≡◌, refl, sym, ap, ◌∙◌, subst}
use mathlib.Core.Logic.{◌↔◌, ◌≢◌}
use mathlib.Core.Bool.{Bool, true, false, not, ◌||◌}
use mathlib.Core.List.{List, [], ◌∷◌}
use Prim.Native.Nat.{ℕ, ◌≤◌}
use native.Mathlib.Omega.{arith}
use borrow.Author.Tests.{le-ltb, ne_eqb, eq-eqb}
use lib.Dec.{T, eqb}
use lib.ListN.{length}
use Rattle.fields.specs.Field.{bit}
use Rattle.fields.specs.Bits.{Bits, whole, number_in}
use Rattle.answers.specs.declared.Answer.{Answer}
use Rattle.answers.specs.declared.Answer.TheVariants.{Good, Unusable}
use Rattle.answers.specs.Answers.{not_listed, invalid_field, codes_of, number_of}
use Rattle.answers.specs.Order.{Row, ◌if◌, first, next, refuses, first_of, next_by, refusing_by}
use Rattle.answers.proofs.OrderLaws.{row_pass, row_end, next_after, first_obeys, next_obeys}
use Rattle.rights.specs.declared.Rights.{Rights}
use Rattle.rights.specs.declared.Action.{Action}
use Rattle.rights.specs.declared.Action.TheVariants.{Register, Reserve, Release, Clear, Preempt, RegisterIgnoring}
use Rattle.rights.specs.Actions.{register_flags, flag_rows, action_rows, decision_rows}
use Rattle.pool.specs.Pool.{Pool}
use Rattle.forms.specs.declared.Move.{Move}
use Rattle.forms.specs.declared.Move.TheVariants.{Read, Write, WriteSame, Unmap, Status}
use Rattle.forms.specs.declared.Command.{Command}
use Rattle.forms.specs.declared.Command.TheVariants.{Tells, Moves, Alters}
use Rattle.forms.specs.declared.Request.{Request}
use Rattle.forms.specs.Forms.{Span, entry_of, number, request_by, Asked, nothing, asks, asked_of}
use Rattle.forms.specs.Tests.{is_unlisted, code_rows, length_rows, is_set, Check, wrong_in, check_rows, check_of, control_check, field_rows}
use Rattle.forms.proofs.Fields.{Row as RowOf, tests_of, row_long, move_checks, asked_row}
use Rattle.store.specs.Store.{Store, Call}
use Rattle.store.specs.Move.{read_rows, write_rows, same_rows, unmap_rows, status_rows, move_rows}
use Rattle.store.specs.Tell.{tell_rows}
use Rattle.store.specs.Alter.{alter_rows}
use Rattle.store.specs.Step.{call_rows, guard_rows, command_rows, own_rows, step}
use Rattle.store.proofs.Parts.{call_answer, guard_answer, own_answer, from_fields, undue_passes}
use Rattle.store.proofs.StoreLaws.{step_answer}
use Rattle.demands.specs.Contents.{AsksFor, Asks, long_of, control}
use Rattle.demands.specs.Limits.{Heard, Fielded}

-- ---- rows that do not answer 2

unfoldable not_two : Answer → Bool
not_two a = not (eqb (number_of a) 2)

abbrev no_two : List Row → Bool
no_two = refusing_by not_two

first_none : (rows : List Row) → T (no_two rows) → T (not_two (first rows))
unfolding not_two number_of
first_none rows t = first_obeys not_two rows tt t

none_two : (a : Answer) → T (not_two a) → number_of a ≢ 2
unfolding not_two
none_two a t e = subst (λ (n : ℕ). T (not (eqb n 2))) e t

guard_none : (x : Asked) (r : Rights) (n : ℕ) → T (no_two (guard_rows x r n))
unfolding guard_rows refusing_by not_two number_of
guard_none nothing r n = tt
guard_none (asks q) r n = tt

moves_none : (m : Move) (q : Request) (capacity : ℕ) (p : Pool) (c : Call) → T (no_two (move_rows m q capacity p c))
unfolding move_rows read_rows write_rows same_rows unmap_rows status_rows refusing_by not_two number_of codes_of
moves_none Read q capacity p c = tt
moves_none Write q capacity p c = tt
moves_none WriteSame q capacity p c = tt
moves_none Unmap q capacity p c = tt
moves_none Status q capacity p c = tt

alters_none : (a : Action) (q : Request) (r : Rights) (n : ℕ) (data_out : List ℕ) → T (no_two (alter_rows a q r n data_out))
unfolding alter_rows decision_rows flag_rows register_flags action_rows refusing_by not_two number_of codes_of
alters_none Register q r n data_out = tt
alters_none Reserve q r n data_out = tt
alters_none Release q r n data_out = tt
alters_none Clear q r n data_out = tt
alters_none Preempt q r n data_out = tt
alters_none RegisterIgnoring q r n data_out = tt

command_none : (k : Command) (q : Request) (s : Store) (c : Call) → T (no_two (command_rows k q s c))
unfolding command_rows tell_rows refusing_by not_two number_of
command_none (Tells t) q s c = tt
command_none (Moves m) q s c = moves_none m q s.unit.capacity s.pool c
command_none (Alters a) q s c = alters_none a q s.unit.rights c.nexus c.data_out

own_none : (x : Asked) (s : Store) (c : Call) → T (no_two (own_rows x s c))
unfolding own_rows refusing_by
own_none nothing s c = tt
own_none (asks q) s c = command_none q.command q s c

-- what is answered behind the fields
abbrev pub later : Store → Call → Answer
later s c = next (guard_answer s.unit c) (own_answer s c)

later_none : (s : Store) (c : Call) → T (not_two (later s c))
later_none s c =
    next_obeys not_two (guard_answer s.unit c) (own_answer s c)
    (first_none _ (guard_none (asked_of c.cdb) s.unit.rights c.nexus)) (first_none _ (own_none (asked_of c.cdb) s c))

-- ---- before the fields

pub heard_call : (s : Store) (c : Call) → Heard s c → 1 ≤ length c.cdb → call_answer s.format c ≡ Good
unfolding call_rows
heard_call s c h l =
    row_pass Unusable _ _ (le-ltb _ _ h.nexus) ∙ row_pass Unusable _ _ (ne_eqb (length c.cdb) 0 (omega arith))
    ∙ row_pass Unusable _ _ (le-ltb _ _ h.sense) ∙ row_end

-- a CDB by its row: its code is listed, and it is as long as its code has it
module _ {k : Command} {c : Call} (a : AsksFor k c) where
  pub asks_row : RowOf (entry_of c.cdb) c.cdb a.request
  asks_row = asked_row c.cdb a.request a.is

  pub long_is : long_of (entry_of c.cdb) ≡ asks_row.long
  unfolding long_of
  long_is = ap long_of asks_row.entry

  pub code_rows_law : code_rows (entry_of c.cdb) ≡ not_listed if false ∷ []
  unfolding code_rows is_unlisted
  code_rows_law = ap code_rows asks_row.entry

  module _ (l : length c.cdb ≡ long_of (entry_of c.cdb)) where
    pub not_empty : 1 ≤ length c.cdb
    not_empty =
        let least = row_long c.cdb a.request asks_row in
        let whole = l ∙ long_is in
        omega arith

    pub length_rows_law : length_rows (entry_of c.cdb) c.cdb ≡ Unusable if false ∷ []
    unfolding length_rows
    length_rows_law = rw (asks_row.entry, eq-eqb _ _ (l ∙ long_is))

-- ---- the fields

-- the control byte's bit for NACA, in a CDB as long as its code has it
abbrev pub naca_bits : Call → Bits
naca_bits c = (control_check (long_of (entry_of c.cdb))).bits

-- no byte, where there is no field to be wrong
abbrev pub nowhere : Bits
nowhere = whole 0 0

-- a row for a test of a field
abbrev pub checked : Check → Call → Row
checked k c = invalid_field k.bits if wrong_in k c.cdb

-- the number that says how much, where the row of a command has it
module _ {k : Command} {c : Call} (a : AsksFor k c) where
  abbrev pub size_span : Span
  size_span = (asks_row a).form.size

  pub size_is : number size_span c.cdb ≡ a.request.size
  unfolding request_by
  size_is = ap (λ (q : Request). q.size) (asks_row a).request

-- those of a command on the blocks
pub move_rows_law : (m : Move) (c : Call) (a : Asks m c) → field_rows (entry_of c.cdb) c.cdb
    ≡ invalid_field (naca_bits c) if bit 2 (control c) ∷ checked (check_of (tests_of m).0 (size_span a)) c
    ∷ checked (check_of (tests_of m).1 (size_span a)) c ∷ checked (check_of (tests_of m).2 (size_span a)) c ∷ []
unfolding field_rows check_rows wrong_in is_set number_in bit
move_rows_law m c a = ap (λ (ks : List Check). check_rows ks c.cdb) (move_checks c.cdb a.request (asks_row a) m a.command) ∙ rw (long_is a)

-- where p, q and r are its fields but NACA, and x, y and z their tests
module _ (p q r : Bits) (x y z : Bool) where
  abbrev pub three_rows : List Row
  three_rows = invalid_field p if x ∷ invalid_field q if y ∷ invalid_field r if z ∷ []

three : (p q r : Bits) (x y z : Bool) (b : Answer) → T (not_two b)
    → number_of (next (first (three_rows p q r x y z)) b) ≡ 2 ↔ T (x || (y || z))
unfolding first_of next_by refuses number_of codes_of
three p q r true y z b t = (λ _. tt, λ _. refl)
three p q r false true z b t = (λ _. tt, λ _. refl)
three p q r false false true b t = (λ _. tt, λ _. refl)
three p q r false false false b t = (λ e. absurd (none_two b t e), λ h. absurd h)

module _ {k : Command} (s : Store) (c : Call) (a : AsksFor k c) (f : Fielded s c) (p q r : Bits) (x y z : Bool)
    (rows : field_rows (entry_of c.cdb) c.cdb ≡ invalid_field (naca_bits c) if bit 2 (control c) ∷ three_rows p q r x y z) where
  answer_is : (step s c).seen.answer ≡ next (first (three_rows p q r x y z)) (later s c)
  answer_is =
      step_answer s c
      ∙ from_fields s c (heard_call s c f.heard (not_empty a f.long)) f.heard.store
      (ap first (code_rows_law a) ∙ row_pass not_listed _ _ refl ∙ row_end) (ap first (length_rows_law a f.long) ∙ row_pass Unusable _ _ refl ∙ row_end)
      (undue_passes s.unit c.nexus c.cdb f.quiet)
      ∙ ap (λ (v : Answer). next v (later s c)) (ap first rows ∙ row_pass (invalid_field (naca_bits c)) _ _ f.naca)

  pub refused_exactly : number_of (step s c).seen.answer ≡ 2 ↔ T (x || (y || z))
  refused_exactly = subst (λ (v : Answer). number_of v ≡ 2 ↔ T (x || (y || z))) (sym answer_is) (three p q r x y z (later s c) (later_none s c))

  pub fields_pass : x ≡ false → y ≡ false → z ≡ false → (step s c).seen.answer ≡ later s c
  fields_pass d e g =
      answer_is
      ∙ next_after _ (later s c) (row_pass (invalid_field p) _ _ d ∙ row_pass (invalid_field q) _ _ e ∙ row_pass (invalid_field r) _ _ g ∙ row_end)
