-- What a request says whose fields are right: at most 128 blocks where it counts them, one of the six types where it makes a reservation.
-- Assumes nothing.
use mathlib.Core.Path.{◌≡◌, refl, sym, ap, ◌∙◌, subst}
use mathlib.Core.Bool.{Bool, true, false, not, ◌&&◌, ◌||◌}
use mathlib.Core.List.{List, [], ◌∷◌, map}
use Prim.Native.Nat.{ℕ, zero, suc, ◌≤◌}
use native.Mathlib.Omega.{arith}
use borrow.Author.Tests.{ltb-false}
use lib.Dec.{T, eqb, eqb→eq}
use Rattle.std.specs.Prelude.{Some, None}
use Rattle.fields.specs.Field.{byte}
use Rattle.fields.specs.Bits.{number_in}
use Rattle.fields.proofs.Tests.{and_l, and_r, nor_r, or_other, not_not, not_not_intro, test, by_equal, false→T, T_false}
use Rattle.answers.specs.declared.Answer.TheVariants.{Good}
use Rattle.answers.specs.Order.{first, refuses}
use Rattle.answers.proofs.OrderLaws.{row_fails, rows_after}
use Rattle.pool.specs.Bounds.{most_transfer}
use Rattle.rights.specs.Rights.{is_type}
use Rattle.rights.proofs.Keeping.{makes}
use Rattle.forms.specs.declared.Move.{Move}
use Rattle.forms.specs.declared.Move.TheVariants.{Read, Write, WriteSame, Unmap, Status}
use Rattle.forms.specs.declared.Command.{Command}
use Rattle.forms.specs.declared.Command.TheVariants.{Tells, Moves, Alters}
use Rattle.forms.specs.declared.Test.{Test}
use Rattle.forms.specs.declared.Test.TheVariants.{Nothing, Page, VitalPage, Protection, Count, Anchor, SameAnchor, SameCount, Scope, Kind}
use Rattle.forms.specs.declared.Form.{Form}
use Rattle.forms.specs.declared.Request.{Request}
use Rattle.forms.specs.Forms.{Span, Service, Entry, lines, listed, entry_for, entry_of, action, number, kind_bits, request_by, asks, asked_by, asked_in, asked_of}
use Rattle.forms.specs.Tests.{Check, wrong_in, check_rows, check_of, test_checks, control_check, service_checks, code_checks, checks_of, field_rows}
use Rattle.forms.proofs.Table.{all, obeys, looked_up, service_rule, row_rule, long_rule, long_rule_law}

-- ---- the row by which a request is read

-- the request r stands in the CDB by the row `form` of a code whose CDBs are `long` bytes
pub record Row (e : Entry) (cdb : List ℕ) (r : Request) : Type 0 where
  pub long : ℕ
  pub form : Form
  pub entry : e ≡ listed long (Some form)
  pub request : request_by form cdb ≡ r

service_row : (long : ℕ) (v : Service) (cdb : List ℕ) (r : Request) → asked_by v cdb ≡ asks r → Row (listed long v) cdb r
unfolding asked_by
service_row long (Some f) cdb r e = record { long = long; form = f; entry = refl; request = cc }
service_row long None cdb r e = cc

-- what is asked for has a row
pub row_of : (e : Entry) (cdb : List ℕ) (r : Request) → asked_in e cdb ≡ asks r → Row e cdb r
unfolding asked_in
row_of (Some code) cdb r e = service_row code.long code.service cdb r e
row_of None cdb r e = cc

-- ---- which tests a row has

-- a number for each test, so that two can be compared
unfoldable test_number : Test → ℕ
test_number Nothing = 0
test_number Page = 1
test_number VitalPage = 2
test_number Protection = 3
test_number Count = 4
test_number Anchor = 5
test_number SameAnchor = 6
test_number SameCount = 7
test_number Scope = 8
test_number Kind = 9

unfoldable test_of : ℕ → Test
test_of zero = Nothing
test_of (suc zero) = Page
test_of (suc (suc zero)) = VitalPage
test_of (suc (suc (suc zero))) = Protection
test_of (suc (suc (suc (suc zero)))) = Count
test_of (suc (suc (suc (suc (suc zero))))) = Anchor
test_of (suc (suc (suc (suc (suc (suc zero)))))) = SameAnchor
test_of (suc (suc (suc (suc (suc (suc (suc zero))))))) = SameCount
test_of (suc (suc (suc (suc (suc (suc (suc (suc zero)))))))) = Scope
test_of (suc (suc (suc (suc (suc (suc (suc (suc (suc n))))))))) = Kind

test_back : (t : Test) → test_of (test_number t) ≡ t
unfolding test_of test_number
test_back Nothing = refl
test_back Page = refl
test_back VitalPage = refl
test_back Protection = refl
test_back Count = refl
test_back Anchor = refl
test_back SameAnchor = refl
test_back SameCount = refl
test_back Scope = refl
test_back Kind = refl

unfoldable same_test : Test → Test → Bool
same_test t u = eqb (test_number t) (test_number u)

same_test_law : (t u : Test) → T (same_test t u) → t ≡ u
unfolding same_test
same_test_law t u h = sym (test_back t) ∙ ap test_of (eqb→eq (test_number t) (test_number u) h) ∙ test_back u

-- do two rows have the same tests
unfoldable same_tests : List Test → List Test → Bool
same_tests [] [] = true
same_tests [] (u ∷ us) = false
same_tests (t ∷ ts) [] = false
same_tests (t ∷ ts) (u ∷ us) = same_test t u && same_tests ts us

same_tests_law : (ts us : List Test) → T (same_tests ts us) → ts ≡ us
unfolding same_tests
same_tests_law [] [] h = refl
same_tests_law [] (u ∷ us) h = absurd h
same_tests_law (t ∷ ts) [] h = absurd h
same_tests_law (t ∷ ts) (u ∷ us) h =
    rw (same_test_law t u (and_l (same_test t u) (same_tests ts us) h), same_tests_law ts us (and_r (same_test t u) (same_tests ts us) h))

-- is a test one of these
unfoldable has_test : Test → List Test → Bool
has_test t [] = false
has_test t (u ∷ us) = same_test u t || has_test t us

-- where all of them pass, so does each
test_right : (size : Span) (cdb : List ℕ) (ts : List Test) → first (check_rows (map (λ t. check_of t size) ts) cdb) ≡ Good
    → (t : Test) → T (has_test t ts) → wrong_in (check_of t size) cdb ≡ false
unfolding has_test check_rows refuses
test_right size cdb [] good t h = absurd h
test_right size cdb (u ∷ us) good t h =
    test (same_test u t) (λ e. rw (same_test_law u t e) at (row_fails _ _ _ tt good))
    (λ e. test_right size cdb us (rows_after _ _ _ tt good) t (or_other (same_test u t) (has_test t us) e h))

-- commands that count blocks: READ and WRITE, and WRITE SAME
unfoldable pub is_counted : Command → Bool
is_counted (Tells t) = false
is_counted (Moves Read) = true
is_counted (Moves Write) = true
is_counted (Moves WriteSame) = true
is_counted (Moves Unmap) = false
is_counted (Moves Status) = false
is_counted (Alters a) = false

-- commands that make a reservation
unfoldable pub is_maker : Command → Bool
is_maker (Tells t) = false
is_maker (Moves m) = false
is_maker (Alters a) = makes a

long_least : (long : ℕ) → T (eqb long 6 || (eqb long 10 || eqb long 16)) → 1 ≤ long
long_least long t =
    by_equal long 6 (λ b. T (b || (eqb long 10 || eqb long 16)) → 1 ≤ long) (λ e _. omega arith)
    (λ _. by_equal long 10 (λ b. T (b || eqb long 16) → 1 ≤ long) (λ e _. omega arith) (λ _ h. let e = eqb→eq long 16 h in omega arith)) t

-- a rule of the rows of some commands
unfoldable pub of_these : (Command → Bool) → (Form → Bool) → Form → Bool
of_these P Q f = not (P f.command) || Q f

-- a row with these three tests
unfoldable tests_are : Test → Test → Test → Form → Bool
tests_are x y z f = same_tests f.tests (x ∷ y ∷ z ∷ [])

-- the fields that each command on the blocks tests
unfoldable pub tests_of : Move → Test × Test × Test
tests_of Read = (Protection, Count, Nothing)
tests_of Write = (Protection, Count, Nothing)
tests_of WriteSame = (Protection, SameAnchor, SameCount)
tests_of Unmap = (Anchor, Nothing, Nothing)
tests_of Status = (Nothing, Nothing, Nothing)

unfoldable command_tests : Command → Form → Bool
command_tests (Tells t) f = true
command_tests (Moves m) f = tests_are (tests_of m).0 (tests_of m).1 (tests_of m).2 f
command_tests (Alters a) f = true

-- each command that counts blocks tests the count
unfoldable count_tests : Form → Bool
count_tests f = has_test Count f.tests || has_test SameCount f.tests

-- RESERVE and PREEMPT test their type
unfoldable maker_tests : Form → Bool
maker_tests f = has_test Kind f.tests

move_rule : (cdb : List ℕ) → T (row_rule (λ f. command_tests f.command f) (entry_of cdb))
unfolding entry_of entry_for lines row_rule service_rule command_tests tests_of tests_are same_tests same_test test_number all obeys
move_rule cdb = looked_up (λ _ e. row_rule (λ f. command_tests f.command f) e) (byte 0 cdb) (action cdb) None lines tt tt

count_rule : (cdb : List ℕ) → T (row_rule (of_these is_counted count_tests) (entry_of cdb))
unfolding entry_of entry_for lines row_rule service_rule of_these is_counted count_tests has_test same_test test_number all obeys
count_rule cdb = looked_up (λ _ e. row_rule (of_these is_counted count_tests) e) (byte 0 cdb) (action cdb) None lines tt tt

maker_rule : (cdb : List ℕ) → T (row_rule (of_these is_maker maker_tests) (entry_of cdb))
unfolding entry_of entry_for lines row_rule service_rule of_these is_maker makes maker_tests has_test same_test test_number all obeys
maker_rule cdb = looked_up (λ _ e. row_rule (of_these is_maker maker_tests) e) (byte 0 cdb) (action cdb) None lines tt tt

module _ (cdb : List ℕ) (r : Request) (w : Row (entry_of cdb) cdb r) where
  row_command : w.form.command ≡ r.command
  unfolding request_by
  row_command = ap (λ (q : Request). q.command) w.request

  row_size : number w.form.size cdb ≡ r.size
  unfolding request_by
  row_size = ap (λ (q : Request). q.size) w.request

  row_kind : number_in kind_bits cdb ≡ r.kind
  unfolding request_by
  row_kind = ap (λ (q : Request). q.kind) w.request

  -- a CDB that is served is not empty
  pub row_long : 1 ≤ w.long
  unfolding long_rule
  row_long = long_least w.long (subst (λ (e : Entry). T (long_rule e)) w.entry (long_rule_law cdb))

  -- a rule of the rows of some commands, at the row of one of them
  pub row_obeys : (P : Command → Bool) (Q : Form → Bool) → T (row_rule (of_these P Q) (entry_of cdb)) → T (P r.command) → T (Q w.form)
  unfolding row_rule service_rule of_these
  row_obeys P Q t h =
      or_other (not (P w.form.command)) (Q w.form) (not_not_intro (P w.form.command) (rw row_command h))
      (subst (λ (e : Entry). T (row_rule (of_these P Q) e)) w.entry t)

  -- the control byte, and a row with these tests
  abbrev pub field_checks : Test → Test → Test → List Check
  field_checks x y z = control_check w.long ∷ check_of x w.form.size ∷ check_of y w.form.size ∷ check_of z w.form.size ∷ []

  -- all that can be wrong with the fields of such a row
  module _ (x y z : Test) (t : T (tests_are x y z w.form)) where
    tests_checks : checks_of (entry_of cdb) ≡ field_checks x y z
    unfolding checks_of code_checks service_checks test_checks tests_are
    tests_checks = ap checks_of w.entry ∙ rw (same_tests_law w.form.tests (x ∷ y ∷ z ∷ []) t)

  -- with those of a command on the blocks
  pub move_checks : (m : Move) → r.command ≡ Moves m → checks_of (entry_of cdb) ≡ field_checks (tests_of m).0 (tests_of m).1 (tests_of m).2
  unfolding row_rule service_rule command_tests
  move_checks m e =
      tests_checks (tests_of m).0 (tests_of m).1 (tests_of m).2
      (subst (λ (k : Command). T (command_tests k w.form)) (row_command ∙ e)
      (subst (λ (n : Entry). T (row_rule (λ f. command_tests f.command f) n)) w.entry (move_rule cdb)))

  -- ---- where the fields are right

  module _ (good : first (field_rows (entry_of cdb) cdb) ≡ Good) where
    row_right : first (check_rows (test_checks w.form) cdb) ≡ Good
    unfolding field_rows checks_of code_checks service_checks check_rows refuses
    row_right = rows_after _ _ _ tt (subst (λ (e : Entry). first (field_rows e cdb) ≡ Good) w.entry good)

    -- each of the row's tests passes
    passes : (t : Test) → T (has_test t w.form.tests) → wrong_in (check_of t w.form.size) cdb ≡ false
    unfolding test_checks
    passes t h = test_right w.form.size cdb w.form.tests row_right t h

    row_fits : T (is_counted r.command) → r.size ≤ most_transfer
    unfolding count_tests wrong_in check_of number
    row_fits h =
        rw (← row_size)
        (test (has_test Count w.form.tests) (λ t. ltb-false _ _ (passes Count t))
        (λ t. ltb-false _ _ (T_false _ (nor_r (eqb (number w.form.size cdb) 0) _ (false→T _
        (passes SameCount
        (or_other (has_test Count w.form.tests) (has_test SameCount w.form.tests) t (row_obeys is_counted count_tests (count_rule cdb) h))))))))

    row_typed : T (is_maker r.command) → T (is_type r.kind)
    unfolding maker_tests wrong_in check_of
    row_typed h =
        rw (← row_kind)
        (not_not (is_type (number_in kind_bits cdb)) (false→T _ (passes Kind (row_obeys is_maker maker_tests (maker_rule cdb) h))))

-- ---- of what a CDB asks for

-- at most 128 blocks, where it counts them
abbrev pub Fits : Request → Type 0
Fits r = T (is_counted r.command) → r.size ≤ most_transfer

-- one of the six types, where it makes a reservation
abbrev pub Typed : Request → Type 0
Typed r = T (is_maker r.command) → T (is_type r.kind)

module _ (cdb : List ℕ) (r : Request) (e : asked_of cdb ≡ asks r) where
  pub asked_row : Row (entry_of cdb) cdb r
  unfolding asked_of
  asked_row = row_of (entry_of cdb) cdb r e

  pub asked_fits : first (field_rows (entry_of cdb) cdb) ≡ Good → Fits r
  asked_fits g = row_fits cdb r asked_row g

  pub asked_typed : first (field_rows (entry_of cdb) cdb) ≡ Good → Typed r
  asked_typed g = row_typed cdb r asked_row g
