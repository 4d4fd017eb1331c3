-- Every row of the tests of a CDB by itself refuses: none of them answers GOOD. What the table does not serve meets one of them.
-- Assumes nothing.
use mathlib.Core.Path.{◌≡◌}
use mathlib.Core.Bool.{true≢false}
use mathlib.Core.List.{List, [], ◌∷◌}
use Prim.Native.Nat.{ℕ}
use lib.Dec.{T}
use Rattle.std.specs.Prelude.{Some, None}
use Rattle.answers.specs.declared.Answer.TheVariants.{Good}
use Rattle.answers.specs.Answers.{not_listed, invalid_field}
use Rattle.answers.specs.Order.{first, refuses, refusing, refusing_by}
use Rattle.answers.proofs.OrderLaws.{row_fails, rows_after}
use Rattle.forms.specs.Forms.{Service, Entry, action_bits, nothing, asked_by, asked_in}
use Rattle.forms.specs.Tests.{is_unlisted, code_rows, length_rows, Check, wrong_in, check_rows, control_check, service_checks, code_checks, checks_of, field_rows}

pub code_refusing : (e : Entry) → T (refusing (code_rows e))
unfolding code_rows refusing_by refuses
code_refusing e = tt

pub length_refusing : (e : Entry) (cdb : List ℕ) → T (refusing (length_rows e cdb))
unfolding length_rows refusing_by refuses
length_refusing (Some code) cdb = tt
length_refusing None cdb = tt

pub check_refusing : (ks : List Check) (cdb : List ℕ) → T (refusing (check_rows ks cdb))
unfolding check_rows refusing_by refuses
check_refusing [] cdb = tt
check_refusing (k ∷ ks) cdb = check_refusing ks cdb

pub field_refusing : (e : Entry) (cdb : List ℕ) → T (refusing (field_rows e cdb))
unfolding field_rows
field_refusing e cdb = check_refusing (checks_of e) cdb

-- ---- what is not served

-- "others 2"
service_unserved : (v : Service) (cdb : List ℕ) → asked_by v cdb ≡ nothing → first (check_rows (service_checks v) cdb) ≡ Good → ⊥
unfolding asked_by service_checks check_rows wrong_in refuses
service_unserved (Some f) cdb e g = cc
service_unserved None cdb e g = true≢false (row_fails (invalid_field action_bits) _ _ tt g)

-- "operation code not listed"
pub unserved : (e : Entry) (cdb : List ℕ) → asked_in e cdb ≡ nothing → first (code_rows e) ≡ Good → first (field_rows e cdb) ≡ Good → ⊥
unfolding asked_in code_rows is_unlisted field_rows checks_of code_checks check_rows refuses
unserved (Some code) cdb e c f = service_unserved code.service cdb e (rows_after (invalid_field (control_check code.long).bits) _ _ tt f)
unserved None cdb e c f = true≢false (row_fails not_listed _ _ tt c)
