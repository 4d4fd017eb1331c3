-- The tests of a CDB by itself, in three stages: "Then 1. Then 11 again …. Then 2: …"
-- Assumes nothing.
use Rattle.std.specs.Prelude.{Bool, true, false, not, ◌||◌, List, [], ◌∷◌, ℕ, ◌-◌, eqb, ltb, length, map, Some, None}
use Rattle.fields.specs.Bits.{Bits, within, whole, number_in}
use Rattle.answers.specs.declared.Answer.TheVariants.{Unusable}
use Rattle.answers.specs.Answers.{not_listed, invalid_field}
use Rattle.answers.specs.Order.{Row, ◌if◌}
use Rattle.pool.specs.Bounds.{most_transfer}
use Rattle.rights.specs.Rights.{is_one_of, is_type}
use Rattle.forms.specs.declared.Test.{Test}
use Rattle.forms.specs.declared.Test.TheVariants.{Nothing, Page, VitalPage, Protection, Count, Anchor, SameAnchor, SameCount, Scope, Kind}
use Rattle.forms.specs.declared.Form.{Form}
use Rattle.forms.specs.declared.Code.{Code}
use Rattle.forms.specs.Forms.{Span, Service, Entry, action_bits, span_bits, page_bits, protection_bits, scope_bits, kind_bits}

-- ---- 1

unfoldable pub is_unlisted : Entry → Bool
is_unlisted (Some code) = false
is_unlisted None = true

-- "operation code not listed"
unfoldable pub code_rows : Entry → List Row
code_rows e = not_listed if is_unlisted e ∷ []

-- ---- 11

-- "Then 11 again if the CDB's length is not 6, 10 or 16 as its code has it."
unfoldable pub length_rows : Entry → List ℕ → List Row
length_rows (Some code) cdb = Unusable if not (eqb (length cdb) code.long) ∷ []
length_rows None cdb = []

-- ---- 2

-- Q-2: "Serve INQUIRY pages 00h, B0h (block limits) and B2h (logical block provisioning)"
unfoldable pub pages : List ℕ
pages = 0x00 ∷ 0xB0 ∷ 0xB2 ∷ []

-- a field that can be wrong: where it stands, and which numbers in it are wrong; nothing else of the CDB counts
pub record Check : Type 0 where
  pub bits : Bits
  pub wrong : ℕ → Bool

abbrev pub check : Bits → (ℕ → Bool) → Check
check bits wrong = record { bits = bits; wrong = wrong }

unfoldable pub wrong_in : Check → List ℕ → Bool
wrong_in k cdb = k.wrong (number_in k.bits cdb)

-- Q-4: "The field is the first one wrong in 01's order": a row for each, which names it
unfoldable pub check_rows : List Check → List ℕ → List Row
check_rows [] cdb = []
check_rows (k ∷ ks) cdb = invalid_field k.bits if wrong_in k cdb ∷ check_rows ks cdb

-- a flag that is set
unfoldable pub is_set : ℕ → Bool
is_set n = eqb n 1

unfoldable pub not_zero : ℕ → Bool
not_zero n = not (eqb n 0)

-- what each test looks at, where `size` is the count, allocation length or list length
unfoldable pub check_of : Test → Span → Check
-- no byte, never wrong
check_of Nothing size = check (whole 0 0) (λ n. false)
-- INQUIRY: "… or byte 2 not 0: 2"; by Q-2 "bit 0 of byte 1 set gives 2 only with an unlisted page"
check_of Page size = check page_bits not_zero
check_of VitalPage size = check page_bits (λ n. not (is_one_of n pages))
-- READ and WRITE: "Byte 1 bits 7-5 not 0, or count above 128: 2."
check_of Protection size = check protection_bits not_zero
check_of Count size = check (span_bits size) (λ n. ltb most_transfer n)
-- UNMAP: "byte 1 bit 0 (ANCHOR) set: 2"
check_of Anchor size = check (within 1 0 1) is_set
-- WRITE SAME, by Q-1: "Count 0 or above 128, WRPROTECT or ANCHOR: 2."; its WRPROTECT is where READ and WRITE have theirs
check_of SameAnchor size = check (within 1 4 1) is_set
check_of SameCount size = check (span_bits size) (λ n. eqb n 0 || ltb most_transfer n)
-- "for 1, 2, 4 (4 always, stricter than SPC) a scope not 0 or a type outside the six: 2"
check_of Scope size = check scope_bits not_zero
check_of Kind size = check kind_bits (λ n. not (is_type n))

-- the fields of a row; Q-4: "then by lowest byte, then highest bit"
unfoldable pub test_checks : Form → List Check
test_checks f = map (λ t. check_of t f.size) f.tests

-- "others 2": an action that is not listed, whatever else the CDB says
unfoldable pub service_checks : Service → List Check
service_checks (Some f) = test_checks f
service_checks None = check action_bits (λ n. true) ∷ []

-- "control byte bit 2 (NACA) set, for all commands, and the fields below"; the control byte is the CDB's last by its code's length
abbrev pub control_check : ℕ → Check
control_check long = check (within (long - 1) 2 1) is_set

unfoldable pub code_checks : Code → List Check
code_checks code = control_check code.long ∷ service_checks code.service

unfoldable pub checks_of : Entry → List Check
checks_of (Some code) = code_checks code
checks_of None = []

unfoldable pub field_rows : Entry → List ℕ → List Row
field_rows e cdb = check_rows (checks_of e) cdb
