-- The ways that the tests of a CDB can end: v is their answer.
-- Assumes nothing.
use mathlib.Core.Path.{◌≡◌, refl, sym, ap, ◌∙◌}
use mathlib.Core.Bool.{Bool, true, false, not, ◌||◌, true≢false}
use mathlib.Core.List.{List, ◌∷◌, map}
use Prim.Native.Nat.{ℕ, suc, ◌+◌, ◌-◌, ◌<◌, ◌≤◌}
use lib.Dec.{T}
use Rattle.std.specs.Prelude.{Some, None, Ok, Err, is_some, length, get_or, drop}
use Rattle.std.proofs.Common.{add-one}
use Rattle.std.proofs.Math.Seq.{drop-cons}
use Rattle.std.proofs.lemmas.List.{drop_all}
use Rattle.fields.specs.Field.{byte, bit}
use Rattle.fields.specs.Bits.{number_in}
use Rattle.answers.specs.declared.Answer.{Answer}
use Rattle.answers.specs.declared.Answer.TheVariants.{Good, Refused, Conflict, Unusable, Short}
use Rattle.answers.specs.Answers.{invalid_field}
use Rattle.answers.specs.Order.{◌if◌, first, refuses}
use Rattle.answers.proofs.OrderLaws.{row_pass, row_stop, row_end}
use Rattle.forms.specs.declared.Test.{Test}
use Rattle.forms.specs.declared.Form.{Form}
use Rattle.forms.specs.declared.Code.{Code}
use Rattle.forms.specs.declared.Request.{Request}
use Rattle.forms.specs.Forms.{Span, Service, action_bits, number, request_by, Asked, nothing, asks, asked_by}
use Rattle.forms.specs.Tests.{Check, wrong_in, check_rows, is_set, check_of, test_checks, service_checks, control_check, code_checks}
use Rattle.decoder.specs.Decoding.{Decoded, decoded}

stops : (a : Answer) (asked : Asked) → T (refuses a) → Err a ≡ decoded a asked
unfolding decoded refuses
stops a nothing t = refl
stops Good (asks q) t = absurd t
stops (Refused s) (asks q) t = refl
stops Conflict (asks q) t = refl
stops Unusable (asks q) t = refl
stops Short (asks q) t = refl

-- they refuse, with the answer a
pub decoded_wrong : (v a : Answer) (asked : Asked) → v ≡ a → T (refuses a) → Err a ≡ decoded v asked
decoded_wrong v a asked e t = stops a asked t ∙ ap (λ (b : Answer). decoded b asked) (sym e)

-- they let a request pass
pub decoded_asks : (v : Answer) (q : Request) → v ≡ Good → Ok q ≡ decoded v (asks q)
unfolding decoded refuses
decoded_asks v q e = rw e

-- ---- what a decoding says of the tests

-- it asks: nothing refuses, and this is what is asked for
pub asks_good : (v : Answer) (asked : Asked) (q : Request) → decoded v asked ≡ Ok q → v ≡ Good
unfolding decoded refuses
asks_good v nothing q e = cc
asks_good Good (asks r) q e = refl
asks_good (Refused s) (asks r) q e = cc
asks_good Conflict (asks r) q e = cc
asks_good Unusable (asks r) q e = cc
asks_good Short (asks r) q e = cc

pub asks_this : (v : Answer) (asked : Asked) (q : Request) → decoded v asked ≡ Ok q → asked ≡ asks q
unfolding decoded refuses
asks_this v nothing q e = cc
asks_this Good (asks r) q e = cc
asks_this (Refused s) (asks r) q e = cc
asks_this Conflict (asks r) q e = cc
asks_this Unusable (asks r) q e = cc
asks_this Short (asks r) q e = cc

-- it refuses: with the answer of the tests, which refuses unless nothing is asked for
pub wrong_this : (v a : Answer) (asked : Asked) → decoded v asked ≡ Err a → v ≡ a
unfolding decoded refuses
wrong_this v a nothing e = cc
wrong_this Good a (asks r) e = cc
wrong_this (Refused s) a (asks r) e = cc
wrong_this Conflict a (asks r) e = cc
wrong_this Unusable a (asks r) e = cc
wrong_this Short a (asks r) e = cc

pub wrong_refuses : (v a : Answer) (asked : Asked) → decoded v asked ≡ Err a → (asked ≡ nothing → T (refuses v)) → T (refuses v)
unfolding decoded refuses
wrong_refuses v a nothing e h = h refl
wrong_refuses Good a (asks r) e h = cc
wrong_refuses (Refused s) a (asks r) e h = tt
wrong_refuses Conflict a (asks r) e h = tt
wrong_refuses Unusable a (asks r) e h = tt
wrong_refuses Short a (asks r) e h = tt

-- ---- the row of a command: q is its request

abbrev checks : Span → List Test → List Check
checks size ts = map (λ t. check_of t size) ts

module _ (f : Form) (cdb : List ℕ) where
  abbrev pub row_decides : Decoded
  row_decides = decoded (first (check_rows (test_checks f) cdb)) (asks (request_by f cdb))

  -- the tests before the one at i pass: those from it on decide
  abbrev pub Passed : ℕ → Type 0
  Passed i = first (check_rows (test_checks f) cdb) ≡ first (check_rows (checks f.size (drop i f.tests)) cdb)

  -- what the test at i says
  module _ (i : ℕ) (d : Test) (h : i < length f.tests) (p : Passed i) where
    abbrev test_at : Check
    test_at = check_of (get_or f.tests i d) f.size

    from_here : first (check_rows (test_checks f) cdb)
        ≡ first (invalid_field test_at.bits if wrong_in test_at cdb ∷ check_rows (checks f.size (drop (suc i) f.tests)) cdb)
    unfolding check_rows
    from_here = p ∙ ap (λ (ts : List Test). first (check_rows (checks f.size ts) cdb)) (drop-cons f.tests i d h)

    pub tested_stops : wrong_in test_at cdb ≡ true → Err (invalid_field test_at.bits) ≡ row_decides
    unfolding refuses
    tested_stops w = decoded_wrong _ _ _ (from_here ∙ row_stop _ _ _ w) tt

    pub tested_goes_on : wrong_in test_at cdb ≡ false → Passed (i + 1)
    tested_goes_on w = rw add-one (from_here ∙ row_pass _ _ _ w)

  -- the request
  module _ (q : Request) (e : q ≡ request_by f cdb) where
    pub tested_passes : (i : ℕ) → length f.tests ≤ i → Passed i → Ok q ≡ row_decides
    unfolding check_rows
    tested_passes i h p =
        rw e
        (decoded_asks _ (request_by f cdb)
        (p ∙ ap (λ (ts : List Test). first (check_rows (checks f.size ts) cdb)) (drop_all i f.tests h) ∙ row_end))

    pub size_is : q.size ≡ number f.size cdb
    unfolding request_by
    size_is = ap (λ (r : Request). r.size) e

-- ---- a listed code: the control byte, and its service action

pub neither : (x y : Bool) → (x || y) ≡ false → x ≡ false
neither true y e = absurd (true≢false e)
neither false y e = refl

module _ (code : Code) (cdb : List ℕ) where
  abbrev pub code_decides : Decoded
  code_decides = decoded (first (check_rows (code_checks code) cdb)) (asked_by code.service cdb)

  pub request_control : bit 2 (byte (code.long - 1) cdb) ≡ true → Err (invalid_field (control_check code.long).bits) ≡ code_decides
  unfolding code_checks check_rows wrong_in is_set number_in bit refuses
  request_control h = decoded_wrong _ _ _ (row_stop _ _ _ h) tt

  module _ (h : bit 2 (byte (code.long - 1) cdb) ≡ false) where
    pub request_served : (f : Form) (d : Decoded) → code.service ≡ Some f → d ≡ decoded (first (check_rows (test_checks f) cdb)) (asks (request_by f cdb))
        → d ≡ code_decides
    unfolding code_checks service_checks check_rows wrong_in is_set number_in bit asked_by
    request_served f d s e = rw (s, e) (ap (λ (a : Answer). decoded a (asks (request_by f cdb))) (sym (row_pass _ _ _ h)))

    pub request_other : code.service ≡ None → Err (invalid_field action_bits) ≡ code_decides
    unfolding code_checks service_checks check_rows wrong_in is_set number_in bit asked_by refuses
    request_other s = rw s (decoded_wrong _ _ _ (row_pass _ _ _ h ∙ row_stop _ _ _ refl) tt)

    none_is : (v : Service) (y : Bool) → is_some v ≡ not y → y ≡ true → v ≡ None
    none_is (Some f) y e t = absurd (true≢false (e ∙ ap not t))
    none_is None y e t = refl

    -- one of the two is wrong, and it is not the control byte
    pub request_action : (x y : Bool) → is_some code.service ≡ not y → (x || y) ≡ true → x ≡ false → Err (invalid_field action_bits) ≡ code_decides
    request_action true y e t f = absurd (true≢false f)
    request_action false y e t f = request_other (none_is code.service y e t)
