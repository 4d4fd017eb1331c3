-- The pages that INQUIRY serves, proved of `step`: what a host reads of a page is the page, each says which it is, and page 00h lists exactly those
-- that are served.
-- Assumes nothing.
use mathlib.Core.Path.{◌≡◌, refl, sym, ap, ◌∙◌, subst}
use mathlib.Core.Logic.{◌↔◌}
use mathlib.Core.Bool.{Bool, true, false, not, or-false}
use mathlib.Core.List.{List, ◌∷◌}
use Prim.Native.Nat.{ℕ, ◌+◌, ◌/◌, ◌%◌, ◌^◌, ◌≤◌, ◌<◌}
use native.Mathlib.Omega.{arith}
use borrow.Author.Tests.{le-ltb, leb-true, leb-false}
use lib.Dec.{T, leb}
use lib.ListN.{length, take, length-take}
use lib.Seq.{take_all, get_or-take}
use Rattle.std.specs.Prelude.{None}
use Rattle.fields.specs.Field.{field, byte, bit}
use Rattle.fields.specs.Bits.{number_in}
use Rattle.fields.proofs.BitsLaws.{one_byte}
use Rattle.fields.proofs.Tests.{not_not, not_not_intro, T_false, false→T}
use Rattle.answers.specs.declared.Answer.TheVariants.{Good, Conflict, Short}
use Rattle.answers.specs.Answers.{invalid_field, number_of}
use Rattle.answers.specs.Order.{◌if◌, first, refuses}
use Rattle.answers.proofs.OrderLaws.{row_pass, row_end, row_fails, rows_after, next_after}
use Rattle.rights.specs.Rights.{is_one_of}
use Rattle.forms.specs.declared.Tell.TheVariants.{VitalData}
use Rattle.forms.specs.declared.Command.TheVariants.{Tells}
use Rattle.forms.specs.declared.Test.TheVariants.{Nothing, VitalPage}
use Rattle.forms.specs.Forms.{Entry, form, two, page_bits, bytes_of, span_bits, number, action, entry_of, request_by, asked_by, asked_in, asked_of}
use Rattle.forms.specs.Tests.{pages, is_set, wrong_in, check_rows, check_of, test_checks, service_checks, code_checks, checks_of, field_rows}
use Rattle.forms.proofs.Table.{inquiry_entry, inquiry_entry_law}
use Rattle.store.specs.Store.{Store, Call}
use Rattle.store.specs.Tell.{told, tell_rows}
use Rattle.store.specs.Vital.{limits_page, provisioning_page, vital_data}
use Rattle.store.specs.Step.{guard_rows, command_rows, own_rows, step}
use Rattle.store.proofs.ConflictLaws.{telling_passes}
use Rattle.store.proofs.Parts.{guard_answer, own_answer, good_cleared}
use Rattle.store.proofs.StoreLaws.{step_answer}
use Rattle.store.proofs.VitalLaws.{page_named, page_whole, page_fits, pages_told}
use Rattle.demands.specs.Contents.{AsksFor, IsGood, long_of, control}
use Rattle.demands.specs.Limits.{AsksPage, returned_by, Reads, page_codes, Fielded}
use Rattle.demands.proofs.Telling.{returned_told}
use Rattle.demands.proofs.Fielded.{naca_bits, three_rows, nowhere, refused_exactly, fields_pass}

-- ---- an INQUIRY for a page, by the table

-- the action is the lower bits of byte 1, and has the same bit 0
odd_action : (cdb : List ℕ) → bit 0 (action cdb) ≡ bit 0 (byte 1 cdb)
unfolding action number_in bit
odd_action cdb =
    let n = byte 1 cdb in
    let e : n / 2 ^ 0 % 2 ^ 5 / 2 ^ 0 % 2 ≡ n / 2 ^ 0 % 2 = omega arith in
    rw e

module _ (code : ℕ) (c : Call) (a : AsksPage code c) where
  page_entry : entry_of c.cdb ≡ inquiry_entry VitalData VitalPage
  unfolding entry_of
  page_entry = rw a.inquiry (inquiry_entry_law (action c.cdb) ∙ rw (odd_action c.cdb ∙ a.vital))

  pub asks_vital : AsksFor (Tells VitalData) c
  unfolding asked_of asked_in asked_by request_by
  asks_vital = record {
    request = request_by (form (Tells VitalData) None (two 3) VitalPage Nothing) c.cdb;
    is = ap (λ (e : Entry). asked_in e c.cdb) page_entry;
    command = refl;
  }

  -- byte 2 is a number of one byte
  page_is : number_in page_bits c.cdb ≡ code
  page_is = one_byte 2 c.cdb ∙ a.page

  page_told : (s : Store) → told VitalData asks_vital.request s.unit ≡ take (field 3 2 c.cdb) (vital_data code)
  unfolding asks_vital request_by number span_bits bytes_of number_in told
  page_told s = rw page_is

  page_fields : field_rows (entry_of c.cdb) c.cdb
      ≡ invalid_field (naca_bits c) if bit 2 (control c) ∷ three_rows page_bits nowhere nowhere (not (is_one_of code pages)) false false
  unfolding field_rows checks_of code_checks service_checks test_checks check_rows wrong_in check_of is_set number_in bit long_of
  page_fields = rw (page_entry, page_is)

  -- a page that is returned is listed
  page_listed : (s : Store) → IsGood s c → T (is_one_of code pages)
  unfolding refuses
  page_listed s g =
      not_not (is_one_of code pages) (false→T _ (row_fails (invalid_field page_bits) _ _ tt (rows_after (invalid_field (naca_bits c)) _ _ tt
      (ap first (sym page_fields) ∙ (good_cleared s c (sym (step_answer s c) ∙ g)).fields))))

-- ---- what is returned

page_returned : (code : ℕ) (s : Store) (c : Call) → AsksPage code c → IsGood s c → returned_by step s c ≡ take (field 3 2 c.cdb) (vital_data code)
page_returned code s c a g = returned_told VitalData s c (asks_vital code c a) g ∙ page_told code c a s

-- a page is cut only where it has fewer bytes than it says
field_cut : (n : ℕ) (p : List ℕ) → 4 ≤ n → field 2 2 (take n p) ≡ field 2 2 p
unfolding field byte
field_cut n p h =
    let h₂ : 2 < n = omega arith in
    let h₃ : 3 < n = omega arith in
    rw (get_or-take n p 2 0, get_or-take n p 3 0)

cut_whole : (n : ℕ) (p : List ℕ) → 4 + field 2 2 p ≡ length p → 4 + field 2 2 (take n p) ≤ length (take n p) → take n p ≡ p
cut_whole n p l h = go (leb (length p) n) refl
  where
    go : (b : Bool) → leb (length p) n ≡ b → take n p ≡ p
    go true e = take_all n p (leb-true _ _ e)
    go false e =
        let k = leb-false (length p) n e in
        let m = length-take n p in
        let f = field_cut n p (omega arith) in
        absurd (omega arith)

pub page_read : (code : ℕ) (bs : List ℕ) → Reads step code bs → bs ≡ vital_data code
page_read code bs r =
    let cut = sym r.returned ∙ page_returned code r.store r.call r.asks r.good in
    cut ∙ cut_whole (field 3 2 r.call.cdb) (vital_data code) (page_whole code (page_listed code r.call r.asks r.store r.good))
    (subst (λ (l : List ℕ). 4 + field 2 2 l ≤ length l) cut r.whole)

pub limits_read : (bs : List ℕ) → Reads step 0xB0 bs → bs ≡ limits_page
unfolding vital_data
limits_read bs r = page_read 0xB0 bs r

pub provisioning_read : (bs : List ℕ) → Reads step 0xB2 bs → bs ≡ provisioning_page
unfolding vital_data
provisioning_read bs r = page_read 0xB2 bs r

-- ---- which pages are served

pub pages_named : (bs : List ℕ) (code : ℕ) → Reads step code bs → byte 1 bs ≡ code
pages_named bs code r = ap (byte 1) (page_read code bs r) ∙ page_named code (page_listed code r.call r.asks r.store r.good)

module _ (s : Store) (c : Call) (code : ℕ) (a : AsksPage code c) (f : Fielded s c) where
  page_refused : number_of (step s c).seen.answer ≡ 2 ↔ T (not (is_one_of code pages))
  page_refused =
      rw (or-false (not (is_one_of code pages))) at
      (refused_exactly s c (asks_vital code c a) f page_bits nowhere nowhere (not (is_one_of code pages)) false false (page_fields code c a))

  -- the guard lets commands that tell pass, and there is room
  guard_passes : guard_answer s.unit c ≡ Good
  unfolding guard_rows
  guard_passes =
      let w = asks_vital code c a in
      rw (w.is, w.command) (row_pass Conflict _ _ (telling_passes s.unit.rights c.nexus VitalData) ∙ row_end)

  module _ (listed : T (is_one_of code pages)) (room : field 3 2 c.cdb ≤ length c.data_in) where
    own_passes : own_answer s c ≡ Good
    unfolding own_rows command_rows tell_rows
    own_passes =
        let w = asks_vital code c a in
        let l = ap length (page_told code c a s) ∙ length-take (field 3 2 c.cdb) (vital_data code) in
        rw (w.is, w.command) (row_pass Short _ _ (le-ltb (length c.data_in) (length (told VitalData w.request s.unit)) (omega arith)) ∙ row_end)

    page_good : IsGood s c
    page_good =
        fields_pass s c (asks_vital code c a) f page_bits nowhere nowhere (not (is_one_of code pages)) false false (page_fields code c a)
        (T_false _ (not_not_intro (is_one_of code pages) listed)) refl refl
        ∙ next_after (guard_answer s.unit c) _ guard_passes ∙ own_passes

    -- no law of what is read is empty: a host that asks for enough reads the page
    pub page_readable : 64 ≤ field 3 2 c.cdb → Reads step code (returned_by step s c)
    page_readable h =
        let fits = page_fits code listed in
        let all : returned_by step s c ≡ vital_data code =
        page_returned code s c a page_good ∙ take_all (field 3 2 c.cdb) (vital_data code) (omega arith) in
        record {
          store = s;
          call = c;
          asks = a;
          good = page_good;
          returned = refl;
          whole = rw all (let e = page_whole code listed in omega arith);
        }

-- ---- as page 00h lists them

codes_read : (bs : List ℕ) → Reads step 0x00 bs → page_codes bs ≡ pages
unfolding page_codes vital_data
codes_read bs r = ap page_codes (page_read 0x00 bs r) ∙ pages_told

pub pages_unlisted : (bs : List ℕ) → Reads step 0x00 bs → (s : Store) (c : Call) (code : ℕ) → AsksPage code c → Fielded s c
    → number_of (step s c).seen.answer ≡ 2 ↔ T (not (is_one_of code (page_codes bs)))
pages_unlisted bs r s c code a f = rw (codes_read bs r) (page_refused s c code a f)

pub pages_served : (bs : List ℕ) → Reads step 0x00 bs → (s : Store) (c : Call) (code : ℕ) → AsksPage code c → Fielded s c
    → T (is_one_of code (page_codes bs)) → field 3 2 c.cdb ≤ length c.data_in → IsGood s c
pages_served bs r s c code a f t h = page_good s c code a f (rw (codes_read bs r) at t) h
