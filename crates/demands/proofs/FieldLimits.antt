-- The limits of the fields of a CDB, proved of `step`: a transfer or a WRITE SAME is refused for its count exactly where page B0h says so, an anchor
-- always, and what a page says is not there is not served.
-- Assumes nothing.
use mathlib.Core.Path.{◌≡◌, refl, sym, ap, ◌∙◌}
use mathlib.Core.Logic.Iff
use mathlib.Core.Logic.{◌↔◌, ◌≢◌}
use mathlib.Core.Bool.{Bool, false, not, ◌||◌, or-false, true≢false}
use mathlib.Core.List.{List, [], ◌∷◌}
use Prim.Native.Nat.{ℕ, ◌/◌, ◌%◌, ◌^◌, ◌≤◌, ◌<◌}
use native.Mathlib.Omega.{arith}
use borrow.Author.Tests.{ne_eqb, eq-eqb, leb-false}
use lib.Dec.{T, eqb, ltb, ltb→lt, lt→ltb}
use lib.ListN.{length}
use Rattle.std.specs.Prelude.{None}
use Rattle.fields.specs.Field.{byte, bit}
use Rattle.fields.specs.Bits.{number_in}
use Rattle.fields.proofs.Tests.{or_l, or_r, true→T, false→T}
use Rattle.answers.specs.Answers.{not_listed, number_of}
use Rattle.answers.specs.Order.{first, refuses}
use Rattle.answers.proofs.OrderLaws.{row_stop, next_refuses}
use Rattle.pool.specs.Bounds.{most_transfer}
use Rattle.forms.specs.declared.Move.{Move}
use Rattle.forms.specs.declared.Move.TheVariants.{WriteSame, Unmap}
use Rattle.forms.specs.Forms.{Entry, number, action, lines, entry_for, entry_of, count_in}
use Rattle.forms.specs.Tests.{is_unlisted, code_rows, is_set, not_zero, wrong_in, check_of}
use Rattle.forms.proofs.Table.{lists, lookup_skips}
use Rattle.forms.proofs.Fields.{tests_of}
use Rattle.store.specs.Store.{Store, Call}
use Rattle.store.specs.Step.{step}
use Rattle.store.proofs.Parts.{code_answer, from_code}
use Rattle.store.proofs.StoreLaws.{step_answer}
use Rattle.store.proofs.VitalLaws.{limits_told_law, provisioning_told}
use Rattle.demands.specs.Contents.{Asks, is_transfer}
use Rattle.demands.specs.Limits.{Reads, wsnz, compare_and_write_length, transfer_length, unmap_count, write_same_length, lbpws10, anc_sup, Fielded, Unprotected, AnchorRefused, Unserved}
use Rattle.demands.proofs.Fielded.{heard_call, size_is, move_rows_law, refused_exactly}
use Rattle.demands.proofs.Widths.{protection_in, field_rows_law}
use Rattle.demands.proofs.PagesRead.{limits_read, provisioning_read}

-- ---- counts

-- a byte 1 with nothing in its bits 7-5
unprotected : (c : Call) → Unprotected c → protection_in c.cdb ≡ false
unfolding protection_in not_zero number_in
unprotected c u =
    let small = leb-false 32 (byte 1 c.cdb) u in
    ap not (eq-eqb (byte 1 c.cdb / 2 ^ 5 % 2 ^ 3) 0 (omega arith))

-- the one test that is left
above : (b : Bool) (m n : ℕ) → b ≡ false → T (b || (ltb m n || false)) ↔ m < n
above b m n e = rw (e, or-false (ltb m n)) (ltb→lt m n, lt→ltb m n)

pub transfer_limit : (bs : List ℕ) → Reads step 0xB0 bs → (m : Move) → T (is_transfer m) → (s : Store) (c : Call) (a : Asks m c) → Fielded s c
    → Unprotected c → number_of (step s c).seen.answer ≡ 2 ↔ transfer_length bs < count_in a.request
unfolding transfer_length
transfer_limit bs r m t s c a f u =
    rw (limits_read bs r, limits_told_law.transfer)
    (Iff.trans (refused_exactly s c a f _ _ _ _ _ _ (field_rows_law m t c a)) (above (protection_in c.cdb) most_transfer (count_in a.request) (unprotected c u)))

module _ (bs : List ℕ) (r : Reads step 0xB0 bs) (s : Store) (c : Call) (a : Asks WriteSame c) (f : Fielded s c) (u : Unprotected c)
    (v : bit 4 (byte 1 c.cdb) ≡ false) where
  same_refused : number_of (step s c).seen.answer ≡ 2 ↔ T (eqb (count_in a.request) 0 || ltb most_transfer (count_in a.request))
  unfolding tests_of check_of wrong_in protection_in is_set number_in number bit
  same_refused = rw (unprotected c u, v, size_is a) at (refused_exactly s c a f _ _ _ _ _ _ (move_rows_law WriteSame c a))

  pub same_limit : 1 ≤ count_in a.request → number_of (step s c).seen.answer ≡ 2 ↔ write_same_length bs < count_in a.request
  unfolding write_same_length
  same_limit h =
      rw (limits_read bs r, limits_told_law.same)
      (Iff.trans (rw (ne_eqb (count_in a.request) 0 (omega arith)) at same_refused) (ltb→lt most_transfer _, lt→ltb most_transfer _))

  pub same_none_limit : count_in a.request ≡ 0 → number_of (step s c).seen.answer ≡ 2 ↔ T (wsnz bs)
  unfolding wsnz
  same_none_limit h = (
    λ _. true→T _ (ap wsnz (limits_read bs r) ∙ limits_told_law.not_zero_law),
    λ _. same_refused.1 (or_l (eqb (count_in a.request) 0) _ (true→T _ (eq-eqb _ _ h))),
  )

-- "FFFF_FFFFh unmap blocks (no limit)"
pub no_count_limit : (bs : List ℕ) → Reads step 0xB0 bs → unmap_count bs ≡ 0xFFFF_FFFF
unfolding unmap_count
no_count_limit bs r = ap unmap_count (limits_read bs r) ∙ limits_told_law.unmap

-- ---- anchors

pub anchor_refused : AnchorRefused step
unfolding tests_of check_of wrong_in is_set number_in bit protection_in
anchor_refused = record {
  unmap = λ s c a f t. (refused_exactly s c a f _ _ _ _ _ _ (move_rows_law Unmap c a)).1 (or_l (bit 0 (byte 1 c.cdb)) _ t);
  same = λ s c a f t. (refused_exactly s c a f _ _ _ _ _ _ (move_rows_law WriteSame c a)).1
      (or_r (protection_in c.cdb) _ (or_l (bit 4 (byte 1 c.cdb)) _ t));
}

pub anchors_told : (bs : List ℕ) → Reads step 0xB2 bs → T (not (anc_sup bs)) ↔ AnchorRefused step
unfolding anc_sup
anchors_told bs r = (λ _. anchor_refused, λ _. false→T _ (ap anc_sup (provisioning_read bs r) ∙ provisioning_told.anchors))

-- ---- what is not served

some_bytes : (l : List ℕ) → byte 0 l ≢ 0 → 1 ≤ length l
unfolding byte
some_bytes [] d = absurd (d refl)
some_bytes (x ∷ xs) d = omega arith

-- a code that no line has; 00h has one
module _ (code : ℕ) (h : lists code lines ≡ false) where
  not_ready : code ≢ 0
  unfolding lists lines
  not_ready e = true≢false (ap (λ (n : ℕ). lists n lines) (sym e) ∙ h)

  code_stops : (c : Call) → byte 0 c.cdb ≡ code → code_answer c ≡ not_listed
  unfolding entry_of entry_for code_rows is_unlisted
  code_stops c e =
      ap (λ (x : Entry). first (code_rows x)) (ap (λ (n : ℕ). entry_for n (action c.cdb)) e ∙ lookup_skips code (action c.cdb) None lines h)
      ∙ row_stop not_listed _ _ refl

  unserved : Unserved step code
  unfolding refuses
  unserved s c e k =
      step_answer s c
      ∙ from_code s c (heard_call s c k (some_bytes c.cdb (λ z. not_ready (sym e ∙ z)))) k.store
      ∙ rw (code_stops c e) (next_refuses not_listed _ tt)

pub no_write_same_10 : (bs : List ℕ) → Reads step 0xB2 bs → T (not (lbpws10 bs)) ↔ Unserved step 0x41
unfolding lbpws10 lists lines
no_write_same_10 bs r = (λ _. unserved 0x41 refl, λ _. false→T _ (ap lbpws10 (provisioning_read bs r) ∙ provisioning_told.by_same_10))

pub no_compare_and_write : (bs : List ℕ) → Reads step 0xB0 bs → compare_and_write_length bs ≡ 0 ↔ Unserved step 0x89
unfolding compare_and_write_length lists lines
no_compare_and_write bs r = (λ _. unserved 0x89 refl, λ _. ap compare_and_write_length (limits_read bs r) ∙ limits_told_law.compare)
