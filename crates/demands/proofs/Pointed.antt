-- Answers 2 and 5 point at the field that is wrong, and no other answer does: read from sense as a host reads it.
-- Assumes nothing.
use mathlib.Core.Path.{◌≡◌, refl, sym, ap, ◌∙◌, subst}
use mathlib.Core.Logic.{◌≢◌}
use mathlib.Core.Bool.{Bool, true, false, not, true≢false}
use mathlib.Core.List.{List, [], ◌∷◌}
use Prim.Native.Nat.{ℕ, ◌+◌, ◌*◌, ◌-◌, ◌/◌, ◌%◌, ◌^◌, ◌≤◌, ◌<◌}
use native.Mathlib.Nat.{mod-eq_of_lt}
use native.Mathlib.Omega.{arith}
use borrow.Author.Tests.{eq-eqb, ne_eqb}
use lib.Dec.{T, lit<, eqb, leb, ltb, leb→le, ltb→lt}
use lib.ListN.{length}
use Rattle.std.specs.Prelude.{Some, None}
use Rattle.fields.specs.Field.{byte, bit, field}
use Rattle.fields.specs.Bits.{Bits, first_byte, top_bit, bit_count, AgreeIn}
use Rattle.fields.proofs.Tests.{and_l, and_r, true→T, false→T}
use Rattle.answers.specs.declared.Refusal.{Refusal}
use Rattle.answers.specs.declared.Refusal.TheVariants.{NotListed, InvalidField, OutOfRange, ListLength, ListField, NoPlace, OtherType, NoRoom, RegistrationsPreempted, ReservationsPreempted, ReservationsReleased}
use Rattle.answers.specs.declared.Answer.{Answer}
use Rattle.answers.specs.declared.Answer.TheVariants.{Good, Refused, Unusable}
use Rattle.answers.specs.Answers.{codes_of, number_of, not_listed, invalid_field, list_field}
use Rattle.answers.specs.Sense.{detail_of}
use Rattle.answers.specs.Order.{Row, ◌if◌, first, next, refuses, refusing, first_of, refusing_by}
use Rattle.answers.proofs.OrderLaws.{row_pass, row_end, next_after, next_refuses, next_refused, not_good}
use Rattle.forms.specs.declared.Code.{Code}
use Rattle.forms.specs.Forms.{Entry, entry_of, Asked, nothing, asks, asked_of}
use Rattle.forms.specs.Tests.{is_unlisted, code_rows, length_rows, field_rows}
use Rattle.forms.proofs.Refusing.{field_refusing}
use Rattle.store.specs.Store.{Store, Call, usable}
use Rattle.store.specs.Step.{call_rows, own_rows, step, answer_to}
use Rattle.store.proofs.Parts.{call_answer, store_answer, code_answer, length_answer, field_answer, guard_answer, own_answer, parts, from_fields, cleared, itself_cleared, attention_answer, undue_passes, entry_due, passes_undue}
use Rattle.store.proofs.StoreLaws.{step_answer}
use Rattle.commands.proofs.StageLaws.{long_within}
use Rattle.demands.specs.Contents.{by_itself, Quiet}
use Rattle.demands.specs.Limits.{Heard}
use Rattle.demands.specs.Pointed.{PointsAt, with_cdb, with_list, AreBytes, LiesIn, Pointed, Alike, Place, unplaced, placed, place_of, place_in}
use Rattle.demands.specs.SenseRead.{specific, sksv, command_data, bpv, bit_pointer, field_pointer}
use Rattle.demands.proofs.SenseRead.{mark_of, at_of, mark_read, place_read}
use Rattle.demands.proofs.SenseTold.{answer_is, format_is, sense_is}
use Rattle.demands.proofs.Fielded.{later, heard_call}
use Rattle.demands.proofs.Places.{places_true}
use Rattle.store.proofs.Rows.{first_is, field_each, own_refusing, fits, named_bytes, says}
use Rattle.demands.proofs.Answering.{AtFields, fields_decide, two_reaches, two_is, five_is}
use Rattle.demands.proofs.Named.{place_fits, field_fits, field_named, own_named, own_fits, nowhere_else, own_long}

-- ---- what a host reads

unfoldable is_placed : Place → Bool
is_placed unplaced = false
is_placed (placed at top n) = true

-- a refusal that names no place has none to tell
unmarked : (r : Refusal) → place_of r ≡ unplaced → (mark_of (detail_of r) ≡ 0) × (at_of (detail_of r) ≡ 0)
unfolding place_of detail_of mark_of at_of is_placed
unmarked NotListed e = (refl, refl)
unmarked (InvalidField at top n) e = absurd (true≢false (ap is_placed e))
unmarked (OutOfRange address) e = (refl, refl)
unmarked ListLength e = (refl, refl)
unmarked (ListField at top n) e = absurd (true≢false (ap is_placed e))
unmarked NoPlace e = (refl, refl)
unmarked OtherType e = (refl, refl)
unmarked (NoRoom address) e = (refl, refl)
unmarked RegistrationsPreempted e = (refl, refl)
unmarked ReservationsPreempted e = (refl, refl)
unmarked ReservationsReleased e = (refl, refl)

-- three bytes of which the first is 0, and the number in the others
nothing_there : (bs : List ℕ) → byte 0 bs ≡ 0 → field 1 2 bs ≡ 0 → field 0 3 bs ≡ 0
unfolding field
nothing_there bs m a = omega (arith, m, a)

bit_is : (k x digit : ℕ) → x / 2 ^ k % 2 ≡ digit → bit k x ≡ eqb digit 1
unfolding bit
bit_is k x digit e = ap (λ (d : ℕ). eqb d 1) e

-- `which` is bit 6 of the first byte
points_at : (which : ℕ) (b : Bits) (sense : List ℕ) → which < 2 → byte 0 (specific sense) ≡ 0x88 + 64 * which + top_bit b % 8
    → field 1 2 (specific sense) ≡ first_byte b % 0x1_0000 → top_bit b ≤ 7 → first_byte b < 0x1_0000 → PointsAt (eqb which 1) b sense
unfolding sksv command_data bpv bit_pointer field_pointer
points_at which b sense hw mark place ht ha = record {
  valid = bit_is 7 (byte 0 (specific sense)) 1 (omega arith);
  which = bit_is 6 (byte 0 (specific sense)) which (omega arith);
  bit_valid = bit_is 3 (byte 0 (specific sense)) 1 (omega arith);
  at_bit = omega arith;
  at_byte = place ∙ mod-eq_of_lt ha;
  reserved = omega arith;
}

-- a place that fits
module _ (long at top n : ℕ) (t : T (fits long at top n)) where
  fits_top : top ≤ 7
  unfolding fits
  fits_top = leb→le top 7 (and_l (leb top 7) _ t)

  fits_sense : at < 0x1_0000
  unfolding fits
  fits_sense = ltb→lt at 0x1_0000 (and_l (ltb at 0x1_0000) _ (and_r (leb top 7) _ t))

  fits_lies : 8 * at + (7 - top) + n ≤ 8 * long
  unfolding fits
  fits_lies = leb→le (8 * at + (7 - top) + n) (8 * long) (and_r (ltb at 0x1_0000) _ (and_r (leb top 7) _ t))

-- ---- answer 2

says_of : (n : ℕ) (a : Answer) → number_of a ≡ n → T (says n a)
unfolding says
says_of n a e = true→T _ (eq-eqb (number_of a) n e)

says_not : (n : ℕ) (a : Answer) → number_of a ≢ n → T (not (says n a))
unfolding says
says_not n a d = false→T _ (ne_eqb (number_of a) n d)

module _ (s : Store) (c : Call) where
  -- a number of what is seen is one of the answer
  pub says_seen : (n : ℕ) → number_of (step s c).seen.answer ≡ n → T (says n (answer_to s c))
  says_seen n e = says_of n (answer_to s c) (ap number_of (sym (step_answer s c)) ∙ e)

  first_in_cdb : number_of (step s c).seen.answer ≡ 2 → (step s c).seen.answer ≡ first (field_rows (entry_of c.cdb) c.cdb)
  first_in_cdb e = step_answer s c ∙ two_is s c (says_seen 2 e)

  cdb_named : number_of (step s c).seen.answer ≡ 2 → (b : Bits) × ((step s c).seen.answer ≡ invalid_field b)
  cdb_named e =
      let named = field_named c.cdb (rw (two_is s c (says_seen 2 e)) at (says_seen 2 e)) in
      (named.0, first_in_cdb e ∙ named.1)

  module _ (b : Bits) (e : (step s c).seen.answer ≡ invalid_field b) where
    says_two : T (says 2 (answer_to s c))
    unfolding number_of codes_of
    says_two = says_seen 2 (ap number_of e)

    field_is : field_answer c ≡ invalid_field b
    field_is = sym (two_is s c says_two) ∙ answer_is s c _ e

    cdb_fits : T (fits (length c.cdb) (first_byte b) (top_bit b) (bit_count b))
    unfolding place_fits place_in place_of
    cdb_fits = subst (λ (a : Answer). T (place_fits (length c.cdb) (place_in a))) field_is (field_fits c.cdb (two_reaches s c says_two).reached.length)

    cdb_there : LiesIn b (length c.cdb)
    cdb_there = fits_lies _ _ _ _ cdb_fits

    cdb_told : PointsAt true b (step s c).seen.sense
    unfolding detail_of mark_of at_of
    cdb_told =
        rw (sense_is s c _ e)
        (points_at 1 b _ (lit< tt) (mark_read _ _ _ (format_is s c _ e)) (place_read _ _ _ (format_is s c _ e)) (fits_top _ _ _ _ cdb_fits) (fits_sense _ _ _ _ cdb_fits))

-- ---- answer 5

module _ (s : Store) (c : Call) where
  first_in_list : number_of (step s c).seen.answer ≡ 5 → (step s c).seen.answer ≡ first (own_rows (asked_of c.cdb) s c)
  first_in_list e = step_answer s c ∙ five_is s c (says_seen s c 5 e)

  list_named : number_of (step s c).seen.answer ≡ 5 → (b : Bits) × ((step s c).seen.answer ≡ list_field b)
  list_named e =
      let named = own_named (asked_of c.cdb) s c (rw (five_is s c (says_seen s c 5 e)) at (says_seen s c 5 e)) in
      (named.0, first_in_list e ∙ named.1)

  module _ (b : Bits) (e : (step s c).seen.answer ≡ list_field b) where
    says_five : T (says 5 (answer_to s c))
    unfolding number_of codes_of
    says_five = says_seen s c 5 (ap number_of e)

    own_is : own_answer s c ≡ list_field b
    own_is = sym (five_is s c says_five) ∙ answer_is s c _ e

    list_fits : T (fits named_bytes (first_byte b) (top_bit b) (bit_count b))
    unfolding place_fits place_in place_of
    list_fits = subst (λ (a : Answer). T (place_fits named_bytes (place_in a))) own_is (own_fits (asked_of c.cdb) s c)

    list_there : LiesIn b (length c.data_out)
    list_there =
        omega (arith, fits_lies _ _ _ _ list_fits, own_long (asked_of c.cdb) s c (rw (five_is s c says_five) at says_five))

    list_told_law : PointsAt false b (step s c).seen.sense
    unfolding detail_of mark_of at_of
    list_told_law =
        rw (sense_is s c _ e)
        (points_at 0 b _ (lit< tt) (mark_read _ _ _ (format_is s c _ e)) (place_read _ _ _ (format_is s c _ e)) (fits_top _ _ _ _ list_fits) (fits_sense _ _ _ _ list_fits))

-- ---- who leaves the field as it is

-- rows alike: where one names a field in which the lists agree, some row holds for the other list too
module _ (named : Bits → Answer) (l m : List ℕ) (p : Bits) (names : T (refuses (named p))) (g : AgreeIn p l m) where
  some_holds : (xs ys : List Row) → Alike named l m xs ys → T (refusing ys) → first xs ≡ named p → T (refuses (first ys))
  unfolding Alike refusing_by first_of
  some_holds [] [] h r e = not_good (named p) names (sym e)
  some_holds [] (y ∷ ys) h r e = absurd h
  some_holds (x ∷ xs) [] h r e = absurd h
  some_holds ((a if true) ∷ xs) ((b if true) ∷ ys) h r e = and_l (refuses b) (refusing ys) r
  some_holds ((a if true) ∷ xs) ((b if false) ∷ ys) h r e = absurd (true≢false (h.2 p e g))
  some_holds ((a if false) ∷ xs) ((b if true) ∷ ys) h r e = and_l (refuses b) (refusing ys) r
  some_holds ((a if false) ∷ xs) ((b if false) ∷ ys) h r e = some_holds xs ys h.3 (and_r (refuses b) (refusing ys) r) e

-- the fields refuse with 2 alone
fields_two : (cdb : List ℕ) → T (refuses (first (field_rows (entry_of cdb) cdb))) → number_of (first (field_rows (entry_of cdb) cdb)) ≡ 2
unfolding refuses number_of codes_of
fields_two cdb =
    first_is (λ a. T (refuses a) → number_of a ≡ 2) (field_rows (entry_of cdb) cdb) (λ h. absurd h) (field_each _ (entry_of cdb) cdb (λ b h. refl))

-- a CDB of the same length and command comes as far as its fields
length_same : (e : Entry) (l m : List ℕ) → length m ≡ length l → length_rows e l ≡ length_rows e m
unfolding length_rows
length_same (Some code) l m long = rw long
length_same None l m long = refl

call_same : (format : ℕ) (c : Call) (cdb : List ℕ) → length cdb ≡ length c.cdb → call_rows format c ≡ call_rows format (with_cdb c cdb)
unfolding call_rows
call_same format c cdb long = rw long

also_reaches : (s : Store) (c : Call) (cdb : List ℕ) → length cdb ≡ length c.cdb → entry_of c.cdb ≡ entry_of cdb → AtFields s c → AtFields s (with_cdb c cdb)
also_reaches s c cdb long same f =
    let p = f.reached in
    record {
      reached = record {
        call = ap first (sym (call_same s.format c cdb long)) ∙ p.call;
        store = p.store;
        code = ap (λ (x : Entry). first (code_rows x)) (sym same) ∙ p.code;
        length = ap first (sym (length_same (entry_of cdb) c.cdb cdb long)) ∙ ap (λ (x : Entry). first (length_rows x c.cdb)) (sym same) ∙ p.length;
      };
      attention =
          undue_passes s.unit c.nexus cdb
          (subst (λ (b : Bool). T (not b)) (entry_due s.unit c.nexus c.cdb cdb same) (passes_undue s.unit c.nexus c.cdb f.attention));
    }

cdb_stays : (s : Store) (c : Call) (b : Bits) → (step s c).seen.answer ≡ invalid_field b
    → (cdb : List ℕ) → AreBytes c.cdb → AreBytes cdb → length cdb ≡ length c.cdb
    → entry_of cdb ≡ entry_of c.cdb → AgreeIn b c.cdb cdb
    → number_of (step s (with_cdb c cdb)).seen.answer ≡ 2
unfolding refuses
cdb_stays s c b e cdb hl hm long entry g =
    let same = sym entry in
    let refused = some_holds invalid_field c.cdb cdb b tt g _ _ (places_true.cdb c.cdb cdb hl hm same) (field_refusing (entry_of cdb) cdb) (field_is s c b e) in
    ap number_of (step_answer s (with_cdb c cdb) ∙ fields_decide s (with_cdb c cdb) (also_reaches s c cdb long same (two_reaches s c (says_two s c b e)))
    ∙ next_refuses (field_answer (with_cdb c cdb)) _ refused)
    ∙ fields_two cdb refused

-- what a command's own tests refuse is refused
own_refused : (s : Store) (c : Call) → T (refuses (own_answer s c)) → T (refuses (answer_to s c))
own_refused s c t =
    rw (parts s c)
    (next_refused (call_answer s.format c) _ (next_refused (store_answer s) _ (next_refused (code_answer c) _ (next_refused (length_answer c) _
    (next_refused (attention_answer s.unit c) _ (next_refused (field_answer c) _ (next_refused (guard_answer s.unit c) _ t)))))))

own_stays : (x : Asked) (s : Store) (c : Call) (b : Bits) → first (own_rows x s c) ≡ list_field b
    → (list : List ℕ) → AreBytes c.data_out → AreBytes list → AgreeIn b c.data_out list
    → T (refuses (first (own_rows x s (with_list c list))))
unfolding refuses own_rows first_of
own_stays nothing s c b e list hl hm g = not_good (list_field b) tt (sym e)
own_stays (asks q) s c b e list hl hm g =
    some_holds list_field c.data_out list b tt g _ _ (places_true.list q s c list hl hm) (own_refusing (asks q) s (with_list c list)) e

list_stays : (s : Store) (c : Call) (b : Bits) → (step s c).seen.answer ≡ list_field b
    → (list : List ℕ) → AreBytes c.data_out → AreBytes list → AgreeIn b c.data_out list
    → T (refuses (step s (with_list c list)).seen.answer)
list_stays s c b e list hl hm g =
    rw (step_answer s (with_list c list))
    (own_refused s (with_list c list) (own_stays (asked_of c.cdb) s c b (own_is s c b e) list hl hm g))

-- ---- the others

nowhere : (s : Store) (c : Call) (x : Refusal) → (step s c).seen.answer ≡ Refused x
    → number_of (step s c).seen.answer ≢ 2 → number_of (step s c).seen.answer ≢ 5 → field 0 3 (specific (step s c).seen.sense) ≡ 0
unfolding place_in
nowhere s c x e d f =
    let bare = unmarked x (ap place_in (sym (answer_is s c x e)) ∙ nowhere_else s c (says_not 2 _ (rw (step_answer s c) at d)) (says_not 5 _ (rw (step_answer s c) at f))) in
    rw (sense_is s c x e)
    (nothing_there _ (mark_read _ _ _ (format_is s c x e) ∙ bare.0) (place_read _ _ _ (format_is s c x e) ∙ ap (λ (n : ℕ). n % 0x1_0000) bare.1))

-- ---- what is wrong is told

module _ (s : Store) (c : Call) (h : Heard s c) (code : Code) (e : entry_of c.cdb ≡ Some code) (l : length c.cdb ≡ code.long)
    (d : Quiet s c) where
  code_passes : code_answer c ≡ Good
  unfolding code_rows is_unlisted
  code_passes = rw e (row_pass not_listed _ _ refl ∙ row_end)

  length_passes : length_answer c ≡ Good
  unfolding length_rows
  length_passes = rw e (row_pass Unusable _ _ (ap not (eq-eqb _ _ l)) ∙ row_end)

  some_byte : 1 ≤ length c.cdb
  some_byte = let least = (long_within c.cdb code e).0 in omega arith

  cdb_due : (b : Bits) → field_answer c ≡ invalid_field b → (step s c).seen.answer ≡ invalid_field b
  unfolding refuses
  cdb_due b w =
      step_answer s c ∙ from_fields s c (heard_call s c h some_byte) h.store code_passes length_passes (undue_passes s.unit c.nexus c.cdb d)
      ∙ ap (λ (a : Answer). next a (later s c)) w ∙ next_refuses (invalid_field b) (later s c) tt

list_due : (s : Store) (c : Call) → T (usable s) → by_itself s.format c ≡ Good → Quiet s c → guard_answer s.unit c ≡ Good → (b : Bits) → own_answer s c ≡ list_field b
    → (step s c).seen.answer ≡ list_field b
unfolding by_itself
list_due s c u right d free b w =
    step_answer s c ∙ cleared s c (itself_cleared s c u d right) ∙ next_after (guard_answer s.unit c) (own_answer s c) free ∙ w

pub pointed : Pointed step
pointed = record {
  first_in_cdb = first_in_cdb;
  first_in_list = first_in_list;
  cdb_due = cdb_due;
  list_due = list_due;
  cdb_named = cdb_named;
  list_named = list_named;
  cdb_told = cdb_told;
  list_told_law = list_told_law;
  cdb_there = cdb_there;
  list_there = list_there;
  cdb_stays = cdb_stays;
  list_stays = list_stays;
  nowhere = nowhere;
}
