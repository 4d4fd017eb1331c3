-- The stages of tests before a command's own, as the code goes through them, and what they let pass.
-- Assumes nothing.
use mathlib.Core.Path.{◌≡◌, refl, sym, ap, ◌∙◌, subst}
use mathlib.Core.Bool.{Bool, true, false, not, ◌&&◌, ◌||◌}
use mathlib.Core.List.{List, ◌∷◌, ◌++◌}
use Prim.Native.Nat.{ℕ, ◌≤◌}
use native.Mathlib.Omega.{arith}
use borrow.Author.Tests.{eq-eqb, ne_eqb}
use lib.Dec.{T, eqb, eqb→eq}
use lib.ListN.{length}
use Rattle.std.specs.Prelude.{Some, None, Ok, Err}
use Rattle.fields.proofs.Tests.{by_equal}
use Rattle.answers.specs.declared.Refusal.{Refusal}
use Rattle.answers.specs.declared.Answer.{Answer}
use Rattle.answers.specs.declared.Answer.TheVariants.{Good, Refused, Conflict, Unusable}
use Rattle.answers.specs.Answers.{not_listed}
use Rattle.answers.specs.Order.{◌if◌, first, next, refuses, refusing}
use Rattle.answers.proofs.OrderLaws.{row_pass, row_stop, row_end, first_append, refusing_append, next_end, next_after, next_refuses, next_first, next_second, good_cases}
use Rattle.rights.specs.Attentions.{waiting_for, refusal_of}
use Rattle.forms.specs.declared.Code.{Code}
use Rattle.forms.specs.declared.Request.{Request}
use Rattle.forms.specs.Forms.{Entry, entry_of, Asked, nothing, asks, asked_by, asked_in}
use Rattle.forms.specs.Tests.{is_unlisted, code_rows, length_rows, check_rows, code_checks, checks_of, field_rows}
use Rattle.forms.proofs.Table.{long_rule, long_rule_law}
use Rattle.forms.proofs.Refusing.{code_refusing, length_refusing, field_refusing, unserved}
use Rattle.decoder.specs.Decoding.{Decoded, decoded}
use Rattle.decoder.proofs.DecodingLaws.{decoded_wrong, decoded_asks, asks_good, asks_this, wrong_this, wrong_refuses}
use Rattle.store.specs.declared.Unit.{Unit}
use Rattle.store.specs.Store.{waiting}
use Rattle.store.specs.Conflict.{conflict}
use Rattle.store.specs.Step.{is_inquiry, due, attention_rows, guard_rows, stage_rows}
use Rattle.store.proofs.Parts.{attention_refusing, guard_refusing, undue_passes, due_stops}
use Rattle.commands.specs.Served.{asked_at}

-- a listed code's CDBs have 1 to 16 bytes
long_some : (n : ℕ) → T (eqb n 6 || (eqb n 10 || eqb n 16)) → (1 ≤ n) × (n ≤ 16)
long_some n t =
    by_equal n 6 (λ b. T (b || (eqb n 10 || eqb n 16)) → (1 ≤ n) × (n ≤ 16)) (λ e _. (omega arith, omega arith))
    (λ _. by_equal n 10 (λ b. T (b || eqb n 16) → (1 ≤ n) × (n ≤ 16)) (λ e _. (omega arith, omega arith))
    (λ _ h. let e = eqb→eq n 16 h in (omega arith, omega arith))) t

long_in : (e : Entry) (code : Code) → T (long_rule e) → e ≡ Some code → (1 ≤ code.long) × (code.long ≤ 16)
unfolding long_rule
long_in e code t h = long_some code.long (subst (λ (x : Entry). T (long_rule x)) h t)

pub long_within : (cdb : List ℕ) (code : Code) → entry_of cdb ≡ Some code → (1 ≤ code.long) × (code.long ≤ 16)
long_within cdb code h = long_in (entry_of cdb) code (long_rule_law cdb) h

-- every row of the stages refuses
pub stage_refusing : (e : Entry) (u : Unit) (n : ℕ) (cdb : List ℕ) → T (refusing (stage_rows e u n cdb))
unfolding stage_rows
stage_refusing e u n cdb =
    refusing_append (code_rows e) _ (code_refusing e)
    (refusing_append (length_rows e cdb) _ (length_refusing e cdb)
    (refusing_append (attention_rows u n cdb) _ (attention_refusing u n cdb)
    (refusing_append (field_rows e cdb) _ (field_refusing e cdb) (guard_refusing (asked_in e cdb) u.rights n))))

-- ---- a code that is listed, with a CDB of its length

module _ (code : Code) (u : Unit) (n : ℕ) (cdb : List ℕ) where
  by_length : (b : Bool) → not (eqb (length cdb) code.long) ≡ b
      → first (stage_rows (Some code) u n cdb)
      ≡ first (Unusable if b ∷ (attention_rows u n cdb ++ (check_rows (code_checks code) cdb ++ guard_rows (asked_by code.service cdb) u.rights n)))
  unfolding stage_rows code_rows length_rows field_rows checks_of is_unlisted asked_in
  by_length b e = row_pass not_listed _ _ refl ∙ rw e

  from_attention : length cdb ≡ code.long
      → first (stage_rows (Some code) u n cdb)
      ≡ next (first (attention_rows u n cdb)) (first (check_rows (code_checks code) cdb ++ guard_rows (asked_by code.service cdb) u.rights n))
  from_attention e =
      by_length false (rw (eq-eqb _ _ e)) ∙ row_pass Unusable _ _ refl ∙ first_append (attention_rows u n cdb) _ (attention_refusing u n cdb)

  -- what waits is due
  at_attention : length cdb ≡ code.long → T (due u n cdb) → first (stage_rows (Some code) u n cdb) ≡ Refused (refusal_of (waiting u n))
  unfolding refuses
  at_attention e t =
      from_attention e
      ∙ ap (λ (a : Answer). next a (first (check_rows (code_checks code) cdb ++ guard_rows (asked_by code.service cdb) u.rights n))) (due_stops u n cdb t)
      ∙ next_refuses (Refused (refusal_of (waiting u n))) _ tt

  -- nothing is
  at_length : length cdb ≡ code.long → T (not (due u n cdb))
      → first (stage_rows (Some code) u n cdb) ≡ next (first (check_rows (code_checks code) cdb)) (first (guard_rows (asked_by code.service cdb) u.rights n))
  unfolding field_rows checks_of
  at_length e t =
      from_attention e ∙ next_after (first (attention_rows u n cdb)) _ (undue_passes u n cdb t)
      ∙ first_append (check_rows (code_checks code) cdb) _ (field_refusing (Some code) cdb)

-- what waits for the nexus is read from the record, and whether it is due from that and the CDB
module _ (u : Unit) (n x : ℕ) (e : x ≡ waiting_for n u.attentions) where
  pub is_due : (cdb : List ℕ) (b : Bool) → b ≡ (not (eqb x 0) && not (is_inquiry cdb)) → b ≡ due u n cdb
  unfolding due waiting
  is_due cdb b h = rw (← e) h

  pub refusal_is : (r : Refusal) → r ≡ refusal_of x → r ≡ refusal_of (waiting u n)
  unfolding waiting
  refusal_is r h = rw (← e) h

-- ---- what the code answers on its way

module _ (u : Unit) (n : ℕ) (cdb : List ℕ) where
  pub asked_unlisted : (e : Entry) → e ≡ None → Err not_listed ≡ asked_at e u n cdb
  unfolding asked_at stage_rows code_rows is_unlisted refuses
  asked_unlisted e h = rw h (decoded_wrong _ not_listed _ (row_stop not_listed _ _ refl) tt)

  module _ (e : Entry) (code : Code) (h : e ≡ Some code) where
    pub asked_length : (length cdb ≡ code.long → ⊥) → Err Unusable ≡ asked_at e u n cdb
    unfolding asked_at refuses
    asked_length k =
        rw h
        (decoded_wrong _ Unusable _ (by_length code u n cdb true (rw (ne_eqb _ _ k)) ∙ row_stop Unusable _ _ refl) tt)

    pub asked_attention : length cdb ≡ code.long → T (due u n cdb) → Err (Refused (refusal_of (waiting u n))) ≡ asked_at e u n cdb
    unfolding asked_at refuses
    asked_attention k t = rw h (decoded_wrong _ (Refused (refusal_of (waiting u n))) _ (at_attention code u n cdb k t) tt)

    module _ (k : length cdb ≡ code.long) (m : T (not (due u n cdb))) (d : Decoded) (g : d ≡ decoded (first (check_rows (code_checks code) cdb)) (asked_by code.service cdb)) where
      wrong_at : (x : Asked) (v a : Answer) → decoded v x ≡ Err a → Err a ≡ decoded (next v (first (guard_rows x u.rights n))) x
      unfolding guard_rows
      wrong_at nothing v a w = sym w ∙ ap (λ (b : Answer). decoded b nothing) (sym (ap (next v) row_end ∙ next_end v))
      wrong_at (asks q) v a w =
          sym w
          ∙ ap (λ (b : Answer). decoded b (asks q))
          (sym (next_refuses v _ (wrong_refuses v a (asks q) w (λ z. cc))))

      pub asked_wrong : (a : Answer) → d ≡ Err a → Err a ≡ asked_at e u n cdb
      unfolding asked_at asked_in
      asked_wrong a w =
          rw h
          (wrong_at (asked_by code.service cdb) (first (check_rows (code_checks code) cdb)) a (sym g ∙ w)
          ∙ ap (λ (b : Answer). decoded b (asked_by code.service cdb)) (sym (at_length code u n cdb k m)))

      module _ (q : Request) (w : d ≡ Ok q) where
        -- the guard alone is left
        guard_left : first (stage_rows (Some code) u n cdb) ≡ first (guard_rows (asks q) u.rights n)
        guard_left =
            at_length code u n cdb k m
            ∙ next_after _ _ (asks_good _ (asked_by code.service cdb) q (sym g ∙ w))
            ∙ ap (λ (x : Asked). first (guard_rows x u.rights n)) (asks_this _ (asked_by code.service cdb) q (sym g ∙ w))

        pub asked_conflict : conflict u.rights n q.command ≡ true → Err Conflict ≡ asked_at e u n cdb
        unfolding asked_at guard_rows refuses
        asked_conflict t = rw h (decoded_wrong _ Conflict _ (guard_left ∙ row_stop Conflict _ _ t) tt)

        pub asked_passes : conflict u.rights n q.command ≡ false → Ok q ≡ asked_at e u n cdb
        unfolding asked_at guard_rows asked_in
        asked_passes t =
            rw h
            (decoded_asks _ q (guard_left ∙ row_pass Conflict _ _ t ∙ row_end)
            ∙ ap (decoded (first (stage_rows (Some code) u n cdb))) (sym (asks_this _ (asked_by code.service cdb) q (sym g ∙ w))))

-- where the stages let pass, the code is listed and the fields are right
stage_code : (e : Entry) (u : Unit) (n : ℕ) (cdb : List ℕ) → first (stage_rows e u n cdb) ≡ Good → first (code_rows e) ≡ Good
unfolding stage_rows
stage_code e u n cdb g = next_first (first (code_rows e)) _ (sym (first_append (code_rows e) _ (code_refusing e)) ∙ g)

pub stage_fields : (e : Entry) (u : Unit) (n : ℕ) (cdb : List ℕ) → first (stage_rows e u n cdb) ≡ Good → first (field_rows e cdb) ≡ Good
unfolding stage_rows
stage_fields e u n cdb g =
    next_first (first (field_rows e cdb)) _
    (sym (first_append (field_rows e cdb) _ (field_refusing e cdb))
    ∙ next_second (first (attention_rows u n cdb)) _
    (sym (first_append (attention_rows u n cdb) _ (attention_refusing u n cdb))
    ∙ next_second (first (length_rows e cdb)) _
    (sym (first_append (length_rows e cdb) _ (length_refusing e cdb))
    ∙ next_second (first (code_rows e)) _ (sym (first_append (code_rows e) _ (code_refusing e)) ∙ g))))

-- ---- what is not served is refused

nothing_refused : (e : Entry) (u : Unit) (n : ℕ) (cdb : List ℕ) → asked_in e cdb ≡ nothing → T (refuses (first (stage_rows e u n cdb)))
nothing_refused e u n cdb h =
    good_cases (first (stage_rows e u n cdb)) (λ g. absurd (unserved e cdb h (stage_code e u n cdb g) (stage_fields e u n cdb g))) (λ t. t)

-- ---- what the stages say, read off what they let pass

module _ (e : Entry) (u : Unit) (n : ℕ) (cdb : List ℕ) where
  pub wrong_answer : (a : Answer) → asked_at e u n cdb ≡ Err a → first (stage_rows e u n cdb) ≡ a
  unfolding asked_at
  wrong_answer a w = wrong_this _ a (asked_in e cdb) w

  pub wrong_refused : (a : Answer) → asked_at e u n cdb ≡ Err a → T (refuses (first (stage_rows e u n cdb)))
  unfolding asked_at
  wrong_refused a w = wrong_refuses _ a (asked_in e cdb) w (nothing_refused e u n cdb)

  pub asks_answer : (q : Request) → asked_at e u n cdb ≡ Ok q → first (stage_rows e u n cdb) ≡ Good
  unfolding asked_at
  asks_answer q w = asks_good _ (asked_in e cdb) q w

  pub asks_request : (q : Request) → asked_at e u n cdb ≡ Ok q → asked_in e cdb ≡ asks q
  unfolding asked_at
  asks_request q w = asks_this _ (asked_in e cdb) q w
