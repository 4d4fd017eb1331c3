-- Which stage of the order an answer comes of: 2 of the fields alone, 13 of what waits alone, 3, 5 and 8 of a command's own tests alone.
-- Assumes nothing.
use mathlib.Core.Path.{◌≡◌, refl, ap, ◌∙◌, subst}
use mathlib.Core.Bool.{Bool, true, false, not, cond}
use Prim.Native.Nat.{ℕ}
use lib.Dec.{T, T_not, eqb}
use Rattle.fields.specs.Bits.{Bits}
use Rattle.fields.proofs.Tests.{test}
use Rattle.answers.specs.declared.Refusal.TheVariants.{RegistrationsPreempted, ReservationsPreempted, ReservationsReleased}
use Rattle.answers.specs.declared.Answer.{Answer}
use Rattle.answers.specs.declared.Answer.TheVariants.{Good, Refused, Conflict, Unusable}
use Rattle.answers.specs.Answers.{codes_of, number_of, not_listed, invalid_field}
use Rattle.answers.specs.Order.{first, next, refuses}
use Rattle.answers.proofs.OrderLaws.{next_after, next_refuses, good_cases}
use Rattle.rights.specs.Attentions.{refusal_of}
use Rattle.forms.specs.Forms.{entry_of, Asked, asked_of}
use Rattle.store.specs.Store.{Store, Call, usable, waiting}
use Rattle.store.specs.Step.{due, own_rows, answer_to}
use Rattle.store.proofs.Parts.{Righted, call_answer, store_answer, code_answer, length_answer, attention_answer, field_answer, guard_answer, own_answer, parts, from_attention, from_fields, passes_usable, undue_passes, due_stops}
use Rattle.store.proofs.Rows.{next_is, none, call_each, store_each, code_each, length_each, attention_each, guard_each, field_each, own_each, says}

-- ---- a command's own tests never answer 2

own_not_two : (x : Asked) (s : Store) (c : Call) → T (not (says 2 (first (own_rows x s c))))
unfolding says number_of codes_of
own_not_two x s c = none (says 2) _ tt (own_each _ (record { short = tt; conflict = tt; nowhere = λ r t u v. t; named = λ b t. tt }) x s c)

-- ---- one number, and which stage answers it

-- what is answered behind the fields
abbrev pub later : Store → Call → Answer
later s c = next (guard_answer s.unit c) (own_answer s c)

-- and from the code on
abbrev staged : Store → Call → Answer
staged s c = next (code_answer c) (next (length_answer c) (next (attention_answer s.unit c) (next (field_answer c) (later s c))))

-- the call comes as far as what waits for its sender
pub record AtAttention (s : Store) (c : Call) : Type 0 where
  pub call : call_answer s.format c ≡ Good
  pub store : T (usable s)
  pub code : code_answer c ≡ Good
  pub length : length_answer c ≡ Good

pub attention_decides : (s : Store) (c : Call) → AtAttention s c → answer_to s c ≡ next (attention_answer s.unit c) (next (field_answer c) (later s c))
attention_decides s c f = from_attention s c f.call f.store f.code f.length

-- and as far as its fields
pub record AtFields (s : Store) (c : Call) : Type 0 where
  pub reached : AtAttention s c
  pub attention : attention_answer s.unit c ≡ Good

pub fields_decide : (s : Store) (c : Call) → AtFields s c → answer_to s c ≡ next (field_answer c) (later s c)
fields_decide s c f =
    let p = f.reached in
    from_fields s c p.call p.store p.code p.length f.attention

module _ (P : Answer → Bool) where
  -- a stage that has none of them was passed
  past : (a b : Answer) → T (not (P a)) → T (P (next a b)) → (a ≡ Good) × T (P b)
  past a b n t =
      good_cases a (λ g. (g, rw (next_after a b g) at t)) (λ r. absurd (T_not (P a) n (rw (next_refuses a b r) at t)))

  -- and where what is behind has none of them, it was this stage
  behind : (a b : Answer) → T (not (P b)) → T (P (next a b)) → next a b ≡ a
  behind a b n t =
      good_cases a (λ g. absurd (T_not (P b) n (rw (next_after a b g) at t))) (λ r. next_refuses a b r)

  module _ (good : T (not (P Good))) (unusable : T (not (P Unusable))) (s : Store) (c : Call) (h : T (P (answer_to s c))) where
    past_call : (call_answer s.format c ≡ Good) × T (P (next (store_answer s) (staged s c)))
    past_call = past (call_answer s.format c) _ (none P _ good (call_each _ s.format c unusable)) (rw (parts s c) at h)

    pub at_call : call_answer s.format c ≡ Good
    at_call = past_call.0

    past_store : (store_answer s ≡ Good) × T (P (staged s c))
    past_store = past (store_answer s) _ (none P _ good (store_each _ s unusable)) past_call.1

    pub at_store : T (usable s)
    at_store = passes_usable s past_store.0

    module _ (unlisted : T (not (P not_listed))) where
      past_code : (code_answer c ≡ Good) × T (P (next (length_answer c) (next (attention_answer s.unit c) (next (field_answer c) (later s c)))))
      past_code = past (code_answer c) _ (none P _ good (code_each _ (entry_of c.cdb) unlisted)) past_store.1

      past_length : (length_answer c ≡ Good) × T (P (next (attention_answer s.unit c) (next (field_answer c) (later s c))))
      past_length = past (length_answer c) _ (none P _ good (length_each _ (entry_of c.cdb) c.cdb unusable)) past_code.1

      pub at_attention : AtAttention s c
      at_attention = record { call = at_call; store = at_store; code = past_code.0; length = past_length.0 }

      pub at_fields : ((x : ℕ) → T (not (P (Refused (refusal_of x))))) → AtFields s c
      at_fields untold = record {
        reached = at_attention;
        attention = (past (attention_answer s.unit c) _ (none P _ good (attention_each _ s.unit c.nexus c.cdb untold)) past_length.1).0;
      }

-- what waits is returned by 13, and by no other number
pub untold : (n : ℕ) → T (not (says n (Refused RegistrationsPreempted))) → T (not (says n (Refused ReservationsPreempted)))
    → T (not (says n (Refused ReservationsReleased))) → (x : ℕ) → T (not (says n (Refused (refusal_of x))))
unfolding refusal_of
untold n p q r x = go (eqb x 1) (eqb x 2)
  where
    go : (b d : Bool) → T (not (says n (Refused (cond b RegistrationsPreempted (cond d ReservationsPreempted ReservationsReleased)))))
    go true d = p
    go false true = q
    go false false = r

pub told_number : (x : ℕ) → number_of (Refused (refusal_of x)) ≡ 13
unfolding refusal_of number_of codes_of
told_number x = go (eqb x 1) (eqb x 2)
  where
    go : (b d : Bool) → number_of (Refused (cond b RegistrationsPreempted (cond d ReservationsPreempted ReservationsReleased))) ≡ 13
    go true d = refl
    go false true = refl
    go false false = refl

-- ---- 2

module _ (s : Store) (c : Call) (h : T (says 2 (answer_to s c))) where
  pub two_reaches : AtFields s c
  unfolding says number_of codes_of
  two_reaches = at_fields (says 2) tt tt s c h tt (untold 2 tt tt tt)

  later_not_two : T (not (says 2 (later s c)))
  unfolding says number_of
  later_not_two =
      next_is (λ a. T (not (says 2 a))) (guard_answer s.unit c) (own_answer s c)
      (none (says 2) _ tt (guard_each _ (asked_of c.cdb) s.unit.rights c.nexus tt))
      (own_not_two (asked_of c.cdb) s c)

  -- it is the answer of the fields
  pub two_is : answer_to s c ≡ field_answer c
  two_is =
      fields_decide s c two_reaches
      ∙ behind (says 2) (field_answer c) (later s c) later_not_two (rw (fields_decide s c two_reaches) at h)

-- ---- 3, 5 and 8: numbers that only a command's own tests answer

pub record OwnNumber (n : ℕ) : Type 0 where
  pub good : T (not (says n Good))
  pub unusable : T (not (says n Unusable))
  pub unlisted : T (not (says n not_listed))
  pub field : (b : Bits) → T (not (says n (invalid_field b)))
  pub conflict : T (not (says n Conflict))
  pub told : (x : ℕ) → T (not (says n (Refused (refusal_of x))))

module _ (n : ℕ) (w : OwnNumber n) (s : Store) (c : Call) (h : T (says n (answer_to s c))) where
  own_reaches : AtFields s c
  own_reaches = at_fields (says n) w.good w.unusable s c h w.unlisted w.told

  past_fields : (field_answer c ≡ Good) × T (says n (later s c))
  past_fields =
      past (says n) (field_answer c) (later s c)
      (none (says n) _ w.good (field_each _ (entry_of c.cdb) c.cdb w.field))
      (rw (fields_decide s c own_reaches) at h)

  past_guard : (guard_answer s.unit c ≡ Good) × T (says n (own_answer s c))
  past_guard =
      past (says n) (guard_answer s.unit c) (own_answer s c)
      (none (says n) _ w.good (guard_each _ (asked_of c.cdb) s.unit.rights c.nexus w.conflict))
      past_fields.1

  -- it is the answer of the command's own tests
  pub own_is : answer_to s c ≡ own_answer s c
  own_is =
      fields_decide s c own_reaches ∙ next_after (field_answer c) (later s c) past_fields.0
      ∙ next_after (guard_answer s.unit c) (own_answer s c) past_guard.0

  pub own_says : T (says n (own_answer s c))
  own_says = past_guard.1

pub three_own : OwnNumber 3
unfolding says number_of codes_of
three_own = record { good = tt; unusable = tt; unlisted = tt; field = λ b. tt; conflict = tt; told = untold 3 tt tt tt }

pub five_own : OwnNumber 5
unfolding says number_of codes_of
five_own = record { good = tt; unusable = tt; unlisted = tt; field = λ b. tt; conflict = tt; told = untold 5 tt tt tt }

pub eight_own : OwnNumber 8
unfolding says number_of codes_of
eight_own = record { good = tt; unusable = tt; unlisted = tt; field = λ b. tt; conflict = tt; told = untold 8 tt tt tt }

pub five_is : (s : Store) (c : Call) → T (says 5 (answer_to s c)) → answer_to s c ≡ own_answer s c
five_is = own_is 5 five_own

-- ---- 13

module _ (s : Store) (c : Call) (h : T (says 13 (answer_to s c))) where
  pub thirteen_reaches : AtAttention s c
  unfolding says number_of codes_of
  thirteen_reaches = at_attention (says 13) tt tt s c h tt

  behind_not : T (not (says 13 (next (field_answer c) (later s c))))
  unfolding says number_of codes_of
  behind_not =
      next_is (λ a. T (not (says 13 a))) (field_answer c) (later s c)
      (none (says 13) _ tt (field_each _ (entry_of c.cdb) c.cdb (λ b. tt)))
      (next_is (λ a. T (not (says 13 a))) (guard_answer s.unit c) (own_answer s c)
      (none (says 13) _ tt (guard_each _ (asked_of c.cdb) s.unit.rights c.nexus tt))
      (none (says 13) _ tt (own_each _ (record { short = tt; conflict = tt; nowhere = λ r t u v. v; named = λ b t. tt }) (asked_of c.cdb) s c)))

  thirteen_from : answer_to s c ≡ attention_answer s.unit c
  thirteen_from =
      attention_decides s c thirteen_reaches
      ∙ behind (says 13) (attention_answer s.unit c) _ behind_not (rw (attention_decides s c thirteen_reaches) at h)

  -- something waits, and is due
  pub thirteen_due : T (due s.unit c.nexus c.cdb)
  unfolding says number_of
  thirteen_due =
      test (due s.unit c.nexus c.cdb) (λ t. t)
      (λ n. absurd (subst (λ (a : Answer). T (says 13 a)) (thirteen_from ∙ undue_passes s.unit c.nexus c.cdb n) h))

  -- and that is what is answered
  pub thirteen_is : answer_to s c ≡ Refused (refusal_of (waiting s.unit c.nexus))
  thirteen_is = thirteen_from ∙ due_stops s.unit c.nexus c.cdb thirteen_due

-- where a call comes so far, what is due is answered
pub due_answers : (s : Store) (c : Call) → AtAttention s c → T (due s.unit c.nexus c.cdb)
    → answer_to s c ≡ Refused (refusal_of (waiting s.unit c.nexus))
unfolding refuses
due_answers s c p t =
    attention_decides s c p
    ∙ ap (λ (a : Answer). next a (next (field_answer c) (later s c))) (due_stops s.unit c.nexus c.cdb t)
    ∙ next_refuses (Refused (refusal_of (waiting s.unit c.nexus))) _ tt

-- a call that is right by itself comes so far on a usable store
pub righted_reaches : (s : Store) (c : Call) → T (usable s) → Righted s.format c → AtAttention s c
righted_reaches s c u r = record { call = r.call; store = u; code = r.code; length = r.length }
