-- Demand 1, proved of `step`: every answer is listed, a refusal changes nothing, and buffers change only where they may.
-- Assumes nothing.
use mathlib.Core.Path.{◌≡◌, refl, ap, ◌∙◌}
use mathlib.Core.Logic.{◌≢◌}
use mathlib.Core.Bool.{Bool, cond}
use mathlib.Core.List.{List, [], ◌∷◌}
use Prim.Native.Nat.{ℕ}
use native.Mathlib.Omega.{arith}
use lib.Dec.{T, eqb, eqb→eq}
use lib.ListN.{length, drop}
use Rattle.fields.specs.Bytes.{put}
use Rattle.fields.proofs.BytesLaws.{length_put, drop_put}
use Rattle.fields.proofs.Tests.{T_true}
use Rattle.answers.specs.declared.Refusal.{Refusal}
use Rattle.answers.specs.declared.Refusal.TheVariants.{NotListed, InvalidField, OutOfRange, ListLength, ListField, NoPlace, OtherType, NoRoom, RegistrationsPreempted, ReservationsPreempted, ReservationsReleased}
use Rattle.answers.specs.declared.Answer.{Answer}
use Rattle.answers.specs.declared.Answer.TheVariants.{Good, Refused, Conflict, Unusable, Short}
use Rattle.answers.specs.Answers.{codes_of, number_of, is_attention}
use Rattle.answers.specs.Sense.{sense_data, sense_written, sense_after}
use Rattle.answers.specs.Order.{if_good, if_good_by, refuses}
use Rattle.answers.proofs.OrderLaws.{if_refused, good_cases}
use Rattle.rights.specs.Rights.{is_one_of}
use Rattle.forms.specs.Forms.{asked_of}
use Rattle.store.specs.Store.{Store, Call, with_unit, relieved, refused_unit, seen_of}
use Rattle.store.specs.Step.{data_by, step_by, step, answer_to}
use Rattle.store.proofs.StoreLaws.{step_answer, refused_store, step_store, step_ways, leaves_refused}
use Rattle.demands.specs.History.{after}
use Rattle.demands.specs.Demands.{Demand1}
use Rattle.demands.proofs.Usable.{usable_stays, owners_stay, marks_stay, medium_stays}

-- ---- every answer is listed

abbrev numbers : List ℕ
numbers = 0 ∷ 1 ∷ 2 ∷ 3 ∷ 4 ∷ 5 ∷ 6 ∷ 7 ∷ 8 ∷ 10 ∷ 11 ∷ 12 ∷ 13 ∷ []

refusal_listed : (r : Refusal) → T (is_one_of (codes_of r).number numbers)
unfolding codes_of is_one_of
refusal_listed NotListed = tt
refusal_listed (InvalidField at top n) = tt
refusal_listed (OutOfRange address) = tt
refusal_listed ListLength = tt
refusal_listed (ListField at top n) = tt
refusal_listed NoPlace = tt
refusal_listed OtherType = tt
refusal_listed (NoRoom address) = tt
refusal_listed RegistrationsPreempted = tt
refusal_listed ReservationsPreempted = tt
refusal_listed ReservationsReleased = tt

answer_listed : (a : Answer) → T (is_one_of (number_of a) numbers)
unfolding number_of is_one_of
answer_listed Good = tt
answer_listed (Refused x) = refusal_listed x
answer_listed Conflict = tt
answer_listed Unusable = tt
answer_listed Short = tt

pub step_listed : (s : Store) (c : Call) → T (is_one_of (number_of (step s c).seen.answer) numbers)
step_listed s c = answer_listed (step s c).seen.answer

-- ---- what is told of what waited

pub attention_number : (s : Store) (c : Call) → T (is_attention (answer_to s c)) → T (eqb (number_of (step s c).seen.answer) 13)
unfolding is_attention
attention_number s c t = rw (step_answer s c) t

pub number_attention : (s : Store) (c : Call) → number_of (step s c).seen.answer ≡ 13 → T (is_attention (answer_to s c))
unfolding is_attention
number_attention s c e = rw (← step_answer s c, e) tt

thirteen_refuses : (a : Answer) → T (is_attention a) → T (refuses a)
unfolding is_attention number_of refuses
thirteen_refuses Good t = t
thirteen_refuses (Refused x) t = tt
thirteen_refuses Conflict t = tt
thirteen_refuses Unusable t = tt
thirteen_refuses Short t = tt

pub told_store_law : (s : Store) (c : Call) → number_of (step s c).seen.answer ≡ 13 → after step s c ≡ with_unit s (relieved s.unit c.nexus)
unfolding after refused_unit
told_store_law s c e =
    let t = number_attention s c e in
    step_store s c ∙ leaves_refused (answer_to s c) _ (refused_store s c) (thirteen_refuses (answer_to s c) t)
    ∙ ap (λ (b : Bool). with_unit s (cond b (relieved s.unit c.nexus) s.unit)) (T_true (is_attention (answer_to s c)) t)

-- ---- a refusal

module _ (s : Store) (c : Call) (d : (step s c).seen.answer ≢ Good) where
  refused : T (refuses (answer_to s c))
  refused = good_cases (answer_to s c) (λ e. absurd (d (step_answer s c ∙ e))) (λ t. t)

  pub refused_store_law : number_of (step s c).seen.answer ≢ 13 → after step s c ≡ s
  unfolding after
  refused_store_law n =
      step_ways (λ x. x ≡ s) s c (λ g. absurd (d (step_answer s c ∙ g))) refl
      (λ t. absurd (n (eqb→eq _ 13 (attention_number s c t))))

  pub refused_data : (step s c).seen.data_in ≡ c.data_in
  unfolding step step_by seen_of answer_to
  refused_data = if_refused _ _ c.data_in refused

  pub refused_none : (step s c).seen.returned ≡ 0
  unfolding step step_by seen_of answer_to
  refused_none = if_refused _ _ 0 refused

-- ---- the buffers

pub sense_table : (s : Store) (c : Call) → (step s c).seen.sense ≡ sense_after s.format (step s c).seen.answer c.sense
unfolding step step_by seen_of
sense_table s c = refl

module _ (format : ℕ) where
  sense_past_by : (a : Answer) (l : List ℕ) → drop (sense_written format a) (sense_after format a l) ≡ drop (sense_written format a) l
  unfolding sense_written sense_after
  sense_past_by Good l = refl
  sense_past_by (Refused x) l = drop_put l 0 (sense_data format x) (length (sense_data format x)) (omega arith)
  sense_past_by Conflict l = refl
  sense_past_by Unusable l = refl
  sense_past_by Short l = refl

  sense_length_by : (a : Answer) (l : List ℕ) → length (sense_after format a l) ≡ length l
  unfolding sense_after
  sense_length_by Good l = refl
  sense_length_by (Refused x) l = length_put l 0 _
  sense_length_by Conflict l = refl
  sense_length_by Unusable l = refl
  sense_length_by Short l = refl

data_past_by : (a : Answer) (l bs : List ℕ) → drop (if_good a (length bs) 0) (if_good a (put l 0 bs) l) ≡ drop (if_good a (length bs) 0) l
unfolding if_good_by refuses
data_past_by Good l bs = drop_put l 0 bs (length bs) (omega arith)
data_past_by (Refused n) l bs = refl
data_past_by Conflict l bs = refl
data_past_by Unusable l bs = refl
data_past_by Short l bs = refl

data_length_by : (a : Answer) (l bs : List ℕ) → length (if_good a (put l 0 bs) l) ≡ length l
unfolding if_good_by refuses
data_length_by Good l bs = length_put l 0 bs
data_length_by (Refused n) l bs = refl
data_length_by Conflict l bs = refl
data_length_by Unusable l bs = refl
data_length_by Short l bs = refl

pub sense_past_law : (s : Store) (c : Call) → let n = sense_written s.format (step s c).seen.answer in drop n (step s c).seen.sense ≡ drop n c.sense
unfolding step step_by seen_of
sense_past_law s c = sense_past_by s.format _ c.sense

pub sense_length : (s : Store) (c : Call) → length (step s c).seen.sense ≡ length c.sense
unfolding step step_by seen_of
sense_length s c = sense_length_by s.format _ c.sense

pub data_past_law : (s : Store) (c : Call) → drop (step s c).seen.returned (step s c).seen.data_in ≡ drop (step s c).seen.returned c.data_in
unfolding step step_by seen_of asked_of
data_past_law s c = data_past_by _ c.data_in (data_by (asked_of c.cdb) s)

pub data_length : (s : Store) (c : Call) → length (step s c).seen.data_in ≡ length c.data_in
unfolding step step_by seen_of
data_length s c = data_length_by _ c.data_in _

pub demand_1 : Demand1 step
demand_1 = record {
  listed = step_listed;
  keeps = usable_stays;
  refusal_store = λ s c d n. refused_store_law s c d n;
  attention_store = told_store_law;
  refusal_data = refused_data;
  refusal_none = refused_none;
  sense_table = sense_table;
  sense_past_law = sense_past_law;
  data_past_law = data_past_law;
  data_length = data_length;
  sense_length = sense_length;
  owners_length = owners_stay;
  marks_length = marks_stay;
  medium_length = medium_stays;
}
