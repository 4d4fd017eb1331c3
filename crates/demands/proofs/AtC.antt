-- The demands at the C interface: one call of `ridge_execute` is one step, so what holds of `step` over a history holds of a program in C.
-- Assumes nothing.
use mathlib.Core.Path.{◌≡◌, refl, sym, ap, ap₂, ◌∙◌, subst}
use mathlib.Core.Logic.{◌≢◌, ◌⊎◌}
use mathlib.Core.Bool.{Bool, true, false, not, ◌&&◌}
use mathlib.Core.List.{List, [], ◌∷◌, map}
use Prim.Native.Nat.{ℕ}
use lib.Dec.{T, eqb, eqb_refl}
use lib.ListN.{length, drop}
use Rattle.fields.specs.Bytes.{zeros}
use Rattle.fields.proofs.Tests.{both}
use Rattle.answers.specs.declared.Refusal.{Refusal}
use Rattle.answers.specs.declared.Refusal.TheVariants.{NotListed, InvalidField, OutOfRange, ListLength, ListField, NoPlace, OtherType, NoRoom, RegistrationsPreempted, ReservationsPreempted, ReservationsReleased}
use Rattle.answers.specs.declared.Answer.{Answer}
use Rattle.answers.specs.declared.Answer.TheVariants.{Good, Refused, Conflict, Unusable, Short}
use Rattle.answers.specs.Answers.{codes_of, number_of}
use Rattle.answers.specs.Sense.{format_ok, sense_written, sense_after}
use Rattle.answers.specs.Order.{if_good_by, refuses}
use Rattle.pool.specs.Bounds.{mark_words}
use Rattle.pool.specs.Valid.{capacity_ok, slots_ok}
use Rattle.rights.specs.Rights.{is_one_of}
use Rattle.store.specs.declared.Unit.{Unit}
use Rattle.store.specs.Store.{Store, Call, usable, with_unit, relieved}
use Rattle.store.specs.Fresh.{fresh_unit, fresh_store}
use Rattle.store.specs.Step.{step}
use Rattle.store.proofs.StoreLaws.{store_is, format_kept}
use Rattle.ridge.specs.Interface.{left_by, executed, FreshLeft, fresh_by, freshened}
use Rattle.demands.specs.History.{Event, call, after, after_event, machine, after_all, seen_all}
use Rattle.demands.specs.Contents.{plain}
use Rattle.demands.specs.Demands.{Secrecy}
use Rattle.demands.specs.SenseRead.{sense_long}
use Rattle.demands.specs.AtC.{told_by, store_in, onward, program, begun, told_of, Faithful, Kept, Demand1AtC, Demand3AtC}
use Rattle.demands.proofs.Usable.{usable_stays, owners_stay, marks_stay, medium_stays}
use Rattle.demands.proofs.Fresh.{fresh_made, fresh_refused}
use Rattle.demands.proofs.Demand1.{step_listed, refused_store_law, refused_data, refused_none, sense_table, sense_past_law, data_past_law, data_length, sense_length, told_store_law}
use Rattle.demands.proofs.Demand3 as D
use Rattle.demands.proofs.SenseTold.{long_read}
use native.Mathlib.Omega.{arith}

-- ---- one call of C is one step

pub one_store : (s : Store) (c : Call) → store_in s.format (executed s c) ≡ after step s c
unfolding store_in executed left_by after
one_store s c = store_is _ (step s c).store (sym (format_kept s c)) refl refl

pub one_told : (s : Store) (c : Call) → told_by (executed s c) ≡ told_of (step s c).seen
unfolding told_by told_of executed left_by
one_told s c = refl

pub onward_is : (s : Store) (e : Event) → onward s e ≡ after_event step s e
unfolding onward after_event
onward_is s (call c) = one_store s c

-- ---- any history

pub stores_are : (s : Store) (es : List Event) → after_all program s es ≡ after_all (machine step) s es
unfolding after_all
stores_are s [] = refl
stores_are s (e ∷ es) = stores_are (onward s e) es ∙ ap (λ (t : Store). after_all (machine step) t es) (onward_is s e)

pub sights_are : (s : Store) (es : List Event) → seen_all program s es ≡ map told_of (seen_all (machine step) s es)
unfolding seen_all
sights_are s [] = refl
sights_are s (call c ∷ es) =
    ap₂ ◌∷◌ (one_told s c)
    (sights_are (onward s (call c)) es ∙ ap (λ (t : Store). map told_of (seen_all (machine step) t es)) (onward_is s (call c)))

-- ---- a history begins

module _ (capacity format : ℕ) (u : Unit) (owners marks : List ℕ) (b : T (capacity_ok capacity)) (f : T (format_ok format)) (n : T (slots_ok (length owners)))
    (w : length marks ≡ mark_words) where
  made : freshened capacity format u owners marks
      ≡ fresh_by u (record { answer = Good; unit = fresh_unit capacity; owners = zeros (length owners); marks = zeros mark_words })
  unfolding freshened
  made =
      ap (fresh_by u)
      (fresh_made capacity format owners marks
      (both (capacity_ok capacity) _ b (both (format_ok format) _ f (both (slots_ok (length owners)) (eqb (length marks) mark_words) n (rw w (eqb_refl mark_words))))))

  pub fresh_zero : (freshened capacity format u owners marks).answer ≡ 0
  unfolding fresh_by number_of
  fresh_zero = ap (λ (x : FreshLeft). x.answer) made

  pub fresh_begins : (medium : List ℕ) → begun format (freshened capacity format u owners marks) medium ≡ fresh_store capacity format (length owners) medium
  unfolding fresh_by begun fresh_store if_good_by refuses
  fresh_begins medium = ap (λ (x : FreshLeft). begun format x medium) made

module _ (capacity format : ℕ) (u : Unit) (owners marks : List ℕ) (f : T (not (format_ok format))) where
  unmade : freshened capacity format u owners marks ≡ record { answer = 11; unit = u; owners = owners; marks = marks }
  unfolding freshened fresh_by number_of if_good_by refuses
  unmade = ap (fresh_by u) (fresh_refused capacity format owners marks (no_middle (capacity_ok capacity) (format_ok format) _ f))
    where
      no_middle : (a b d : Bool) → T (not b) → T (not (a && (b && d)))
      no_middle true true d t = absurd t
      no_middle true false d t = tt
      no_middle false b d t = tt

  pub format_refused : ((freshened capacity format u owners marks).answer ≡ 11) × ((freshened capacity format u owners marks).unit ≡ u)
      × ((freshened capacity format u owners marks).owners ≡ owners) × ((freshened capacity format u owners marks).marks ≡ marks)
  format_refused = (
    ap (λ (x : FreshLeft). x.answer) unmade,
    ap (λ (x : FreshLeft). x.unit) unmade,
    ap (λ (x : FreshLeft). x.owners) unmade,
    ap (λ (x : FreshLeft). x.marks) unmade,
  )

pub faithful : Faithful
unfolding after
faithful = record {
  store = one_store;
  told = one_told;
  stores = stores_are;
  sights = sights_are;
  fresh_answer_law = fresh_zero;
  fresh_store_law = λ capacity format u owners marks medium b f n w. fresh_begins capacity format u owners marks b f n w medium;
  fresh_refused = format_refused;
}

-- ---- demand 1

refused : (a : Answer) → number_of a ≢ 0 → a ≢ Good
unfolding number_of
refused a n e = n (ap number_of e)

kept_by : (u : Unit) (s : Store) (c : Call) → (step s c).seen.answer ≢ Good → after step s c ≡ with_unit s u → Kept u s c (executed s c)
unfolding executed left_by after
kept_by u s c d k = record {
  unit = ap (λ (t : Store). t.unit) k;
  owners = ap (λ (t : Store). t.pool.owners) k;
  marks = ap (λ (t : Store). t.pool.marks) k;
  medium = ap (λ (t : Store). t.pool.medium) k;
  data_in = refused_data s c d;
  returned = refused_none s c d;
}

pub refusal_keeps : (s : Store) (c : Call) → (executed s c).answer ≢ 0 → (executed s c).answer ≢ 13 → Kept s.unit s c (executed s c)
unfolding executed left_by
refusal_keeps s c n m =
    let d = refused (step s c).seen.answer n in
    kept_by s.unit s c d (refused_store_law s c d m)

pub attention_keeps : (s : Store) (c : Call) → (executed s c).answer ≡ 13 → Kept (relieved s.unit c.nexus) s c (executed s c)
unfolding executed left_by
attention_keeps s c e =
    kept_by (relieved s.unit c.nexus) s c (refused (step s c).seen.answer (λ z. zero_thirteen (sym z ∙ e))) (told_store_law s c e)
  where
    zero_thirteen : ◌≡◌ {A = ℕ} 0 13 → ⊥
    zero_thirteen z = omega arith

onward_usable : (s : Store) (e : Event) → T (usable s) → T (usable (onward s e))
unfolding onward
onward_usable s (call c) u = rw (one_store s c) (usable_stays s c u)

onward_format : (s : Store) (e : Event) → (onward s e).format ≡ s.format
unfolding onward store_in
onward_format s (call c) = refl

pub usable_ever : (s : Store) (es : List Event) → T (usable s) → T (usable (after_all program s es))
unfolding after_all
usable_ever s [] u = u
usable_ever s (e ∷ es) u = usable_ever (onward s e) es (onward_usable s e u)

-- a number with a status of its own tells that sense is left
refusal_numbered : (r : Refusal) → T (not (is_one_of (codes_of r).number (0 ∷ 10 ∷ 11 ∷ 12 ∷ [])))
unfolding codes_of is_one_of
refusal_numbered NotListed = tt
refusal_numbered (InvalidField at top n) = tt
refusal_numbered (OutOfRange address) = tt
refusal_numbered ListLength = tt
refusal_numbered (ListField at top n) = tt
refusal_numbered NoPlace = tt
refusal_numbered OtherType = tt
refusal_numbered (NoRoom address) = tt
refusal_numbered RegistrationsPreempted = tt
refusal_numbered ReservationsPreempted = tt
refusal_numbered ReservationsReleased = tt

sense_left : (format : ℕ) (a : Answer) (l : List ℕ) → T (is_one_of (number_of a) (0 ∷ 10 ∷ 11 ∷ 12 ∷ [])) → sense_after format a l ≡ l
unfolding number_of sense_after
sense_left format Good l t = refl
sense_left format (Refused x) l t = D.never (is_one_of (codes_of x).number (0 ∷ 10 ∷ 11 ∷ 12 ∷ [])) t (refusal_numbered x)
sense_left format Conflict l t = refl
sense_left format Unusable l t = refl
sense_left format Short l t = refl

-- and a number with sense tells that it is written, up to what its byte 7 says
past_long : (a : Answer) (s : Store) (c : Call) → (step s c).seen.answer ≡ a → T (is_one_of (number_of a) (1 ∷ 2 ∷ 3 ∷ 4 ∷ 5 ∷ 6 ∷ 7 ∷ 8 ∷ 13 ∷ []))
    → drop (sense_long (step s c).seen.sense) (step s c).seen.sense ≡ drop (sense_long (step s c).seen.sense) c.sense
unfolding number_of is_one_of
past_long Good s c e t = absurd t
past_long (Refused x) s c e t =
    rw (long_read s c x e)
    (subst (λ (a : Answer). drop (sense_written s.format a) (step s c).seen.sense ≡ drop (sense_written s.format a) c.sense) e (sense_past_law s c))
past_long Conflict s c e t = absurd t
past_long Unusable s c e t = absurd t
past_long Short s c e t = absurd t

pub demand_1_at_c : Demand1AtC
unfolding executed left_by after
demand_1_at_c = record {
  listed = step_listed;
  refusal_keeps = refusal_keeps;
  attention_keeps = attention_keeps;
  usable_ever = usable_ever;
  sense_kept = λ s c t. sense_table s c ∙ sense_left s.format (step s c).seen.answer c.sense t;
  sense_past_law = λ s c t. past_long (step s c).seen.answer s c refl t;
  data_past_law = data_past_law;
  data_length = data_length;
  sense_length = sense_length;
  owners_length = owners_stay;
  marks_length = marks_stay;
  medium_length = medium_stays;
}

-- ---- demand 3

pub secrecy_at_c : Secrecy program plain
unfolding onward store_in told_by told_of executed left_by after
secrecy_at_c =
    D.secrecy_by program plain D.plain_format D.plain_unit D.plain_usable onward_usable onward_format
    (λ s t c u v f e k. ap told_of (D.kept_seen s t c u v f e k)) D.kept_unit D.unkept_unit
    (λ s t c n. ap told_of (D.nobody_learns c n s t)) (λ s c n. one_store s c ∙ D.nobody_still c n s)

pub demand_3_at_c : Demand3AtC
unfolding store_in executed left_by after
demand_3_at_c = record {
  secrecy = secrecy_at_c;
  still = λ s c o h w. one_store s c ∙ D.shut_out_still s c o h w;
  own_alone = λ s c w. subst (λ (x : Store). (x ≡ s) ⊎ (x ≡ with_unit s (relieved s.unit c.nexus))) (sym (one_store s c)) (D.own_alone s c w);
  out_pool = D.out_pool;
}
