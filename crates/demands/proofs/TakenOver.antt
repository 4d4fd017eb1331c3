-- The pair that takes over from a dead third, from a fresh store, proved of `step`.
-- Assumes nothing.
use mathlib.Core.Path.{◌≡◌, refl, sym, ap, ◌∙◌, subst}
use mathlib.Core.Logic.{◌≢◌, ◌⊎◌, inl, inr}
use mathlib.Core.Bool.{Bool, true, false, not, ◌&&◌, cond}
use mathlib.Core.List.{List, [], ◌∷◌}
use Prim.Native.Nat.{ℕ, ◌*◌, ◌≤◌}
use native.Mathlib.Omega.{arith}
use lib.Dec.{T, eqb, eqb_refl}
use lib.ListN.{length}
use borrow.Author.Tests.{eq-eqb, ne_eqb}
use Rattle.fields.specs.Bits.{number_in}
use Rattle.fields.proofs.Tests.{by_equal, T_true}
use Rattle.answers.specs.declared.Answer.TheVariants.{Refused, Conflict}
use Rattle.answers.specs.Answers.{no_place}
use Rattle.answers.specs.Order.{first_of}
use Rattle.answers.proofs.OrderLaws.{row_pass, row_end}
use Rattle.answers.specs.Sense.{format_ok, fixed}
use Rattle.rights.specs.declared.Place.{Place}
use Rattle.rights.specs.declared.Rights.{Rights}
use Rattle.rights.specs.declared.Action.TheVariants.{Register, Reserve, Preempt}
use Rattle.rights.specs.Places.{unused, registration, used, is_of, registered, key_of, vacant, enrol}
use Rattle.rights.specs.Rights.{all_hold, with_places, with_reservation, with_generation, held, raised, no_rights}
use Rattle.rights.specs.Actions.{stranger, key_wrong, crowded, action_rows, registering, reserving, acted}
use Rattle.rights.proofs.Holders.{key_none, registered_key}
use Rattle.pool.specs.Valid.{capacity_ok, slots_ok}
use Rattle.store.specs.Store.{Store, Call, usable, waiting}
use Rattle.store.specs.Alter.{parameters_of}
use Rattle.store.specs.Fresh.{fresh_unit, fresh_store}
use Rattle.store.specs.Step.{step}
use Rattle.demands.specs.History.{after, after_event, after_all, seen_all}
use Rattle.demands.specs.Generation.{generation, service_key}
use Rattle.rights.specs.Attentions.{no_attentions}
use Rattle.rights.specs.Notices.{notice}
use Rattle.rights.proofs.AttentionLaws.{waiting_none, notified_none, unreserved_notice}
use Rattle.store.proofs.Parts.{none_undue}
use Rattle.demands.specs.Contents.{IsGood, by_itself, Quiet}
use Rattle.demands.specs.Reservations.{key_in, is_registered, type_in}
use Rattle.demands.specs.ZeroKey.{sender_key, Sends, gave_key, zero_answer, Which, first_one, second_one, third_one, Story, events, answers_of, ending, TakenOver}
use Rattle.demands.specs.Bench.{out}
use Rattle.demands.proofs.Computing.{meaning}
use Rattle.demands.proofs.Usable.{usable_stays, format_after}
use Rattle.demands.proofs.Fresh.{fresh_usable}
use Rattle.demands.proofs.Altering.{altered, altered_attentions}
use Rattle.demands.proofs.Attentions.{returned, only_then, cleared, sender_untold, zero_key_tells}
use Rattle.demands.specs.Attentions.{waits, newest, Learns}
use Rattle.answers.specs.declared.Refusal.TheVariants.{RegistrationsPreempted}
use Rattle.rights.specs.Attentions.{refusal_of}
use Rattle.store.proofs.Parts.{itself_righted, call_nexus}
use Rattle.demands.proofs.ZeroKey.{sent_answer, zero_answer_law, zero_registrations, zero_type, zero_holders, zero_rises, zero_keys, zero_reservation, zero_others}
use Rattle.demands.proofs.Moving.{good_any}

-- ---- nothing waits for anybody

calm_quiet : (s : Store) (c : Call) → s.unit.attentions ≡ no_attentions → Quiet s c
unfolding waiting
calm_quiet s c e = none_undue s.unit c.nexus c.cdb (rw e (waiting_none c.nexus))

-- ---- a registration more

no_room_needed : (a b v : Bool) → T v → (a && b && not v) ≡ false
no_room_needed true true true t = refl
no_room_needed true false true t = refl
no_room_needed false b true t = refl
no_room_needed a b false t = absurd t

module _ (s : Store) (c : Call) (w : Sends s.format Register c) (u : T (usable s)) (calm : s.unit.attentions ≡ no_attentions) (own : sender_key c ≡ 0)
    (new : T (not (registered c.nexus s.unit.rights.places))) (room : T (vacant s.unit.rights.places)) where
  joins_good : IsGood s c
  unfolding key_wrong action_rows crowded parameters_of number_in sender_key service_key
  joins_good =
      sent_answer Register s c w u (calm_quiet s c calm)
      ∙ row_pass Conflict _ _ (ap not (eq-eqb _ _ (own ∙ sym (key_none c.nexus s.unit.rights.places new))))
      ∙ row_pass no_place _ _
      (no_room_needed (not (registered c.nexus s.unit.rights.places)) (not (eqb (service_key c) 0)) (vacant s.unit.rights.places) room) ∙ row_end

  joins_rights : (after step s c).unit.rights ≡ registering s.unit.rights c.nexus (service_key c)
  unfolding acted parameters_of number_in service_key
  joins_rights = altered Register s c w.asked joins_good

  joins_calm : s.unit.rights.kind ≡ 0 → (after step s c).unit.attentions ≡ no_attentions
  unfolding notice
  joins_calm none =
      altered_attentions Register s c w.asked joins_good
      ∙ notified_none Register s.unit.rights _ c.nexus (λ m. unreserved_notice s.unit.rights _ m none) s.unit.attentions
      ∙ calm

one_zero : ◌≡◌ {A = ℕ} 1 0 → ⊥
one_zero e = omega arith

preempted_is : Refused (refusal_of 1) ≡ Refused RegistrationsPreempted
unfolding refusal_of
preempted_is = refl

-- ---- the rights on the way

abbrev rights_of : List Place → ℕ → ℕ → Rights
rights_of places generation kind = record { places = places; holder = 0; generation = generation; kind = kind }

-- a store that can be used, its format and its rights; nothing waits
record Stage (s : Store) (format : ℕ) (r : Rights) : Type 0 where
  pub store : T (usable s)
  pub calm : s.unit.attentions ≡ no_attentions
  pub format_is : s.format ≡ format
  pub rights : s.unit.rights ≡ r

module _ {format : ℕ} (t : Story format) where
  abbrev place : Which → Place
  place i = registration (t.nexus i) (t.key i)

  abbrev none_there : List Place
  none_there = unused ∷ unused ∷ unused ∷ unused ∷ unused ∷ unused ∷ unused ∷ unused ∷ []

  abbrev one_there : List Place
  one_there = place first_one ∷ unused ∷ unused ∷ unused ∷ unused ∷ unused ∷ unused ∷ unused ∷ []

  abbrev two_there : List Place
  two_there = place first_one ∷ place second_one ∷ unused ∷ unused ∷ unused ∷ unused ∷ unused ∷ unused ∷ []

  abbrev three_there : List Place
  three_there = place first_one ∷ place second_one ∷ place third_one ∷ unused ∷ unused ∷ unused ∷ unused ∷ unused ∷ []

  key_set : (i : Which) → eqb (t.key i) 0 ≡ false
  key_set i = ne_eqb (t.key i) 0 (t.nonzero i)

  differ : (i j : Which) → (i ≡ j → T false) → eqb (t.nexus i) (t.nexus j) ≡ false
  differ i j d = ne_eqb (t.nexus i) (t.nexus j) (λ e. d (t.apart i j e))

  unfoldable is_first : Which → Bool
  is_first first_one = true
  is_first second_one = false
  is_first third_one = false

  unfoldable is_second : Which → Bool
  is_second first_one = false
  is_second second_one = true
  is_second third_one = false

  first_second : eqb (t.nexus first_one) (t.nexus second_one) ≡ false
  unfolding is_first
  first_second = differ first_one second_one (λ e. subst (λ (i : Which). T (is_first i)) e tt)

  first_third : eqb (t.nexus first_one) (t.nexus third_one) ≡ false
  unfolding is_first
  first_third = differ first_one third_one (λ e. subst (λ (i : Which). T (is_first i)) e tt)

  second_third : eqb (t.nexus second_one) (t.nexus third_one) ≡ false
  unfolding is_second
  second_third = differ second_one third_one (λ e. subst (λ (i : Which). T (is_second i)) e tt)

  same : (i : Which) → eqb (t.nexus i) (t.nexus i) ≡ true
  same i = T_true _ (eqb_refl (t.nexus i))

  same_key : (i : Which) → eqb (t.key i) (t.key i) ≡ true
  same_key i = T_true _ (eqb_refl (t.key i))

  joined_first : registering no_rights (t.nexus first_one) (t.key first_one) ≡ rights_of one_there 1 0
  unfolding no_rights registering registered is_of used enrol raised with_generation with_places
  joined_first = simp (key_set first_one)

  joined_second : registering (rights_of one_there 1 0) (t.nexus second_one) (t.key second_one) ≡ rights_of two_there 2 0
  unfolding registering registered is_of used enrol raised with_generation with_places
  joined_second = simp (key_set first_one, key_set second_one, first_second)

  joined_third : registering (rights_of two_there 2 0) (t.nexus third_one) (t.key third_one) ≡ rights_of three_there 3 0
  unfolding registering registered is_of used enrol raised with_generation with_places
  joined_third = simp (key_set first_one, key_set second_one, key_set third_one, first_third, second_third)

  second_new : registered (t.nexus second_one) one_there ≡ false
  unfolding registered is_of used
  second_new = simp (key_set first_one, first_second)

  third_new : registered (t.nexus third_one) two_there ≡ false
  unfolding registered is_of used
  third_new = simp (key_set first_one, key_set second_one, first_third, second_third)

  two_vacant : vacant two_there ≡ true
  unfolding vacant used
  two_vacant = simp (key_set first_one, key_set second_one)

  one_vacant : vacant one_there ≡ true
  unfolding vacant used
  one_vacant = simp (key_set first_one)

  -- each of the three has its key
  key_there : (i : Which) → key_of (t.nexus i) three_there ≡ t.key i
  unfolding key_of is_of used
  key_there first_one = simp (key_set first_one, same first_one)
  key_there second_one = simp (key_set first_one, key_set second_one, first_second, same second_one)
  key_there third_one = simp (key_set first_one, key_set second_one, key_set third_one, first_third, second_third, same third_one)

  there : (i : Which) → registered (t.nexus i) three_there ≡ true
  there i = registered_key (t.nexus i) three_there ∙ ap (λ (k : ℕ). not (eqb k 0)) (key_there i) ∙ ap not (key_set i)

  -- ---- one call after another

  -- one of the three registers
  joins : (i : Which) (s : Store) (ps qs : List Place) (g h : ℕ) → Stage s format (rights_of ps g 0)
      → registered (t.nexus i) ps ≡ false → vacant ps ≡ true → registering (rights_of ps g 0) (t.nexus i) (t.key i) ≡ rights_of qs h 0
      → IsGood s (t.register i) × Stage (after step s (t.register i)) format (rights_of qs h 0)
  joins i s ps qs g h x new room e = (
    joins_good s (t.register i) sent x.store x.calm (t.registers_own i) is_new is_room,
    record {
      store = usable_stays s (t.register i) x.store;
      calm = joins_calm s (t.register i) sent x.store x.calm (t.registers_own i) is_new is_room (ap (λ (r : Rights). r.kind) x.rights);
      format_is = format_after s (t.register i) ∙ x.format_is;
      rights = joins_rights s (t.register i) sent x.store x.calm (t.registers_own i) is_new is_room
          ∙ rw (x.rights, t.registers_key i, t.registers_from i) e;
    },
  )
    where
      sent : Sends s.format Register (t.register i)
      sent = subst (λ (v : ℕ). Sends v Register (t.register i)) (sym x.format_is) (t.registers i)

      is_new : T (not (registered (t.register i).nexus s.unit.rights.places))
      is_new = rw (x.rights, t.registers_from i, new) tt

      is_room : T (vacant s.unit.rights.places)
      is_room = rw (x.rights, room) tt

  module _ (s : Store) (u : T (usable s)) (f : s.format ≡ format) (empty : s.unit.rights ≡ no_rights) (none : s.unit.attentions ≡ no_attentions) where
    abbrev after_first : Store
    after_first = after step s (t.register first_one)

    abbrev after_second : Store
    after_second = after step after_first (t.register second_one)

    abbrev after_third : Store
    after_third = after step after_second (t.register third_one)

    abbrev after_reserve : Store
    after_reserve = after step after_third t.reserve

    first_joins : IsGood s (t.register first_one) × Stage after_first format (rights_of one_there 1 0)
    unfolding no_rights registered is_of used vacant
    first_joins = joins first_one s none_there one_there 0 1 (record { store = u; calm = none; format_is = f; rights = empty }) refl refl joined_first

    second_joins : IsGood after_first (t.register second_one) × Stage after_second format (rights_of two_there 2 0)
    second_joins = joins second_one after_first one_there two_there 1 2 first_joins.1 second_new one_vacant joined_second

    third_joins : IsGood after_second (t.register third_one) × Stage after_third format (rights_of three_there 3 0)
    third_joins = joins third_one after_second two_there three_there 2 3 second_joins.1 third_new two_vacant joined_third

    -- the reservation for all
    for_all : all_hold t.reserves.asked.request.kind ≡ true
    for_all = T_true (all_hold t.reserves.asked.request.kind) t.reserves_all

    good_reserve : IsGood after_third t.reserve
    unfolding key_wrong stranger action_rows parameters_of sender_key first_of
    good_reserve =
        sent_answer Reserve after_third t.reserve (subst (λ (v : ℕ). Sends v Reserve t.reserve) (sym third_joins.1.format_is) t.reserves) third_joins.1.store (calm_quiet after_third t.reserve third_joins.1.calm)
        ∙ rw (third_joins.1.rights, t.reserves_from, t.reserves_own, there t.holder, key_there t.holder, same_key t.holder)

    rights_reserve : after_reserve.unit.rights ≡ rights_of three_there 3 t.reserves.asked.request.kind
    unfolding acted reserving parameters_of held with_reservation
    rights_reserve = altered Reserve after_third t.reserve t.reserves.asked good_reserve ∙ rw (third_joins.1.rights, for_all)

    reserve_calm : after_reserve.unit.attentions ≡ no_attentions
    unfolding notice
    reserve_calm =
        altered_attentions Reserve after_third t.reserve t.reserves.asked good_reserve
        ∙ notified_none Reserve after_third.unit.rights _ t.reserve.nexus (λ m. refl) after_third.unit.attentions
        ∙ third_joins.1.calm

    -- the key 0
    sender_has : key_in after_reserve t.preempt.nexus ≡ t.key t.sender
    unfolding key_in
    sender_has = rw (rights_reserve, t.preempts_from) (key_there t.sender)

    format_reserve : after_reserve.format ≡ format
    format_reserve = format_after after_third t.reserve ∙ third_joins.1.format_is

    good_preempt : IsGood after_reserve t.preempt
    unfolding zero_answer gave_key is_registered key_in type_in
    good_preempt =
        zero_answer_law after_reserve t.preempt (subst (λ (v : ℕ). Sends v Preempt t.preempt) (sym format_reserve) t.preempts) t.preempts_zero (usable_stays after_third t.reserve third_joins.1.store) (calm_quiet after_reserve t.preempt reserve_calm)
        ∙ rw (rights_reserve, t.preempts_own, t.preempts_from, there t.sender, key_there t.sender, same_key t.sender, for_all)

    four : generation (after step after_reserve t.preempt) ≡ 4
    unfolding generation
    four = zero_rises after_reserve t.preempt t.preempts.asked good_preempt t.preempts_zero ∙ rw rights_reserve

    pub taken_over : TakenOver step s t
    unfolding events ending after_all seen_all after_event answers_of
    taken_over =
        let w = t.preempts.asked in
        let e = good_preempt in
        let z = t.preempts_zero in
        record {
          all_good = rw (first_joins.0, second_joins.0, third_joins.0, good_reserve, good_preempt);
          registrations = λ n. zero_registrations after_reserve t.preempt w e z n
              ∙ by_equal n t.preempt.nexus (λ b. cond b (key_in after_reserve n) 0 ≡ cond b (t.key t.sender) 0)
              (λ i. ap (key_in after_reserve) i ∙ sender_has) (λ _. refl)
              ∙ ap (λ (m : ℕ). cond (eqb n m) (t.key t.sender) 0) t.preempts_from;
          type = zero_type after_reserve t.preempt w e z;
          holders = λ n. zero_holders after_reserve t.preempt w e z n ∙ ap (eqb n) t.preempts_from;
          keys_told = λ c a g. rw (← four, ← sender_has) (zero_keys after_reserve t.preempt w e z c a g ∙ good_any _ format _ c);
          reservation_told = λ c a g. rw (← four, ← sender_has) (zero_reservation after_reserve t.preempt w e z c a g ∙ good_any _ format _ c);
          others = λ m c a g d. zero_others after_reserve t.preempt w e z m c a (ap (λ (v : ℕ). by_itself v c) format_reserve ∙ g) (λ i. d (i ∙ t.preempts_from));
        }

    -- ---- both others learn of it at their next command

    reserve_waits : (n : ℕ) → waits after_reserve n ≡ 0
    unfolding waits waiting
    reserve_waits n = rw reserve_calm (waiting_none n)

    other_than : (i : Which) → i ≢ t.sender → t.nexus i ≢ t.preempt.nexus
    other_than i d e = d (t.apart i t.sender (e ∙ t.preempts_from))

    within : (i : Which) → t.nexus i ≤ 15
    unfolding by_itself
    within i = subst (λ (n : ℕ). n ≤ 15) (t.registers_from i) (call_nexus format (t.register i) (itself_righted format (t.register i) (t.registers i).right).call)

    told_all : (n : ℕ) → n ≤ 15 → n ≢ t.preempt.nexus → waits (after step after_reserve t.preempt) n ≡ cond (registered n three_there) 1 0
    unfolding is_registered newest
    told_all n h d =
        zero_key_tells after_reserve t.preempt t.preempts.asked good_preempt t.preempts_zero n h d
        ∙ rw (reserve_waits n, rights_reserve) (go (registered n three_there))
      where
        go : (b : Bool) → newest (cond b 1 0) 0 ≡ cond b 1 0
        go true = refl
        go false = refl

    stranger_there : (n : ℕ) → ((i : Which) → n ≢ t.nexus i) → registered n three_there ≡ false
    unfolding registered is_of used
    stranger_there n d =
        simp (
          key_set first_one,
          key_set second_one,
          key_set third_one,
          ne_eqb (t.nexus first_one) n (λ e. d first_one (sym e)),
          ne_eqb (t.nexus second_one) n (λ e. d second_one (sym e)),
          ne_eqb (t.nexus third_one) n (λ e. d third_one (sym e)),
        )

    same_one : (i j : Which) → (i ≡ j → ⊥) ⊎ (i ≡ j)
    unfolding is_first is_second
    same_one first_one first_one = inr refl
    same_one first_one second_one = inl (λ e. subst (λ (i : Which). T (is_first i)) e tt)
    same_one first_one third_one = inl (λ e. subst (λ (i : Which). T (is_first i)) e tt)
    same_one second_one first_one = inl (λ e. subst (λ (i : Which). T (is_second i)) e tt)
    same_one second_one second_one = inr refl
    same_one second_one third_one = inl (λ e. subst (λ (i : Which). T (is_second i)) e tt)
    same_one third_one first_one = inl (λ e. subst (λ (i : Which). T (not (is_first i))) e tt)
    same_one third_one second_one = inl (λ e. subst (λ (i : Which). T (not (is_second i))) e tt)
    same_one third_one third_one = inr refl

    nobody_told : (n : ℕ) → n ≤ 15 → ((i : Which) → i ≢ t.sender → n ≢ t.nexus i) → waits (after step after_reserve t.preempt) n ≡ 0
    nobody_told n h d =
        by_equal n t.preempt.nexus (λ _. waits (after step after_reserve t.preempt) n ≡ 0)
        (λ e. rw e (sender_untold Preempt after_reserve t.preempt t.preempts.asked good_preempt (subst (λ (m : ℕ). m ≤ 15) e h) ∙ reserve_waits t.preempt.nexus))
        (λ k. told_all n h k ∙ ap (λ (b : Bool). cond b 1 0) (stranger_there n (λ i e. elim (same_one i t.sender) [
          | inl x ↦ d i x e
          | inr x ↦ k (e ∙ ap t.nexus x ∙ sym t.preempts_from)
        ])))

    waits_for : (i : Which) → i ≢ t.sender → waits (after step after_reserve t.preempt) (t.nexus i) ≡ 1
    waits_for i d = told_all (t.nexus i) (within i) (other_than i d) ∙ ap (λ (b : Bool). cond b 1 0) (there i)

    pub learns : Learns step s t
    unfolding events ending after_all after_event
    learns = record {
      waiting = waits_for;
      nobody_else = nobody_told;
      next_command = λ i d c f q m n.
          let w : waits (after step after_reserve t.preempt) c.nexus ≡ 1 = ap (waits (after step after_reserve t.preempt)) f ∙ waits_for i d in
          returned (after step after_reserve t.preempt) c (λ z. one_zero (sym w ∙ z)) q m n ∙ ap (λ (x : ℕ). Refused (refusal_of x)) w ∙ preempted_is;
      then_served = λ i d c g f h e z.
          (only_then (after step (after step after_reserve t.preempt) c) g z).0
          (ap (waits (after step (after step after_reserve t.preempt) c)) (h ∙ sym f) ∙ cleared (after step after_reserve t.preempt) c e);
    }

pub fresh_learns : (capacity format slots : ℕ) (medium : List ℕ) → T (capacity_ok capacity) → T (format_ok format) → T (slots_ok slots)
    → length medium ≡ 512 * slots → (t : Story format) → Learns step (fresh_store capacity format slots medium) t
unfolding fresh_store fresh_unit
fresh_learns capacity format slots medium x f y e t =
    learns t (fresh_store capacity format slots medium) (fresh_usable capacity format slots medium x f y e) refl refl refl

-- every fresh store within its bounds is one
pub fresh_taken_over : (capacity format slots : ℕ) (medium : List ℕ) → T (capacity_ok capacity) → T (format_ok format) → T (slots_ok slots)
    → length medium ≡ 512 * slots → (t : Story format) → TakenOver step (fresh_store capacity format slots medium) t
unfolding fresh_store fresh_unit
fresh_taken_over capacity format slots medium x f y e t =
    taken_over t (fresh_store capacity format slots medium) (fresh_usable capacity format slots medium x f y e) refl refl refl

-- ---- there are such stories

-- nexuses 1, 2 and 3; the third makes a reservation of type 7, the second sends the key 0 and names type 6
unfoldable number : Which → ℕ
number first_one = 1
number second_one = 2
number third_one = 3

numbers_apart : (i j : Which) → number i ≡ number j → i ≡ j
unfolding number
numbers_apart first_one first_one e = refl
numbers_apart first_one second_one e = absurd (omega arith)
numbers_apart first_one third_one e = absurd (omega arith)
numbers_apart second_one first_one e = absurd (omega arith)
numbers_apart second_one second_one e = refl
numbers_apart second_one third_one e = absurd (omega arith)
numbers_apart third_one first_one e = absurd (omega arith)
numbers_apart third_one second_one e = absurd (omega arith)
numbers_apart third_one third_one e = refl

numbers_some : (i : Which) → number i ≢ 0
unfolding number
numbers_some first_one e = absurd (omega arith)
numbers_some second_one e = absurd (omega arith)
numbers_some third_one e = absurd (omega arith)

sends_register : (i : Which) → Sends fixed Register (out (number i) 0 0 0 (number i))
unfolding meaning by_itself number
sends_register first_one = record { asked = record { request = _; is = refl; command = refl }; right = refl; long = refl; whole = omega arith; flags = refl }
sends_register second_one = record { asked = record { request = _; is = refl; command = refl }; right = refl; long = refl; whole = omega arith; flags = refl }
sends_register third_one = record { asked = record { request = _; is = refl; command = refl }; right = refl; long = refl; whole = omega arith; flags = refl }

registers_its_key : (i : Which) → service_key (out (number i) 0 0 0 (number i)) ≡ number i
unfolding meaning service_key number
registers_its_key first_one = refl
registers_its_key second_one = refl
registers_its_key third_one = refl

gives_none : (i : Which) → sender_key (out (number i) 0 0 0 (number i)) ≡ 0
unfolding meaning sender_key
gives_none i = refl

from_itself : (i : Which) → (out (number i) 0 0 0 (number i)).nexus ≡ number i
unfolding meaning
from_itself i = refl

pub story : Story fixed
unfolding meaning by_itself sender_key service_key number
story = record {
  nexus = number;
  key = number;
  apart = numbers_apart;
  nonzero = numbers_some;
  register = λ i. out (number i) 0 0 0 (number i);
  registers = sends_register;
  registers_from = from_itself;
  registers_own = gives_none;
  registers_key = registers_its_key;
  holder = third_one;
  reserve = out 3 1 7 3 0;
  reserves = record { asked = record { request = _; is = refl; command = refl }; right = refl; long = refl; whole = omega arith; flags = refl };
  reserves_from = refl;
  reserves_own = refl;
  reserves_all = tt;
  sender = second_one;
  preempt = out 2 4 6 2 0;
  preempts = record { asked = record { request = _; is = refl; command = refl }; right = refl; long = refl; whole = omega arith; flags = refl };
  preempts_from = refl;
  preempts_own = refl;
  preempts_zero = refl;
}
