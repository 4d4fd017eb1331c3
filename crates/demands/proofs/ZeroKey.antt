-- PREEMPT with the key 0, proved of `step`.
-- Assumes nothing.
use mathlib.Core.Path.{◌≡◌, refl, sym, ap, ap₂, ◌∙◌, subst}
use mathlib.Core.Logic.{◌↔◌, ◌≢◌}
use mathlib.Core.Bool.{Bool, true, false, not, ◌&&◌, ◌||◌, cond}
use mathlib.Core.List.{List, [], ◌∷◌}
use Prim.Native.Nat.{ℕ, ◌+◌, ◌%◌, ◌^◌}
use lib.Dec.{T, eqb, eqb_refl}
use lib.ListN.{length, take}
use borrow.Author.Tests.{eq-eqb, ne_eqb, le-ltb}
use Rattle.fields.specs.Bits.{number_in}
use Rattle.fields.proofs.Tests.{by_equal, by_test, T_true}
use Rattle.answers.specs.declared.Answer.{Answer}
use Rattle.answers.specs.declared.Answer.TheVariants.{Good, Conflict, Short}
use Rattle.answers.specs.Answers.{list_field, list_length}
use Rattle.std.specs.Prelude.{Result}
use Rattle.answers.specs.Order.{Row, ◌if◌, first, first_of, if_good_by, refuses}
use Rattle.answers.proofs.OrderLaws.{row_pass, row_stop, next_after}
use Rattle.rights.specs.declared.Rights.{Rights}
use Rattle.rights.specs.declared.Action.{Action}
use Rattle.rights.specs.declared.Action.TheVariants.{Preempt}
use Rattle.rights.specs.declared.Parameters.{Parameters}
use Rattle.rights.specs.Places.{registered, key_of, known}
use Rattle.rights.specs.Rights.{all_hold, with_places, with_reservation, with_generation, held, raised}
use Rattle.rights.specs.Actions.{service_key_bits, flag_rows, stranger, key_wrong, action_rows, decision_rows, preempting, taking_over, acted, decided, unless_refused}
use Rattle.rights.specs.Told.{keys_data, reservation_data}
use Rattle.rights.proofs.DecisionLaws.{flags_passed}
use Rattle.rights.proofs.Keeping.{makes}
use Rattle.rights.proofs.Holders.{registered_key}
use Rattle.rights.proofs.TakingOver.{zero_own, taken_key, taken_keys, taken_reservation}
use Rattle.forms.specs.declared.Tell.TheVariants.{Keys, Reservation}
use Rattle.forms.specs.declared.Move.{Move}
use Rattle.forms.specs.declared.Command.TheVariants.{Tells, Alters}
use Rattle.forms.specs.Forms.{allocation_in, list_length_in}
use Rattle.store.specs.Store.{Store, Call, seen_of, usable, relieved, waiting}
use Rattle.store.specs.Tell.{told}
use Rattle.store.specs.Alter.{parameters_of, alter_rows}
use Rattle.store.specs.Step.{guard_rows, step}
use Rattle.store.proofs.ConflictLaws.{altering_passes}
use Rattle.store.proofs.Parts.{Cleared, cleared, itself_cleared, guard_answer, none_undue}
use Rattle.store.proofs.StoreLaws.{step_answer}
use Rattle.demands.specs.History.{after}
use Rattle.demands.specs.Generation.{generation, service_key}
use Rattle.demands.specs.Contents.{AsksFor, Asks, IsGood, by_itself, Quiet}
use Rattle.demands.specs.Reservations.{key_in, is_registered, is_holder, type_in, sender_of, outsider, conflict_table, says, stopped}
use Rattle.demands.specs.ZeroKey.{sender_key, Sends, gave_key, zero_answer, one_key, one_holder, told as once, ZeroKey, former_rows, former, RulesAgree}
use Rattle.rights.proofs.AttentionLaws.{returned_own}
use Rattle.demands.proofs.Usable.{relieved_usable, usable_stays, format_after}
use Rattle.demands.proofs.Moving.{good_usable, good_any}
use Rattle.demands.proofs.Telling.{told_seen}
use Rattle.demands.proofs.Conflicts.{conflict_table_law}
use Rattle.demands.proofs.Altering.{altered_rows, altered_sender}
use Rattle.demands.proofs.Reservations.{taken, zero_over, places_distinct, named_type, preempt_type, preempt_holders}

-- ---- a reservation-out call that comes as far as its keys

module _ (a : Action) (s : Store) (c : Call) (w : Sends s.format a c) (u : T (usable s)) (d : Quiet s c) where
  abbrev parameters : Parameters
  parameters = parameters_of w.asked.request c.data_out

  right : Cleared s c
  unfolding by_itself
  right = itself_cleared s c u d w.right

  unguarded : guard_answer s.unit c ≡ Good
  unfolding guard_rows first_of
  unguarded = rw (w.asked.is, w.asked.command, altering_passes s.unit.rights c.nexus a)

  -- its keys and its own rows decide
  pub sent_answer : (step s c).seen.answer ≡ first (Conflict if key_wrong a s.unit.rights c.nexus parameters ∷ action_rows a s.unit.rights c.nexus parameters)
  unfolding alter_rows
  sent_answer =
      step_answer s c ∙ cleared s c right ∙ next_after (guard_answer s.unit c) _ unguarded ∙ ap first (altered_rows a s c w.asked)
      ∙ row_pass list_length _ _ (ap not (eq-eqb (list_length_in w.asked.request) 24 w.long))
      ∙ row_pass Short _ _ (le-ltb (length c.data_out) 24 w.whole)
      ∙ flags_passed a s.unit.rights c.nexus parameters w.flags

-- ---- the answer

module _ (s : Store) (c : Call) (w : Sends s.format Preempt c) (z : service_key c ≡ 0) (u : T (usable s)) (d : Quiet s c) where
  pub zero_answer_law : (step s c).seen.answer ≡ zero_answer s c
  unfolding zero_answer gave_key sender_key service_key is_registered key_in type_in parameters_of number_in key_wrong stranger
  zero_answer_law =
      sent_answer Preempt s c w u d
      ∙ go (registered c.nexus s.unit.rights.places) (eqb (sender_key c) (key_of c.nexus s.unit.rights.places))
      ∙ ap (λ (x : Answer). cond (registered c.nexus s.unit.rights.places && eqb (sender_key c) (key_of c.nexus s.unit.rights.places)) x Conflict)
      (zero_own s.unit.rights c.nexus (parameters_of w.asked.request c.data_out) z)
    where
      rows : List Row
      rows = action_rows Preempt s.unit.rights c.nexus (parameters_of w.asked.request c.data_out)

      go : (r k : Bool) → first (Conflict if (not r || not k) ∷ rows) ≡ cond (r && k) (first rows) Conflict
      go true true = row_pass Conflict false rows refl
      go true false = row_stop Conflict true rows refl
      go false k = row_stop Conflict true rows refl

-- ---- what it leaves

eqb_swap : (x y : ℕ) → eqb x y ≡ eqb y x
eqb_swap x y = by_equal x y (λ b. b ≡ eqb y x) (λ e. rw e (sym (T_true _ (eqb_refl y)))) (λ d. sym (ne_eqb y x (λ e. d (sym e))))

module _ (s : Store) (c : Call) (w : AsksFor (Alters Preempt) c) (e : IsGood s c) (z : service_key c ≡ 0) where
  is_zero : T (eqb (service_key c) 0)
  is_zero = rw z tt

  sender_there : T (registered c.nexus s.unit.rights.places)
  unfolding makes
  sender_there = altered_sender Preempt s c w e tt

  pub zero_registrations : (n : ℕ) → key_in (after step s c) n ≡ cond (eqb n c.nexus) (key_in s n) 0
  unfolding key_in
  zero_registrations n = ap (λ (r : Rights). key_of n r.places) (taken s c w e is_zero) ∙ taken_key s.unit.rights c.nexus w.request.kind n

  pub zero_type : type_in (after step s c) ≡ w.request.kind
  zero_type = preempt_type s c w e (zero_over s c w e is_zero)

  left_registered : (n : ℕ) → is_registered (after step s c) n ≡ eqb n c.nexus
  unfolding is_registered key_in
  left_registered n =
      registered_key n (after step s c).unit.rights.places ∙ ap (λ (k : ℕ). not (eqb k 0)) (zero_registrations n)
      ∙ by_equal n c.nexus (λ b. not (eqb (cond b (key_of n s.unit.rights.places) 0) 0) ≡ b)
      (λ i. sym (registered_key n s.unit.rights.places) ∙ rw i (T_true _ sender_there)) (λ _. refl)

  pub zero_holders : (n : ℕ) → is_holder (after step s c) n ≡ eqb n c.nexus
  zero_holders n =
      preempt_holders s c w e (zero_over s c w e is_zero) n
      ∙ by_test (all_hold w.request.kind) (λ b. cond b (is_registered (after step s c) n) (eqb c.nexus n) ≡ eqb n c.nexus)
      (λ _. left_registered n) (λ _. eqb_swap c.nexus n)

  pub zero_rises : generation (after step s c) ≡ (generation s + 1) % 2 ^ 32
  unfolding generation taking_over raised with_generation held with_reservation with_places
  zero_rises = ap (λ (r : Rights). r.generation) (taken s c w e is_zero)

  pub zero_alone : ((n : ℕ) → n ≢ c.nexus → key_in s n ≡ 0) → (n : ℕ) → key_in (after step s c) n ≡ key_in s n
  zero_alone none n =
      zero_registrations n ∙ by_equal n c.nexus (λ b. cond b (key_in s n) 0 ≡ key_in s n) (λ _. refl) (λ d. sym (none n d))

  pub zero_keys : (d : Call) (a : AsksFor (Tells Keys) d) → IsGood (after step s c) d
      → (step (after step s c) d).seen ≡ seen_of s.format Good (take (allocation_in a.request) (one_key (generation (after step s c)) (key_in s c.nexus))) d
  unfolding told one_key generation key_in
  zero_keys d a g =
      told_seen Keys (after step s c) d a g ∙ good_any (after step s c).format s.format _ d
      ∙ ap (λ (r : Rights). seen_of s.format Good (take (allocation_in a.request) (keys_data r)) d) (taken s c w e is_zero)
      ∙ ap (λ (bs : List ℕ). seen_of s.format Good (take (allocation_in a.request) bs) d)
      (taken_keys s.unit.rights c.nexus w.request.kind (places_distinct s c w e) sender_there)
      ∙ ap (λ (r : Rights). seen_of s.format Good (take (allocation_in a.request) (one_key r.generation (key_of c.nexus s.unit.rights.places))) d) (sym (taken s c w e is_zero))

  pub zero_reservation : (d : Call) (a : AsksFor (Tells Reservation) d) → IsGood (after step s c) d
      → (step (after step s c) d).seen
      ≡ seen_of s.format Good (take (allocation_in a.request) (one_holder (generation (after step s c)) (key_in s c.nexus) w.request.kind)) d
  unfolding told one_holder generation key_in
  zero_reservation d a g =
      told_seen Reservation (after step s c) d a g ∙ good_any (after step s c).format s.format _ d
      ∙ ap (λ (r : Rights). seen_of s.format Good (take (allocation_in a.request) (reservation_data r)) d) (taken s c w e is_zero)
      ∙ ap (λ (bs : List ℕ). seen_of s.format Good (take (allocation_in a.request) bs) d)
      (taken_reservation s.unit.rights c.nexus w.request.kind (named_type s c w e))
      ∙ ap (λ (r : Rights). seen_of s.format Good (take (allocation_in a.request) (one_holder r.generation (key_of c.nexus s.unit.rights.places) w.request.kind)) d)
      (sym (taken s c w e is_zero))

  -- whoever is not the sender is an outsider
  outside : (n : ℕ) → n ≢ c.nexus → sender_of (after step s c).unit.rights n ≡ outsider
  unfolding sender_of is_holder is_registered
  outside n d = rw (zero_holders n, left_registered n, ne_eqb n c.nexus d)

  pub zero_others : (m : Move) (d : Call) → Asks m d → by_itself s.format d ≡ Good → d.nexus ≢ c.nexus
      → (step (once (after step s c) d.nexus) d).seen.answer ≡ Conflict ↔ T (says conflict_table w.request.kind outsider m)
  unfolding stopped once relieved waiting type_in
  zero_others m d a g o =
      subst (λ (b : Bool). (step (once (after step s c) d.nexus) d).seen.answer ≡ Conflict ↔ T b)
      (ap₂ (λ (k : ℕ) (x : _). says conflict_table k x m) zero_type (outside d.nexus o))
      (conflict_table_law m (once (after step s c) d.nexus) d a (relieved_usable (after step s c) d.nexus (usable_stays s c (good_usable s c e)))
      (ap (λ (x : ℕ). by_itself x d) (format_after s c) ∙ g)
      (none_undue (relieved (after step s c).unit d.nexus) d.nexus d.cdb (returned_own d.nexus (after step s c).unit.attentions)))

pub zero_key : ZeroKey step
zero_key = record {
  answer = zero_answer_law;
  registrations = zero_registrations;
  type = zero_type;
  holders = zero_holders;
  rises = zero_rises;
  alone = zero_alone;
  keys_told = λ s c d w e z. zero_keys s c w e z d;
  reservation_told = λ s c d w e z. zero_reservation s c w e z d;
  others = λ m s c d w e z. zero_others s c w e z m d;
}

-- ---- what has not moved

-- a decision by these rows
abbrev decision : List Row → Rights → Result Rights Answer
decision rows made = unless_refused (first rows) made

pub rules_agree : RulesAgree
unfolding decided decision_rows flag_rows key_wrong action_rows acted former former_rows first_of if_good_by refuses
rules_agree r n o = go (stranger r n o) (eqb o.service 0) (all_hold r.kind) (known o.service r.places)
  where
    go : (x z h k : Bool) → T (not (z && h))
        → decision (Conflict if x ∷ list_field service_key_bits if (z && not h) ∷ Conflict if (not z && not k) ∷ [])
        (cond z (taking_over r n o.kind) (preempting r n o.kind o.service))
        ≡ decision (Conflict if x ∷ list_field service_key_bits if z ∷ Conflict if not k ∷ []) (preempting r n o.kind o.service)
    go true z h k t = refl
    go false true true k t = absurd t
    go false true false k t = refl
    go false false h true t = refl
    go false false h false t = refl
