-- Reservations as those put it who use them, proved of `step`.
-- Assumes nothing.
use mathlib.Core.Path.{◌≡◌, refl, sym, ap, ◌∙◌, subst}
use mathlib.Core.Bool.{Bool, true, false, not, ◌&&◌, ◌||◌, cond}
use Prim.Native.Nat.{ℕ}
use lib.Dec.{T, eqb, eqb→eq}
use Rattle.fields.specs.Bits.{number_in}
use Rattle.fields.proofs.Tests.{both, or_r, not_map, nand_rest, not_not, test, by_test, false→T}
use Rattle.answers.specs.declared.Answer.TheVariants.{Good, Conflict}
use Rattle.answers.specs.Answers.{list_field, no_place, other_type, number_of}
use Rattle.answers.specs.Order.{first, refuses}
use Rattle.answers.proofs.OrderLaws.{row_fails}
use Rattle.rights.specs.declared.Rights.{Rights}
use Rattle.rights.specs.declared.Action.{Action}
use Rattle.rights.specs.declared.Action.TheVariants.{Register, Reserve, Release, Clear, Preempt, RegisterIgnoring}
use Rattle.rights.specs.declared.Parameters.{Parameters}
use Rattle.rights.specs.Places.{registered, key_of}
use Rattle.rights.specs.Rights.{is_type, one_holds, all_hold, holds, holder_key, places_apart, with_places, with_reservation, with_generation, held, ended, raised}
use Rattle.rights.specs.Actions.{service_key_bits, crowded, action_rows, registering, reserving, clearing, releasing, preempting, taking_over, acted}
use Rattle.rights.proofs.Keeping.{makes, places_apart_law, rights_places}
use Rattle.rights.proofs.Holders.{holder_registered, key_cleared, none_registered, holder_key_law, holder_is, preempted_key, preempted_kind, preempted_over, preempted_else, preempted_same, reserving_kind, reserving_holds, registering_key, registering_others, registering_holds, registering_kind, unregistering_ends}
use Rattle.rights.proofs.TakingOver.{taken_key, taken_kind, taken_holds}
use Rattle.forms.specs.declared.Tell.TheVariants.{Keys, Reservation}
use Rattle.forms.specs.declared.Command.{Command}
use Rattle.forms.specs.declared.Command.TheVariants.{Tells, Moves, Alters}
use Rattle.forms.specs.declared.Request.{Request}
use Rattle.forms.specs.Forms.{Asked, nothing, asks, asked_of}
use Rattle.store.specs.Store.{Store, Call, with_unit, relieved, enacted}
use Rattle.store.specs.Alter.{parameters_of}
use Rattle.store.specs.Tell.{told}
use Rattle.store.specs.Step.{command_store, store_by, step}
use Rattle.demands.specs.History.{after}
use Rattle.demands.specs.Generation.{service_key}
use Rattle.demands.specs.Contents.{AsksFor, IsGood}
use Rattle.demands.specs.Reservations.{key_in, is_registered, is_holder, type_in, takes_over, preempts, action_touches, command_touches, asked_touches, touches, registers, Reservations}
use Rattle.demands.proofs.Moving.{done_after, after_ways}
use Rattle.demands.proofs.Telling.{told_seen}
use Rattle.demands.proofs.Conflicts.{conflict_table_law, tells_pass}
use Rattle.demands.proofs.Altering.{altered_store, altered, altered_own, altered_sender, altered_ok, altered_type}
use Rattle.store.proofs.StoreLaws.{enacted_still}
use mathlib.Core.Logic.{◌≢◌}

-- ---- CLEAR

module _ (s : Store) (c : Call) (w : AsksFor (Alters Clear) c) (e : IsGood s c) where
  pub clear_registrations : (n : ℕ) → T (not (is_registered (after step s c) n))
  unfolding is_registered acted clearing raised with_generation ended with_reservation with_places
  clear_registrations n =
      subst (λ (r : Rights). T (not (registered n r.places))) (sym (altered Clear s c w e))
      (none_registered n _ (key_cleared n s.unit.rights.places))

  pub clear_reservation : type_in (after step s c) ≡ 0
  unfolding type_in acted clearing raised with_generation ended with_reservation
  clear_reservation = ap (λ (r : Rights). r.kind) (altered Clear s c w e)

-- ---- PREEMPT

-- where the key 0 takes over, the sender alone is spared
spared_alone : (k z o x : Bool) (key : ℕ) → T z → T o → cond x key 0 ≡ cond ((k || z) && not (o && x)) 0 key
spared_alone true true true true key s t = refl
spared_alone true true true false key s t = refl
spared_alone false true true true key s t = refl
spared_alone false true true false key s t = refl
spared_alone k false o x key s t = absurd s
spared_alone k true false x key s t = absurd t

-- and where the key is not 0, those with the key are named
named_alone : (k z o x : Bool) (key : ℕ) → T (not z) → cond (k && not (o && x)) 0 key ≡ cond ((k || z) && not (o && x)) 0 key
named_alone k true o x key s = absurd s
named_alone true false o x key s = refl
named_alone false false o x key s = refl

not_zero_law : (a b z : Bool) → T (not z) → a ≡ (a || (b && z))
not_zero_law a b true t = absurd t
not_zero_law true b false t = refl
not_zero_law false true false t = refl
not_zero_law false false false t = refl

one_way : (b : Bool) (x y : Rights) → T b → cond b x y ≡ x
one_way true x y t = refl
one_way false x y t = absurd t

other_way : (b : Bool) (x y : Rights) → T (not b) → cond b x y ≡ y
other_way true x y t = absurd t
other_way false x y t = refl

module _ (s : Store) (c : Call) (w : AsksFor (Alters Preempt) c) (e : IsGood s c) where
  preempted : (after step s c).unit.rights
      ≡ cond (eqb (service_key c) 0) (taking_over s.unit.rights c.nexus w.request.kind)
      (preempting s.unit.rights c.nexus w.request.kind (service_key c))
  unfolding acted parameters_of number_in service_key
  preempted = altered Preempt s c w e

  pub places_distinct : T (places_apart s.unit.rights.places)
  places_distinct = places_apart_law _ (rights_places s.unit.rights (altered_ok Preempt s c w e))

  pub named_type : T (is_type w.request.kind)
  unfolding makes
  named_type = altered_type Preempt s c w e tt

  -- the key 0 takes over, since it is refused but under 7 and 8
  module _ (z : T (eqb (service_key c) 0)) where
    pub taken : (after step s c).unit.rights ≡ taking_over s.unit.rights c.nexus w.request.kind
    taken = preempted ∙ one_way (eqb (service_key c) 0) _ _ z

    for_all : T (all_hold (type_in s))
    unfolding type_in service_key parameters_of number_in action_rows refuses
    for_all =
        not_not (all_hold s.unit.rights.kind) (nand_rest (eqb (service_key c) 0) (not (all_hold s.unit.rights.kind)) z
        (false→T _ (row_fails (list_field service_key_bits) _ _ tt (altered_own Preempt s c w e))))

    pub zero_over : T (takes_over s c)
    unfolding takes_over
    zero_over =
        or_r (one_holds (type_in s) && eqb (key_in s s.unit.rights.holder) (service_key c)) (all_hold (type_in s) && eqb (service_key c) 0) (both (all_hold (type_in s)) (eqb (service_key c) 0) for_all z)

  -- another key takes over where it is the holder's
  module _ (z : T (not (eqb (service_key c) 0))) where
    by_key : (after step s c).unit.rights ≡ preempting s.unit.rights c.nexus w.request.kind (service_key c)
    by_key = preempted ∙ other_way (eqb (service_key c) 0) _ _ z

    over_is : eqb (holder_key s.unit.rights) (service_key c) ≡ takes_over s c
    unfolding takes_over type_in key_in
    over_is = holder_key_law s.unit.rights (service_key c) z ∙ not_zero_law _ (all_hold s.unit.rights.kind) (eqb (service_key c) 0) z

  pub preempt_registrations : (n : ℕ) → key_in (after step s c) n ≡ cond (preempts s c n) 0 (key_in s n)
  unfolding key_in preempts
  preempt_registrations n =
      test (eqb (service_key c) 0)
      (λ z. ap (λ (r : Rights). key_of n r.places) (taken z) ∙ taken_key s.unit.rights c.nexus w.request.kind n
      ∙ spared_alone (eqb (key_in s n) (service_key c)) (eqb (service_key c) 0) (takes_over s c) (eqb n c.nexus) (key_in s n) z (zero_over z))
      (λ z. ap (λ (r : Rights). key_of n r.places) (by_key z)
      ∙ preempted_key s.unit.rights c.nexus w.request.kind (service_key c) n places_distinct
      ∙ ap (λ (b : Bool). cond (eqb (key_in s n) (service_key c) && not (b && eqb n c.nexus)) 0 (key_in s n)) (over_is z)
      ∙ named_alone (eqb (key_in s n) (service_key c)) (eqb (service_key c) 0) (takes_over s c) (eqb n c.nexus) (key_in s n) z)

  module _ (t : T (takes_over s c)) where
    over : (z : T (not (eqb (service_key c) 0))) → T (eqb (holder_key s.unit.rights) (service_key c))
    over z = subst T (sym (over_is z)) t

    pub preempt_type : type_in (after step s c) ≡ w.request.kind
    unfolding type_in
    preempt_type =
        test (eqb (service_key c) 0)
        (λ z. ap (λ (r : Rights). r.kind) (taken z) ∙ taken_kind s.unit.rights c.nexus w.request.kind)
        (λ z. ap (λ (r : Rights). r.kind) (by_key z) ∙ preempted_kind s.unit.rights c.nexus w.request.kind (service_key c) (over z))

    pub preempt_holders : (n : ℕ) → is_holder (after step s c) n ≡ cond (all_hold w.request.kind) (is_registered (after step s c) n) (eqb c.nexus n)
    unfolding is_holder is_registered
    preempt_holders n =
        test (eqb (service_key c) 0)
        (λ z. subst Held (sym (taken z)) (taken_holds s.unit.rights c.nexus w.request.kind n named_type))
        (λ z. subst Held (sym (by_key z)) (preempted_over s.unit.rights c.nexus w.request.kind (service_key c) n named_type (over z)))
      where
        Held : Rights → Type 0
        Held r = holds r n ≡ cond (all_hold w.request.kind) (registered n r.places) (eqb c.nexus n)

  module _ (t : T (not (takes_over s c))) where
    not_taken : T (not (eqb (service_key c) 0))
    not_taken = not_map (takes_over s c) (eqb (service_key c) 0) zero_over t

    not_over : T (not (eqb (holder_key s.unit.rights) (service_key c)))
    not_over = subst (λ (b : Bool). T (not b)) (sym (over_is not_taken)) t

    pub preempt_holders_left : (n : ℕ) → is_holder (after step s c) n ≡ (is_holder s n && is_registered (after step s c) n)
    unfolding is_holder is_registered
    preempt_holders_left n =
        subst (λ (r : Rights). holds r n ≡ (holds s.unit.rights n && registered n r.places)) (sym (by_key not_taken))
        (preempted_else s.unit.rights c.nexus w.request.kind (service_key c) n not_over)

    pub preempt_type_left : (n : ℕ) → T (is_holder (after step s c) n) → type_in (after step s c) ≡ type_in s
    unfolding is_holder type_in
    preempt_type_left n =
        subst (λ (r : Rights). T (holds r n) → r.kind ≡ s.unit.rights.kind) (sym (by_key not_taken))
        (preempted_same s.unit.rights c.nexus w.request.kind (service_key c) n not_over)

-- ---- RESERVE

module _ (s : Store) (c : Call) (w : AsksFor (Alters Reserve) c) (e : IsGood s c) where
  sender_there : T (registered c.nexus s.unit.rights.places)
  unfolding makes
  sender_there = altered_sender Reserve s c w e tt

  pub reserve_holds : T (is_holder (after step s c) c.nexus)
  unfolding is_holder acted action_rows parameters_of refuses makes
  reserve_holds =
      subst (λ (r : Rights). T (holds r c.nexus)) (sym (altered Reserve s c w e))
      (reserving_holds s.unit.rights c.nexus w.request.kind (altered_type Reserve s c w e tt) sender_there
      (false→T _ (row_fails Conflict _ _ tt (altered_own Reserve s c w e))))

  pub reserve_type : type_in (after step s c) ≡ w.request.kind
  unfolding type_in acted action_rows parameters_of refuses makes
  reserve_type =
      ap (λ (r : Rights). r.kind) (altered Reserve s c w e)
      ∙ reserving_kind s.unit.rights c.nexus w.request.kind (altered_type Reserve s c w e tt) sender_there
      (false→T _ (row_fails Conflict _ _ tt (altered_own Reserve s c w e)))

-- ---- RELEASE

module _ (s : Store) (c : Call) (w : AsksFor (Alters Release) c) where
  pub release_type : IsGood s c → T (is_holder s c.nexus) → type_in s ≡ w.request.kind
  unfolding is_holder type_in action_rows parameters_of refuses
  release_type e t =
      eqb→eq s.unit.rights.kind w.request.kind (not_not (eqb s.unit.rights.kind w.request.kind)
      (nand_rest (holds s.unit.rights c.nexus) (not (eqb s.unit.rights.kind w.request.kind)) t
      (false→T (holds s.unit.rights c.nexus && not (eqb s.unit.rights.kind w.request.kind))
      (row_fails other_type _ _ tt (altered_own Release s c w e)))))

  pub release_ends : IsGood s c → T (is_holder s c.nexus) → type_in (after step s c) ≡ 0
  unfolding is_holder type_in acted releasing ended with_reservation
  release_ends e t =
      ap (λ (r : Rights). r.kind) (altered Release s c w e)
      ∙ by_test (holds s.unit.rights c.nexus) (λ b. T b → (cond b (ended s.unit.rights) s.unit.rights).kind ≡ 0) (λ _ _. refl) (λ _ h. absurd h) t

  pub release_nothing : T (not (is_holder s c.nexus)) → number_of (step s c).seen.answer ≢ 13 → after step s c ≡ s
  unfolding is_holder acted releasing
  release_nothing t n =
      after_ways s c (λ x. x ≡ s)
      (λ e. done_after s c e ∙ altered_store Release s c w
      ∙ by_test (holds s.unit.rights c.nexus)
      (λ b. T (not b) → with_unit s (enacted Release c.nexus s.unit (cond b (ended s.unit.rights) s.unit.rights)) ≡ s) (λ _ h. absurd h)
      (λ _ _. ap (with_unit s) (enacted_still Release c.nexus s.unit)) t) refl (λ e. absurd (n e))

-- ---- REGISTER

-- actions 0 and 6 are the same where nothing refuses them
pub registers_acted : (a : Action) (r : Rights) (n : ℕ) (o : Parameters) → T (registers a) → acted a r n o ≡ registering r n o.service
unfolding registers acted
registers_acted Register r n o t = refl
registers_acted Reserve r n o t = absurd t
registers_acted Release r n o t = absurd t
registers_acted Clear r n o t = absurd t
registers_acted Preempt r n o t = absurd t
registers_acted RegisterIgnoring r n o t = refl

registers_room : (a : Action) (r : Rights) (n : ℕ) (o : Parameters) → T (registers a) → first (action_rows a r n o) ≡ Good → T (not (crowded r n o))
unfolding registers action_rows refuses
registers_room Register r n o t e = false→T (crowded r n o) (row_fails no_place _ _ tt e)
registers_room Reserve r n o t e = absurd t
registers_room Release r n o t e = absurd t
registers_room Clear r n o t e = absurd t
registers_room Preempt r n o t e = absurd t
registers_room RegisterIgnoring r n o t e = false→T (crowded r n o) (row_fails no_place _ _ tt e)

module _ (a : Action) (k : T (registers a)) (s : Store) (c : Call) (w : AsksFor (Alters a) c) (e : IsGood s c) where
  registered_as : (after step s c).unit.rights ≡ registering s.unit.rights c.nexus (service_key c)
  unfolding parameters_of number_in service_key
  registered_as = altered a s c w e ∙ registers_acted a s.unit.rights c.nexus (parameters_of w.request c.data_out) k

  pub register_key : key_in (after step s c) c.nexus ≡ service_key c
  unfolding key_in crowded parameters_of number_in service_key
  register_key =
      ap (λ (r : Rights). key_of c.nexus r.places) registered_as
      ∙ registering_key s.unit.rights c.nexus (service_key c)
      (registers_room a s.unit.rights c.nexus (parameters_of w.request c.data_out) k (altered_own a s c w e))

  pub register_holders : (n : ℕ) → is_holder (after step s c) n ≡ (is_registered (after step s c) n && (is_holder s n || all_hold (type_in s)))
  unfolding is_holder is_registered type_in
  register_holders n =
      subst (λ (r : Rights). holds r n ≡ (registered n r.places && (holds s.unit.rights n || all_hold s.unit.rights.kind))) (sym registered_as)
      (registering_holds s.unit.rights c.nexus (service_key c) n (altered_ok a s c w e))

  pub register_type : (n : ℕ) → T (is_holder (after step s c) n) → type_in (after step s c) ≡ type_in s
  unfolding is_holder type_in
  register_type n =
      subst (λ (r : Rights). T (holds r n) → r.kind ≡ s.unit.rights.kind) (sym registered_as)
      (registering_kind s.unit.rights c.nexus (service_key c) n)

  pub holder_unregisters : service_key c ≡ 0 → T (one_holds (type_in s)) → T (is_holder s c.nexus) → type_in (after step s c) ≡ 0
  unfolding type_in is_holder
  holder_unregisters z o h =
      let is : s.unit.rights.holder ≡ c.nexus = holder_is s.unit.rights c.nexus o h in
      ap (λ (r : Rights). r.kind) registered_as
      ∙ unregistering_ends s.unit.rights c.nexus (service_key c) (rw z tt) o is
      (subst (λ (n : ℕ). T (registered n s.unit.rights.places)) is (holder_registered s.unit.rights (altered_ok a s c w e) o))

-- ---- whose registrations a call changes

action_others : (a : Action) (r : Rights) (n m : ℕ) (o : Parameters) → T (not (action_touches a n m)) → key_of m (acted a r n o).places ≡ key_of m r.places
unfolding action_touches acted reserving held releasing ended with_reservation
action_others Register r n m o t = registering_others r n o.service m t
action_others Reserve r n m o t =
    by_test (eqb r.kind 0) (λ b. key_of m (cond b (held r o.kind n) r).places ≡ key_of m r.places) (λ _. refl) (λ _. refl)
action_others Release r n m o t = by_test (holds r n) (λ b. key_of m (cond b (ended r) r).places ≡ key_of m r.places) (λ _. refl) (λ _. refl)
action_others Clear r n m o t = absurd t
action_others Preempt r n m o t = absurd t
action_others RegisterIgnoring r n m o t = registering_others r n o.service m t

command_others : (k : Command) (q : Request) (s : Store) (c : Call) (m : ℕ) → T (not (command_touches k c.nexus m)) → key_in (command_store k q s c) m ≡ key_in s m
unfolding command_touches command_store key_in enacted
command_others (Tells t) q s c m h = refl
command_others (Moves x) q s c m h = refl
command_others (Alters a) q s c m h = action_others a s.unit.rights c.nexus m (parameters_of q c.data_out) h

asked_others : (x : Asked) (s : Store) (c : Call) (m : ℕ) → T (not (asked_touches x c.nexus m)) → key_in (store_by x s c) m ≡ key_in s m
unfolding asked_touches store_by
asked_others nothing s c m h = refl
asked_others (asks q) s c m h = command_others q.command q s c m h

pub registration_stays : (s : Store) (c : Call) (n : ℕ) → T (not (touches c n)) → key_in (after step s c) n ≡ key_in s n
unfolding touches key_in relieved
registration_stays s c n h =
    after_ways s c (λ x. key_in x n ≡ key_in s n) (λ e. ap (λ (x : Store). key_in x n) (done_after s c e) ∙ asked_others (asked_of c.cdb) s c n h) refl (λ _. refl)

-- ---- all of them

pub reservations : Reservations step
unfolding told
reservations = record {
  clear_registrations = clear_registrations;
  clear_reservation = clear_reservation;
  preempt_registrations = preempt_registrations;
  preempt_type = preempt_type;
  preempt_holders = preempt_holders;
  preempt_holders_left = preempt_holders_left;
  preempt_type_left = preempt_type_left;
  reserve_holds = reserve_holds;
  reserve_type = reserve_type;
  release_type = release_type;
  release_ends = release_ends;
  release_nothing = release_nothing;
  register_key = register_key;
  register_holders = register_holders;
  register_type = register_type;
  registration_stays = registration_stays;
  holder_unregisters = holder_unregisters;
  keys_told = told_seen Keys;
  reservation_told = told_seen Reservation;
  conflict_table_law = conflict_table_law;
  others_pass = tells_pass;
}
