-- What another nexus is told of each action, by the rights that the action found, its sender and its parameters alone.
-- Assumes nothing.
use mathlib.Core.Path.{◌≡◌, refl, sym, ap, ◌∙◌, subst}
use mathlib.Core.Bool.{Bool, true, false, not, ◌&&◌, ◌||◌, cond, and-true, and-false}
use mathlib.Core.List.{[], ◌∷◌}
use Prim.Native.Nat.{ℕ}
use lib.Dec.{T, eqb, eqb→eq, eqb_refl}
use Rattle.fields.proofs.Tests.{and_l, and_r, both, or_l, or_r, or_other, not_map, not_not_intro, test, by_test, not_eqb_sym, agree, T_true, T_false}
use Rattle.rights.specs.declared.Rights.{Rights}
use Rattle.rights.specs.declared.Action.TheVariants.{Reserve, Clear, Preempt}
use Rattle.rights.specs.Places.{registered, key_of, vacant}
use Rattle.rights.specs.Rights.{is_one_of, one_holds, all_hold, holds, holder_key, rights_ok, with_places, with_reservation, with_generation, ended, raised}
use Rattle.rights.specs.Actions.{registering, reserving, releasing, clearing, preempting, taking_over}
use Rattle.rights.specs.Notices.{removed, for_registrants, released, release_notice, notice}
use Rattle.rights.proofs.Types.{types, every, every_one, agrees_under, agree_under}
use Rattle.rights.proofs.Keeping.{places_apart_law, rights_places}
use Rattle.rights.proofs.Holders.{registered_key, none_registered, key_cleared, preempted_key, preempted_kind, preempted_else, preempted_same, holder_registered, kind_listed, registering_key, registering_others, registering_holds, registering_kind, unregistering_ends}
use Rattle.rights.proofs.TakingOver.{taken_key}

-- ---- what is told of a reservation, by its type after the action

-- of a type from 5 to 8, one holds or all do
for_ways : {X : Type 0} (kind : ℕ) → T (for_registrants kind) → (T (one_holds kind) → X) → (T (all_hold kind) → X) → X
unfolding for_registrants every is_one_of one_holds all_hold
for_ways kind t f g =
    test (one_holds kind) f (λ o. g (or_other (one_holds kind) (all_hold kind) o (every_one (λ x. one_holds x || all_hold x) kind (5 ∷ 6 ∷ 7 ∷ 8 ∷ []) tt t)))

-- and it is not none
for_some : (kind : ℕ) → T (for_registrants kind) → T (not (eqb 0 kind))
unfolding for_registrants every is_one_of
for_some kind t = every_one (λ x. not (eqb 0 x)) kind (5 ∷ 6 ∷ 7 ∷ 8 ∷ []) tt t

-- "2A/04 reservations released", where a test says so
abbrev told : Bool → ℕ
told b = cond b 3 0

-- the type after the action counts only where it was one of 5 to 8 before and m is registered after
release_told : (before after : Rights) (m kind : ℕ)
    → (T (for_registrants before.kind) → T (registered m after.places) → after.kind ≡ kind)
    → release_notice before after m ≡ told (registered m after.places && (for_registrants before.kind && not (eqb kind before.kind)))
unfolding release_notice released
release_told before after m kind f = ap told (go (for_registrants before.kind) (registered m after.places) f)
  where
    go : (t g : Bool) → (T t → T g → after.kind ≡ kind) → ((t && not (eqb after.kind before.kind)) && g) ≡ (g && (t && not (eqb kind before.kind)))
    go true true h = rw (h tt tt, and-true (not (eqb kind before.kind)))
    go true false h = and-false (not (eqb after.kind before.kind))
    go false true h = refl
    go false false h = refl

-- such a reservation ended, or stayed
ended_told : (kind : ℕ) (b : Bool) → (for_registrants kind && not (eqb (cond b 0 kind) kind)) ≡ (for_registrants kind && b)
ended_told kind true =
    by_test (for_registrants kind) (λ t. (T t → T (not (eqb 0 kind))) → (t && not (eqb 0 kind)) ≡ (t && true)) (λ _ h. T_true _ (h tt)) (λ _ _. refl) (for_some kind)
ended_told kind false = rw (T_true (eqb kind kind) (eqb_refl kind))

-- ---- who holds

by_one : (r : Rights) → T (one_holds r.kind) → T (holds r r.holder)
unfolding holds
by_one r o =
    or_l (one_holds r.kind && eqb r.holder r.holder) (all_hold r.kind && registered r.holder r.places)
    (both (one_holds r.kind) (eqb r.holder r.holder) o (eqb_refl r.holder))

by_all : (r : Rights) (m : ℕ) → T (all_hold r.kind) → T (registered m r.places) → T (holds r m)
unfolding holds
by_all r m a g =
    or_r (one_holds r.kind && eqb r.holder m) (all_hold r.kind && registered m r.places) (both (all_hold r.kind) (registered m r.places) a g)

-- ---- REGISTER, with and without the key test

module _ (r : Rights) (n k : ℕ) (ok : T (rights_ok r)) where
  -- nobody else comes or goes
  others_left : (x : ℕ) → T (not (eqb n x)) → registered x (registering r n k).places ≡ registered x r.places
  others_left x d =
      registered_key x (registering r n k).places ∙ ap (λ (y : ℕ). not (eqb y 0)) (registering_others r n k x d) ∙ sym (registered_key x r.places)

  -- the sender stays where it gives another key
  sender_left : T (registered n r.places) → T (not (eqb k 0)) → T (registered n (registering r n k).places)
  sender_left u z = rw (registered_key n (registering r n k).places, registering_key r n k placed) z
    where
      placed : T (not (not (registered n r.places) && not (eqb k 0) && not (vacant r.places)))
      placed =
          not_map (not (registered n r.places)) (not (registered n r.places) && not (eqb k 0) && not (vacant r.places))
          (λ h. and_l (not (registered n r.places)) (not (eqb k 0)) (and_l (not (registered n r.places) && not (eqb k 0)) (not (vacant r.places)) h))
          (not_not_intro (registered n r.places) u)

  -- does the one that holds unregister
  abbrev leaves : Bool
  leaves = eqb k 0 && (one_holds r.kind && eqb r.holder n)

  leaving : T leaves → (registering r n k).kind ≡ 0
  leaving t =
      unregistering_ends r n k (and_l (eqb k 0) (one_holds r.kind && eqb r.holder n) t) one is
      (subst (λ (x : ℕ). T (registered x r.places)) is (holder_registered r ok one))
    where
      holds_n : T (one_holds r.kind && eqb r.holder n)
      holds_n = and_r (eqb k 0) (one_holds r.kind && eqb r.holder n) t

      one : T (one_holds r.kind)
      one = and_l (one_holds r.kind) (eqb r.holder n) holds_n

      is : r.holder ≡ n
      is = eqb→eq r.holder n (and_r (one_holds r.kind) (eqb r.holder n) holds_n)

  -- if not, it is still registered, and what is held is of the type that it was
  module _ (t : T (not leaves)) where
    still_one : T (one_holds r.kind) → T (registered r.holder (registering r n k).places)
    still_one o =
        test (eqb r.holder n)
        (λ h. subst (λ (x : ℕ). T (registered x (registering r n k).places)) (sym (eqb→eq r.holder n h))
        (sender_left (subst (λ (x : ℕ). T (registered x r.places)) (eqb→eq r.holder n h) (holder_registered r ok o))
        (not_map leaves (eqb k 0) (λ z. both (eqb k 0) (one_holds r.kind && eqb r.holder n) z (both (one_holds r.kind) (eqb r.holder n) o h)) t)))
        (λ h. subst T (sym (others_left r.holder (not_eqb_sym r.holder n h))) (holder_registered r ok o))

    same_kind : (x : ℕ) → T (holds r x) → T (registered x (registering r n k).places) → (registering r n k).kind ≡ r.kind
    same_kind x h g =
        registering_kind r n k x (subst T (sym (registering_holds r n k x ok))
        (both (registered x (registering r n k).places) (holds r x || all_hold r.kind) g (or_l (holds r x) (all_hold r.kind) h)))

  -- the type after it, where m is left to be told
  registering_type : (m : ℕ) → T (not (eqb n m)) → T (for_registrants r.kind) → T (registered m (registering r n k).places)
      → (registering r n k).kind ≡ cond leaves 0 r.kind
  registering_type m d f g =
      by_test leaves (λ b. (registering r n k).kind ≡ cond b 0 r.kind) leaving
      (λ t. for_ways r.kind f (λ o. same_kind t r.holder (by_one r o) (still_one t o)) (λ a. same_kind t m (by_all r m a (subst T (others_left m d) g)) g))

-- of the types 5 to 8 it is 5 and 6 that one nexus holds
one_ends : (kind : ℕ) (a b : Bool) → T (is_one_of kind types)
    → (for_registrants kind && (one_holds kind && a)) ≡ (is_one_of kind (5 ∷ 6 ∷ []) && ((one_holds kind && a) || (all_hold kind && b)))
unfolding every agrees_under agree for_registrants one_holds all_hold is_one_of
one_ends kind a b t =
    agree_under (λ x a b. for_registrants x && (one_holds x && a)) (λ x a b. is_one_of x (5 ∷ 6 ∷ []) && ((one_holds x && a) || (all_hold x && b))) types tt kind a b t

-- where the holder unregisters and so ends a reservation of type 5 or 6, all others who are registered are told
pub registering_notice : (r : Rights) (n k m : ℕ) → T (rights_ok r) → T (not (eqb n m))
    → release_notice r (registering r n k) m ≡ cond (registered m r.places && (eqb k 0 && (is_one_of r.kind (5 ∷ 6 ∷ []) && holds r n))) 3 0
unfolding holds
registering_notice r n k m ok d =
    release_told r (registering r n k) m (cond (leaves r n k ok) 0 r.kind) (registering_type r n k ok m d)
    ∙ ap (λ (b : Bool). told (registered m (registering r n k).places && b))
    (ended_told r.kind (leaves r n k ok)
    ∙ go (eqb k 0) (for_registrants r.kind) (one_holds r.kind && eqb r.holder n)
    ∙ ap (λ (b : Bool). eqb k 0 && b) (one_ends r.kind (eqb r.holder n) (registered n r.places) (kind_listed r ok)))
    ∙ ap (λ (b : Bool). told (b && (eqb k 0 && (is_one_of r.kind (5 ∷ 6 ∷ []) && holds r n)))) (others_left r n k ok m d)
  where
    go : (z f b : Bool) → (f && (z && b)) ≡ (z && (f && b))
    go true f b = refl
    go false f b = and-false f

-- ---- RESERVE

-- nobody is told
pub reserving_notice : (r : Rights) (n kind m : ℕ) → notice Reserve r (reserving r n kind) m ≡ 0
unfolding notice
reserving_notice r n kind m = refl

-- ---- RELEASE

-- where it ends a reservation of type 5 to 8, all who are registered are told
pub releasing_notice : (r : Rights) (n m : ℕ)
    → release_notice r (releasing r n) m ≡ cond (registered m r.places && (for_registrants r.kind && holds r n)) 3 0
unfolding releasing ended with_reservation
releasing_notice r n m =
    release_told r (releasing r n) m (cond (holds r n) 0 r.kind) (λ _ _. by_test (holds r n) (λ b. (cond b (ended r) r).kind ≡ cond b 0 r.kind) (λ _. refl) (λ _. refl))
    ∙ ap (λ (b : Bool). told (registered m (releasing r n).places && b)) (ended_told r.kind (holds r n))
    ∙ by_test (holds r n)
    (λ b. told (registered m (cond b (ended r) r).places && (for_registrants r.kind && holds r n))
    ≡ told (registered m r.places && (for_registrants r.kind && holds r n))) (λ _. refl) (λ _. refl)

-- ---- CLEAR

-- all who were registered are told, for all are removed
pub clearing_notice : (r : Rights) (m : ℕ) → notice Clear r (clearing r) m ≡ cond (registered m r.places) 2 0
unfolding notice removed clearing raised with_generation ended with_reservation with_places
clearing_notice r m =
    rw (T_false (registered m (clearing r).places) (none_registered m (clearing r).places (key_cleared m r.places)), and-true (registered m r.places))

-- ---- PREEMPT of a key

module _ (r : Rights) (n kind k : ℕ) (ok : T (rights_ok r)) where
  -- who is left; the sender may be spared
  preempted_left : (m : ℕ) → T (not (eqb (holder_key r) k && eqb m n))
      → registered m (preempting r n kind k).places ≡ (registered m r.places && not (eqb (key_of m r.places) k))
  preempted_left m d =
      registered_key m (preempting r n kind k).places
      ∙ ap (λ (x : ℕ). not (eqb x 0))
      (preempted_key r n kind k m (places_apart_law r.places (rights_places r ok))
      ∙ ap (λ (b : Bool). cond (eqb (key_of m r.places) k && not b) 0 (key_of m r.places)) (T_false (eqb (holder_key r) k && eqb m n) d))
      ∙ go (eqb (key_of m r.places) k)
      ∙ ap (λ (b : Bool). b && not (eqb (key_of m r.places) k)) (sym (registered_key m r.places))
    where
      go : (e : Bool) → not (eqb (cond (e && true) 0 (key_of m r.places)) 0) ≡ (not (eqb (key_of m r.places) 0) && not e)
      go true = sym (and-false (not (eqb (key_of m r.places) 0)))
      go false = sym (and-true (not (eqb (key_of m r.places) 0)))

  -- where the key is not the holder's, and one is left to be told, the type stays
  module _ (t : T (not (eqb (holder_key r) k))) where
    all_left : (m : ℕ) → registered m (preempting r n kind k).places ≡ (registered m r.places && not (eqb (key_of m r.places) k))
    all_left m = preempted_left m (not_map (eqb (holder_key r) k) (eqb (holder_key r) k && eqb m n) (and_l (eqb (holder_key r) k) (eqb m n)) t)

    same_type : (m : ℕ) → T (holds r m) → T (registered m (preempting r n kind k).places) → (preempting r n kind k).kind ≡ r.kind
    same_type m h g =
        preempted_same r n kind k m t (subst T (sym (preempted_else r n kind k m t)) (both (holds r m) (registered m (preempting r n kind k).places) h g))

    holder_left : T (one_holds r.kind) → T (registered r.holder (preempting r n kind k).places)
    unfolding holder_key
    holder_left o =
        subst T (sym (all_left r.holder))
        (both (registered r.holder r.places) (not (eqb (key_of r.holder r.places) k)) (holder_registered r ok o)
        (subst (λ (b : Bool). T (not (eqb (cond b (key_of r.holder r.places) 0) k))) (T_true (one_holds r.kind) o) t))

    type_left : (m : ℕ) → T (for_registrants r.kind) → T (registered m (preempting r n kind k).places) → (preempting r n kind k).kind ≡ r.kind
    type_left m f g =
        for_ways r.kind f (λ o. same_type r.holder (by_one r o) (holder_left o))
        (λ a. same_type m (by_all r m a (and_l (registered m r.places) (not (eqb (key_of m r.places) k)) (subst T (all_left m) g))) g)

  preempted_type : (m : ℕ) → T (for_registrants r.kind) → T (registered m (preempting r n kind k).places)
      → (preempting r n kind k).kind ≡ cond (eqb (holder_key r) k) kind r.kind
  preempted_type m f g =
      by_test (eqb (holder_key r) k) (λ b. (preempting r n kind k).kind ≡ cond b kind r.kind) (preempted_kind r n kind k) (λ t. type_left t m f g)

-- those with the key are told that they were removed; the others who are registered, that a reservation of type 5 to 8 changed its type
pub preempting_notice : (r : Rights) (n kind k m : ℕ) → T (rights_ok r) → T (not (eqb n m))
    → notice Preempt r (preempting r n kind k) m
    ≡ cond (registered m r.places && eqb (key_of m r.places) k) 1
    (cond (registered m r.places && (eqb (holder_key r) k && (for_registrants r.kind && not (eqb kind r.kind)))) 3 0)
unfolding notice removed
preempting_notice r n kind k m ok d =
    ap (cond (registered m r.places && not (registered m (preempting r n kind k).places)) 1)
    (release_told r (preempting r n kind k) m (cond (eqb (holder_key r) k) kind r.kind) (preempted_type r n kind k ok m))
    ∙ rw (preempted_left r n kind k ok m other)
    (go (registered m r.places) (eqb (key_of m r.places) k) (eqb (holder_key r) k) (for_registrants r.kind) 1 3 0)
  where
    other : T (not (eqb (holder_key r) k && eqb m n))
    other = not_map (eqb m n) (eqb (holder_key r) k && eqb m n) (and_r (eqb (holder_key r) k) (eqb m n)) (not_eqb_sym n m d)

    go : (g e w f : Bool) (x y z : ℕ)
        → cond (g && not (g && not e)) x (cond ((g && not e) && (f && not (eqb (cond w kind r.kind) r.kind))) y z)
        ≡ cond (g && e) x (cond (g && (w && (f && not (eqb kind r.kind)))) y z)
    go true true w f x y z = refl
    go true false true f x y z = refl
    go true false false f x y z = rw (T_true (eqb r.kind r.kind) (eqb_refl r.kind), and-false f)
    go false e w f x y z = refl

-- ---- PREEMPT with the key 0

-- all others who were registered are told, for all but the sender are removed
pub taking_notice : (r : Rights) (n kind m : ℕ) → T (not (eqb n m)) → notice Preempt r (taking_over r n kind) m ≡ cond (registered m r.places) 1 0
unfolding notice removed release_notice
taking_notice r n kind m d =
    rw (T_false (registered m (taking_over r n kind).places) left) (go (registered m r.places) (released r (taking_over r n kind)) 1 3 0)
  where
    left : T (not (registered m (taking_over r n kind).places))
    left =
        none_registered m (taking_over r n kind).places
        (taken_key r n kind m ∙ ap (λ (b : Bool). cond b (key_of m r.places) 0) (T_false (eqb m n) (not_eqb_sym n m d)))

    go : (g b : Bool) (x y z : ℕ) → cond (g && true) x (cond (b && false) y z) ≡ cond g x z
    go true b x y z = refl
    go false true x y z = refl
    go false false x y z = refl
