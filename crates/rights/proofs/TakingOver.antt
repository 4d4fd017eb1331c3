-- PREEMPT with the key 0: its answer, and who is registered, who holds and what is told after it.
-- Assumes nothing.
use mathlib.Core.Path.{◌≡◌, refl, sym, ap, ◌∙◌, subst}
use mathlib.Core.Bool.{Bool, false, not, cond}
use mathlib.Core.List.{List, [], ◌∷◌, ◌++◌, append-nil, map}
use Prim.Native.Nat.{ℕ}
use lib.Dec.{T, eqb}
use borrow.Author.Tests.{ne_eqb}
use Rattle.fields.specs.Bytes.{zeros}
use Rattle.fields.specs.Field.{bytes}
use Rattle.fields.proofs.FieldLaws.{length_bytes}
use Rattle.fields.proofs.Tests.{nor_l, nor_r, or_other, test, by_test, by_equal, not_eqb_sym, T_true, T_false, true→T, false→T}
use Rattle.answers.specs.declared.Answer.TheVariants.{Good, Conflict}
use Rattle.answers.specs.Answers.{list_field}
use Rattle.answers.specs.Order.{◌if◌, first, first_of}
use Rattle.rights.specs.declared.Place.{Place}
use Rattle.rights.specs.declared.Rights.{Rights}
use Rattle.rights.specs.declared.Parameters.{Parameters}
use Rattle.rights.specs.declared.Action.TheVariants.{Preempt}
use Rattle.rights.specs.Places.{unused, used, is_of, registered, key_of, alone}
use Rattle.rights.specs.Rights.{is_type, one_holds, all_hold, holds, holder_key, places_apart, with_places, with_reservation, with_generation, held, raised}
use Rattle.rights.specs.Actions.{service_key_bits, action_rows, taking_over}
use Rattle.rights.specs.Told.{keys, keys_data, reservation_data}
use Rattle.rights.proofs.RightsLaws.{type_not_none}
use Rattle.rights.proofs.Keeping.{is_of_used, is_of_nexus, apart_others, apart_rest, alone_own, type_one}
use Rattle.rights.proofs.Holders.{passed_over, found, key_front, not_of_other, all_not_one, holds_held}

-- ---- all registrations removed but one

alone_other : (n : ℕ) (p : Place) → T (not (is_of n p)) → alone n p ≡ unused
unfolding alone
alone_other n p t = by_test (is_of n p) (λ b. T (not b) → cond b p unused ≡ unused) (λ _ h. absurd h) (λ _ _. refl) t

key_own : (n : ℕ) (ps : List Place) → key_of n (map (alone n) ps) ≡ key_of n ps
unfolding key_of is_of used
key_own n [] = refl
key_own n (p ∷ ps) =
    test (is_of n p)
    (λ t. ap (λ (q : Place). key_of n (q ∷ map (alone n) ps)) (alone_own n p t) ∙ key_front n p (map (alone n) ps) ps (key_own n ps))
    (λ t. ap (λ (q : Place). key_of n (q ∷ map (alone n) ps)) (alone_other n p t) ∙ key_own n ps ∙ sym (passed_over n p ps t))

key_other : (n m : ℕ) (ps : List Place) → T (not (eqb n m)) → key_of m (map (alone n) ps) ≡ 0
unfolding key_of is_of used
key_other n m [] d = refl
key_other n m (p ∷ ps) d =
    test (is_of n p)
    (λ t. ap (λ (q : Place). key_of m (q ∷ map (alone n) ps)) (alone_own n p t)
    ∙ passed_over m p (map (alone n) ps) (not_of_other m p (subst (λ (x : ℕ). T (not (eqb x m))) (sym (is_of_nexus n p t)) d))
    ∙ key_other n m ps d)
    (λ t. ap (λ (q : Place). key_of m (q ∷ map (alone n) ps)) (alone_other n p t) ∙ key_other n m ps d)

-- the keys told are that one's
keys_none : (n : ℕ) (ps : List Place) → T (not (registered n ps)) → keys (map (alone n) ps) ≡ []
unfolding keys used registered
keys_none n [] t = refl
keys_none n (p ∷ ps) t =
    ap (λ (q : Place). keys (q ∷ map (alone n) ps)) (alone_other n p (nor_l (is_of n p) (registered n ps) t))
    ∙ keys_none n ps (nor_r (is_of n p) (registered n ps) t)

keys_used : (p : Place) (ps : List Place) → T (used p) → keys (p ∷ ps) ≡ bytes 8 p.key ++ keys ps
unfolding keys
keys_used p ps t = ap (λ (b : Bool). cond b (bytes 8 p.key) [] ++ keys ps) (T_true (used p) t)

keys_own : (n : ℕ) (ps : List Place) → T (places_apart ps) → T (registered n ps) → keys (map (alone n) ps) ≡ bytes 8 (key_of n ps)
unfolding keys used registered
keys_own n [] a t = absurd t
keys_own n (p ∷ ps) a t =
    test (is_of n p)
    (λ h. ap (λ (q : Place). keys (q ∷ map (alone n) ps)) (alone_own n p h)
    ∙ keys_used p (map (alone n) ps) (is_of_used n p h)
    ∙ ap (λ (ks : List ℕ). bytes 8 p.key ++ ks)
    (keys_none n ps (subst (λ (m : ℕ). T (not (registered m ps))) (is_of_nexus n p h) (apart_others p ps a (is_of_used n p h))))
    ∙ append-nil (bytes 8 p.key)
    ∙ ap (bytes 8) (sym (found n p ps h)))
    (λ h. ap (λ (q : Place). keys (q ∷ map (alone n) ps)) (alone_other n p h)
    ∙ keys_own n ps (apart_rest p ps a) (or_other (is_of n p) (registered n ps) h t)
    ∙ ap (bytes 8) (sym (passed_over n p ps h)))

-- ---- the answer to it

-- "5 stays for a zero key with no reservation or types 1, 3, 5, 6"
pub zero_own : (r : Rights) (n : ℕ) (o : Parameters) → o.service ≡ 0 → first (action_rows Preempt r n o) ≡ cond (all_hold r.kind) Good (list_field service_key_bits)
unfolding action_rows first_of
zero_own r n o z = rw z (by_test (all_hold r.kind) (λ b. first (list_field service_key_bits if not b ∷ Conflict if false ∷ []) ≡ cond b Good (list_field service_key_bits)) (λ _. refl) (λ _. refl))

-- ---- the rights after it

module _ (r : Rights) (n kind : ℕ) where
  -- "removes every other registration"
  pub taken_key : (m : ℕ) → key_of m (taking_over r n kind).places ≡ cond (eqb m n) (key_of m r.places) 0
  unfolding taking_over raised with_generation held with_reservation with_places
  taken_key m =
      by_equal m n (λ b. key_of m (map (alone n) r.places) ≡ cond b (key_of m r.places) 0)
      (λ e. rw e (key_own n r.places))
      (λ d. key_other n m r.places (not_eqb_sym m n (false→T _ (ne_eqb m n d))))

  -- "and gives the sender the type named"
  pub taken_kind : (taking_over r n kind).kind ≡ kind
  unfolding taking_over raised with_generation held with_reservation
  taken_kind = refl

  pub taken_holds : (m : ℕ) → T (is_type kind)
      → holds (taking_over r n kind) m ≡ cond (all_hold kind) (registered m (taking_over r n kind).places) (eqb n m)
  unfolding taking_over raised with_generation holds held with_reservation with_places
  taken_holds m s = holds_held (with_places r (map (alone n) r.places)) kind n m s

  -- what READ KEYS and READ RESERVATION tell
  module _ (a : T (places_apart r.places)) (u : T (registered n r.places)) where
    pub taken_keys : keys_data (taking_over r n kind) ≡ bytes 4 (taking_over r n kind).generation ++ (bytes 4 8 ++ bytes 8 (key_of n r.places))
    unfolding keys_data taking_over raised with_generation held with_reservation with_places
    taken_keys = rw (keys_own n r.places a u, length_bytes 8 (key_of n r.places))

  taken_holder_key : T (is_type kind) → holder_key (taking_over r n kind) ≡ cond (all_hold kind) 0 (key_of n r.places)
  unfolding holder_key taking_over raised with_generation held with_reservation with_places
  taken_holder_key s =
      by_test (all_hold kind)
      (λ b. all_hold kind ≡ b → cond (one_holds kind) (key_of (cond b 0 n) (map (alone n) r.places)) 0 ≡ cond b 0 (key_of n r.places))
      (λ _ e. ap (λ (o : Bool). cond o (key_of 0 (map (alone n) r.places)) 0) (T_false (one_holds kind) (all_not_one kind (true→T _ e))))
      (λ _ e. ap (λ (o : Bool). cond o (key_of n (map (alone n) r.places)) 0) (T_true (one_holds kind) (type_one kind s (false→T _ e))) ∙ key_own n r.places) refl

  pub taken_reservation : T (is_type kind)
      → reservation_data (taking_over r n kind)
      ≡ bytes 4 (taking_over r n kind).generation
      ++ (bytes 4 16 ++ (bytes 8 (cond (all_hold kind) 0 (key_of n r.places)) ++ (zeros 2 ++ (bytes 4 kind ++ zeros 2))))
  unfolding reservation_data
  taken_reservation s = rw (taken_holder_key s, taken_kind, type_not_none kind s)
