-- The rights stay valid under every action that nothing refuses.
-- Assumes nothing.
use mathlib.Core.Path.{◌≡◌, refl, sym, ap, ◌∙◌, subst}
use mathlib.Core.Bool.{Bool, true, false, not, ◌&&◌, ◌||◌, cond}
use mathlib.Core.List.{List, [], ◌∷◌, map}
use Prim.Native.Nat.{ℕ, suc, ◌≤◌}
use Rattle.std.specs.Prelude.{Option}
use lib.Dec.{T, eqb, leb, eqb→eq, eqb_refl, le→leb, T_not}
use lib.ListN.{length, length-map}
use Rattle.fields.proofs.Tests.{and_l, and_r, both, or_l, or_r, or_map, or_map², nor_l, nor_r, nor, not_map, not_not, nand_rest, true→T, false→T, by_test}
use Rattle.answers.specs.declared.Answer.TheVariants.{Good, Conflict}
use Rattle.answers.specs.Order.{first, refuses}
use Rattle.answers.proofs.OrderLaws.{row_fails}
use Rattle.rights.specs.declared.Place.{Place}
use Rattle.rights.specs.declared.Rights.{Rights}
use Rattle.rights.specs.declared.Parameters.{Parameters}
use Rattle.rights.specs.declared.Action.{Action}
use Rattle.rights.specs.declared.Action.TheVariants.{Register, Reserve, Release, Clear, Preempt, RegisterIgnoring}
use Rattle.rights.specs.Places.{unused, registration, used, is_of, registered, somebody, key_of, enrol, with_key, rekeyed, nobody, sender, spares, without, alone}
use Rattle.rights.specs.Rights.{is_one_of, is_type, one_holds, all_hold, holds, place_ok, places_apart, places_ok, stands, rights_ok, with_places, with_reservation, with_generation, held, holder_key, gone, ended, settled, raised}
use Rattle.rights.specs.Actions.{stranger, key_wrong, decision_rows, registering, reserving, releasing, clearing, preempting, taking_over, acted}
use Rattle.rights.proofs.DecisionLaws.{later_good}

-- ---- what validity says of places

pub is_of_used : (n : ℕ) (p : Place) → T (is_of n p) → T (used p)
unfolding is_of
is_of_used n p t = and_l (used p) (eqb p.nexus n) t

pub is_of_nexus : (n : ℕ) (p : Place) → T (is_of n p) → p.nexus ≡ n
unfolding is_of
is_of_nexus n p t = eqb→eq p.nexus n (and_r (used p) (eqb p.nexus n) t)

pub is_of_of : (n : ℕ) (p : Place) → T (used p) → p.nexus ≡ n → T (is_of n p)
unfolding is_of
is_of_of n p u e = both (used p) (eqb p.nexus n) u (rw e (eqb_refl n))

used-small : (p : Place) → T (place_ok p) → T (used p) → T (leb p.nexus 15)
unfolding place_ok
used-small p t u = by_test (used p) (λ b. T b → T (cond b (leb p.nexus 15) (eqb p.nexus 0)) → T (leb p.nexus 15)) (λ h x y. y) (λ h x y. absurd x) u t

small_ok : (p : Place) → T (used p) → T (leb p.nexus 15) → T (place_ok p)
unfolding place_ok
small_ok p u t = by_test (used p) (λ b. T b → T (cond b (leb p.nexus 15) (eqb p.nexus 0))) (λ h x. t) (λ h x. absurd x) u

module _ (p : Place) (ps : List Place) where
  apart_ok : T (places_apart (p ∷ ps)) → T (place_ok p)
  unfolding places_apart
  apart_ok t =
      and_l (place_ok p) (not (used p && registered p.nexus ps)) (and_l (place_ok p && not (used p && registered p.nexus ps)) (places_apart ps) t)

  pub apart_others : T (places_apart (p ∷ ps)) → T (used p) → T (not (registered p.nexus ps))
  unfolding places_apart
  apart_others t u =
      nand_rest (used p) (registered p.nexus ps) u
      (and_r (place_ok p) (not (used p && registered p.nexus ps)) (and_l (place_ok p && not (used p && registered p.nexus ps)) (places_apart ps) t))

  pub apart_rest : T (places_apart (p ∷ ps)) → T (places_apart ps)
  unfolding places_apart
  apart_rest t = and_r (place_ok p && not (used p && registered p.nexus ps)) (places_apart ps) t

  apart_more : T (place_ok p) → (T (used p) → T (not (registered p.nexus ps))) → T (places_apart ps) → T (places_apart (p ∷ ps))
  unfolding places_apart
  apart_more k f t =
      both (place_ok p && not (used p && registered p.nexus ps)) (places_apart ps)
      (both (place_ok p) (not (used p && registered p.nexus ps)) k
      (by_test (used p) (λ b. (T b → T (not (registered p.nexus ps))) → T (not (b && registered p.nexus ps))) (λ h g. g tt) (λ h g. tt) f)) t

places_eight : (ps : List Place) → T (places_ok ps) → T (eqb (length ps) 8)
unfolding places_ok
places_eight ps t = and_l (eqb (length ps) 8) (places_apart ps) t

pub places_apart_law : (ps : List Place) → T (places_ok ps) → T (places_apart ps)
unfolding places_ok
places_apart_law ps t = and_r (eqb (length ps) 8) (places_apart ps) t

places_of : (ps : List Place) → T (eqb (length ps) 8) → T (places_apart ps) → T (places_ok ps)
unfolding places_ok
places_of ps s t = both (eqb (length ps) 8) (places_apart ps) s t

-- ---- registrations that only go, or change their keys

-- q is what became of p: if it is used, p was, by the same nexus
pub record Thin (p q : Place) : Type 0 where
  pub was : T (used q) → T (used p)
  pub who : T (used q) → q.nexus ≡ p.nexus
  pub ok : T (place_ok p) → T (place_ok q)

thin_unused : (p : Place) → Thin p unused
unfolding used place_ok
thin_unused p = record { was = λ h. absurd h; who = λ h. absurd h; ok = λ h. tt }

thin_same : (p : Place) → Thin p p
thin_same p = record { was = λ h. h; who = λ h. refl; ok = λ h. h }

used-key : (n k : ℕ) → T (not (eqb k 0)) → T (used (registration n k))
unfolding used
used-key n k h = h

thin_key : (k : ℕ) (p : Place) → T (used p) → T (not (eqb k 0)) → Thin p (with_key p k)
unfolding with_key
thin_key k p t h = record {
  was = λ x. t;
  who = λ x. refl;
  ok = λ x. small_ok _ (used-key p.nexus k h) (used-small p x t);
}

module _ (g : Place → Place) (thin : (p : Place) → Thin p (g p)) where
  pub thin_is_of : (m : ℕ) (p : Place) → T (is_of m (g p)) → T (is_of m p)
  thin_is_of m p t =
      is_of_of m p ((thin p).was (is_of_used m (g p) t)) (sym ((thin p).who (is_of_used m (g p) t)) ∙ is_of_nexus m (g p) t)

  pub thin_registered : (m : ℕ) (ps : List Place) → T (registered m (map g ps)) → T (registered m ps)
  unfolding registered
  thin_registered m [] t = t
  thin_registered m (p ∷ ps) t =
      or_map² (is_of m (g p)) (is_of m p) (registered m (map g ps)) (registered m ps) (thin_is_of m p) (thin_registered m ps) t

  thin_apart : (ps : List Place) → T (places_apart ps) → T (places_apart (map g ps))
  thin_apart [] t = t
  thin_apart (p ∷ ps) t =
      apart_more (g p) (map g ps) ((thin p).ok (apart_ok p ps t))
      (λ u. subst (λ (n : ℕ). T (not (registered n (map g ps)))) (sym ((thin p).who u))
      (not_map (registered p.nexus ps) (registered p.nexus (map g ps)) (thin_registered p.nexus ps) (apart_others p ps t ((thin p).was u))))
      (thin_apart ps (apart_rest p ps t))

  thin_places : (ps : List Place) → T (places_ok ps) → T (places_ok (map g ps))
  thin_places ps t = places_of (map g ps) (rw length-map (places_eight ps t)) (thin_apart ps (places_apart_law ps t))

pub rekeyed_thin : (n k : ℕ) (p : Place) → Thin p (rekeyed n k p)
unfolding rekeyed
rekeyed_thin n k p =
    by_test (is_of n p) (λ b. Thin p (cond b (cond (eqb k 0) unused (with_key p k)) p))
    (λ t. by_test (eqb k 0) (λ z. Thin p (cond z unused (with_key p k))) (λ z. thin_unused p) (λ z. thin_key k p (is_of_used n p t) z))
    (λ t. thin_same p)

pub without_thin : (s : Option ℕ) (k : ℕ) (p : Place) → Thin p (without s k p)
unfolding without
without_thin s k p =
    by_test (eqb p.key k && not (spares s p)) (λ b. Thin p (cond b unused p)) (λ t. thin_unused p) (λ t. thin_same p)

pub alone_thin : (n : ℕ) (p : Place) → Thin p (alone n p)
unfolding alone
alone_thin n p = by_test (is_of n p) (λ b. Thin p (cond b p unused)) (λ t. thin_same p) (λ t. thin_unused p)

-- ---- a new registration

enrol_length : (n k : ℕ) (ps : List Place) → length (enrol n k ps) ≡ length ps
unfolding enrol
enrol_length n k [] = refl
enrol_length n k (p ∷ ps) =
    by_test (used p) (λ b. length (cond b (p ∷ enrol n k ps) (registration n k ∷ ps)) ≡ suc (length ps))
    (λ u. ap suc (enrol_length n k ps)) (λ u. refl)

-- nobody else comes
enrol_others : (n k m : ℕ) (ps : List Place) → T (not (eqb n m)) → T (not (registered m ps)) → T (not (registered m (enrol n k ps)))
unfolding enrol registered
enrol_others n k m [] d t = t
enrol_others n k m (p ∷ ps) d t =
    by_test (used p) (λ b. T (not (registered m (cond b (p ∷ enrol n k ps) (registration n k ∷ ps)))))
    (λ u. nor (is_of m p) (registered m (enrol n k ps)) (nor_l (is_of m p) (registered m ps) t)
    (enrol_others n k m ps d (nor_r (is_of m p) (registered m ps) t)))
    (λ u. nor (is_of m (registration n k)) (registered m ps)
    (not_map (eqb n m) (is_of m (registration n k)) (λ h. subst (λ (x : ℕ). T (eqb n x)) (is_of_nexus m _ h) (eqb_refl n)) d)
    (nor_r (is_of m p) (registered m ps) t))

module _ (n k : ℕ) (small : T (leb n 15)) (some : T (not (eqb k 0))) where
  enrol_apart : (ps : List Place) → T (not (registered n ps)) → T (places_apart ps) → T (places_apart (enrol n k ps))
  unfolding enrol registered
  enrol_apart [] f t = t
  enrol_apart (p ∷ ps) f t =
      by_test (used p) (λ b. T (places_apart (cond b (p ∷ enrol n k ps) (registration n k ∷ ps))))
      (λ u. apart_more p (enrol n k ps) (apart_ok p ps t)
      (λ u. enrol_others n k p.nexus ps (other p ps f u) (apart_others p ps t u))
      (enrol_apart ps (nor_r (is_of n p) (registered n ps) f) (apart_rest p ps t)))
      (λ u. apart_more (registration n k) ps (small_ok _ (used-key n k some) small) (λ v. nor_r (is_of n p) (registered n ps) f) (apart_rest p ps t))
    where
      other : (p : Place) (ps : List Place) → T (not (is_of n p || registered n ps)) → T (used p) → T (not (eqb n p.nexus))
      other p ps f u =
          not_map (is_of n p) (eqb n p.nexus) (λ h. is_of_of n p u (sym (eqb→eq n p.nexus h))) (nor_l (is_of n p) (registered n ps) f)

  enrol_places : (ps : List Place) → T (not (registered n ps)) → T (places_ok ps) → T (places_ok (enrol n k ps))
  enrol_places ps f t = places_of (enrol n k ps) (rw enrol_length (places_eight ps t)) (enrol_apart ps f (places_apart_law ps t))

-- who was registered still is
pub enrol_stays : (n k m : ℕ) (ps : List Place) → T (registered m ps) → T (registered m (enrol n k ps))
unfolding enrol registered
enrol_stays n k m [] t = t
enrol_stays n k m (p ∷ ps) t =
    by_test (used p) (λ b. T (registered m (cond b (p ∷ enrol n k ps) (registration n k ∷ ps))))
    (λ u. or_map (is_of m p) (registered m ps) (registered m (enrol n k ps)) (enrol_stays n k m ps) t)
    (λ u. or_map² (is_of m p) (is_of m (registration n k)) (registered m ps) (registered m ps)
    (λ h. absurd (T_not (used p) u (is_of_used m p h))) (λ x. x) t)

enrol_somebody : (n k : ℕ) (ps : List Place) → T (not (eqb k 0)) → T (somebody ps) → T (somebody (enrol n k ps))
unfolding enrol somebody
enrol_somebody n k [] h t = t
enrol_somebody n k (p ∷ ps) h t =
    by_test (used p) (λ b. T (somebody (cond b (p ∷ enrol n k ps) (registration n k ∷ ps))))
    (λ u. or_l (used p) (somebody (enrol n k ps)) u)
    (λ u. or_l (used (registration n k)) (somebody ps) (used-key n k h))

-- a reservation stands where its holder stays registered, or somebody is left
stands_map : (ps qs : List Place) (kind holder : ℕ)
    → (T (one_holds kind) → T (registered holder ps) → T (registered holder qs)) → (T (all_hold kind) → T (somebody ps) → T (somebody qs))
    → T (stands ps kind holder) → T (stands qs kind holder)
unfolding stands
stands_map ps qs kind holder f g t =
    or_map² (eqb kind 0 && eqb holder 0 || (one_holds kind && registered holder ps)) (eqb kind 0 && eqb holder 0 || (one_holds kind && registered holder qs))
    (all_hold kind && eqb holder 0 && somebody ps) (all_hold kind && eqb holder 0 && somebody qs)
    (or_map (eqb kind 0 && eqb holder 0) (one_holds kind && registered holder ps) (one_holds kind && registered holder qs)
    (and_more (one_holds kind) (registered holder ps) (registered holder qs) f))
    (and_more (all_hold kind && eqb holder 0) (somebody ps) (somebody qs) (λ a. g (and_l (all_hold kind) (eqb holder 0) a))) t
  where
    and_more : (a b c : Bool) → (T a → T b → T c) → T (a && b) → T (a && c)
    and_more a b c h x = both a c (and_l a b x) (h (and_l a b x) (and_r a b x))

-- ---- the rights

pub rights_places : (r : Rights) → T (rights_ok r) → T (places_ok r.places)
unfolding rights_ok
rights_places r t = and_l (places_ok r.places) (stands r.places r.kind r.holder) t

pub rights_stand : (r : Rights) → T (rights_ok r) → T (stands r.places r.kind r.holder)
unfolding rights_ok
rights_stand r t = and_r (places_ok r.places) (stands r.places r.kind r.holder) t

pub rights_of_law : (r : Rights) → T (places_ok r.places) → T (stands r.places r.kind r.holder) → T (rights_ok r)
unfolding rights_ok
rights_of_law r s t = both (places_ok r.places) (stands r.places r.kind r.holder) s t

raised_ok : (r : Rights) → T (rights_ok r) → T (rights_ok (raised r))
unfolding raised with_generation
raised_ok r t = rights_of_law (raised r) (rights_places r t) (rights_stand r t)

ended_ok : (r : Rights) → T (places_ok r.places) → T (rights_ok (ended r))
unfolding ended with_reservation stands
ended_ok r t = rights_of_law (ended r) t tt

-- where nobody is gone, the holder is registered, or somebody is
module _ (r : Rights) (s : T (not (gone r))) where
  pub holder_there : T (one_holds r.kind) → T (registered r.holder r.places)
  unfolding gone
  holder_there a =
      not_not (registered r.holder r.places) (nand_rest (one_holds r.kind) (not (registered r.holder r.places)) a
      (nor_l (one_holds r.kind && not (registered r.holder r.places)) (all_hold r.kind && not (somebody r.places)) s))

  pub somebody_there : T (all_hold r.kind) → T (somebody r.places)
  unfolding gone
  somebody_there a =
      not_not (somebody r.places)
      (nand_rest (all_hold r.kind) (not (somebody r.places)) a
      (nor_r (one_holds r.kind && not (registered r.holder r.places)) (all_hold r.kind && not (somebody r.places)) s))

-- with other places, and its reservation ended if they leave it no holder
settled_ok : (r : Rights) (qs : List Place) → T (rights_ok r) → T (places_ok qs) → T (rights_ok (settled (with_places r qs)))
unfolding settled with_places
settled_ok r qs t u =
    by_test (gone (with_places r qs)) (λ b. T (rights_ok (cond b (ended (with_places r qs)) (with_places r qs))))
    (λ s. ended_ok (with_places r qs) u)
    (λ s. rights_of_law (with_places r qs) u
    (stands_map r.places qs r.kind r.holder
    (λ a b. holder_there (with_places r qs) s a) (λ a b. somebody_there (with_places r qs) s a) (rights_stand r t)))

pub registered_somebody : (n : ℕ) (ps : List Place) → T (registered n ps) → T (somebody ps)
unfolding registered somebody
registered_somebody n [] t = t
registered_somebody n (p ∷ ps) t = or_map² (is_of n p) (used p) (registered n ps) (somebody ps) (is_of_used n p) (registered_somebody n ps) t

-- one of the six that is none of the last two is one of the first four
first_four : (a b c d x y : Bool) → T (a || (b || (c || (d || (x || (y || false)))))) → T (not (x || (y || false))) → T (a || (b || (c || (d || false))))
first_four true b c d x y t n = tt
first_four false true c d x y t n = tt
first_four false false true d x y t n = tt
first_four false false false true x y t n = tt
first_four false false false false true y t n = n
first_four false false false false false true t n = n
first_four false false false false false false t n = t

pub type_one : (kind : ℕ) → T (is_type kind) → T (not (all_hold kind)) → T (one_holds kind)
unfolding is_type is_one_of all_hold one_holds
type_one kind t n = first_four (eqb kind 1) (eqb kind 3) (eqb kind 5) (eqb kind 6) (eqb kind 7) (eqb kind 8) t n

held_stands : (ps : List Place) (kind n : ℕ) → T (is_type kind) → T (registered n ps) → T (stands ps kind (cond (all_hold kind) 0 n))
unfolding stands
held_stands ps kind n k u =
    by_test (all_hold kind) (λ b. all_hold kind ≡ b → T (stands ps kind (cond b 0 n)))
    (λ a e. or_r (eqb kind 0 && true || (one_holds kind && registered 0 ps)) (all_hold kind && true && somebody ps)
    (both (all_hold kind && true) (somebody ps) (both (all_hold kind) true (true→T _ e) tt) (registered_somebody n ps u)))
    (λ a e. or_l (eqb kind 0 && eqb n 0 || (one_holds kind && registered n ps)) (all_hold kind && eqb n 0 && somebody ps)
    (or_r (eqb kind 0 && eqb n 0) (one_holds kind && registered n ps) (both (one_holds kind) (registered n ps) (type_one kind k (false→T _ e)) u))) refl

held_ok : (r : Rights) (kind n : ℕ) → T (is_type kind) → T (registered n r.places) → T (places_ok r.places) → T (rights_ok (held r kind n))
unfolding held with_reservation
held_ok r kind n k u t = rights_of_law (held r kind n) t (held_stands r.places kind n k u)

-- ---- the actions

registering_ok : (r : Rights) (n k : ℕ) → T (leb n 15) → T (rights_ok r) → T (rights_ok (registering r n k))
unfolding registering with_places
registering_ok r n k small t =
    by_test (registered n r.places)
    (λ b. T (rights_ok (cond b (raised (settled (with_places r (map (rekeyed n k) r.places)))) (cond (eqb k 0) r (raised (with_places r (enrol n k r.places)))))))
    (λ u. raised_ok _ (settled_ok r _ t (thin_places (rekeyed n k) (rekeyed_thin n k) r.places (rights_places r t))))
    (λ u. by_test (eqb k 0) (λ z. T (rights_ok (cond z r (raised (with_places r (enrol n k r.places))))))
    (λ z. t) (λ z. raised_ok _ (enrolled u z)))
  where
    enrolled : T (not (registered n r.places)) → T (not (eqb k 0)) → T (rights_ok (with_places r (enrol n k r.places)))
    enrolled u z =
        rights_of_law (with_places r (enrol n k r.places)) (enrol_places n k small z r.places u (rights_places r t))
        (stands_map r.places (enrol n k r.places) r.kind r.holder (λ a. enrol_stays n k r.holder r.places) (λ a. enrol_somebody n k r.places z) (rights_stand r t))

reserving_ok : (r : Rights) (n kind : ℕ) → T (is_type kind) → T (registered n r.places) → T (rights_ok r) → T (rights_ok (reserving r n kind))
unfolding reserving
reserving_ok r n kind k u t =
    by_test (eqb r.kind 0) (λ b. T (rights_ok (cond b (held r kind n) r))) (λ z. held_ok r kind n k u (rights_places r t)) (λ z. t)

releasing_ok : (r : Rights) (n : ℕ) → T (rights_ok r) → T (rights_ok (releasing r n))
unfolding releasing
releasing_ok r n t = by_test (holds r n) (λ b. T (rights_ok (cond b (ended r) r))) (λ h. ended_ok r (rights_places r t)) (λ h. t)

clearing_ok : (r : Rights) → T (rights_ok r) → T (rights_ok (clearing r))
unfolding clearing with_places
clearing_ok r t = raised_ok _ (ended_ok _ (thin_places (λ p. unused) thin_unused r.places (rights_places r t)))

-- the sender is spared
pub kept_place : (k n : ℕ) (p : Place) → p.nexus ≡ n → without (sender n) k p ≡ p
unfolding without spares
kept_place k n p e =
    by_test (eqb p.nexus n) (λ b. T b → cond (eqb p.key k && not b) unused p ≡ p) (λ h x. both_ways (eqb p.key k)) (λ h x. absurd x) (rw e (eqb_refl n))
  where
    both_ways : (b : Bool) → cond (b && false) unused p ≡ p
    both_ways true = refl
    both_ways false = refl

spared : (k n : ℕ) (ps : List Place) → T (registered n ps) → T (registered n (map (without (sender n) k) ps))
unfolding registered
spared k n [] t = t
spared k n (p ∷ ps) t =
    or_map² (is_of n p) (is_of n (without (sender n) k p)) (registered n ps) (registered n (map (without (sender n) k) ps)) stays (spared k n ps) t
  where
    stays : T (is_of n p) → T (is_of n (without (sender n) k p))
    stays h = subst (λ (q : Place). T (is_of n q)) (sym (kept_place k n p (is_of_nexus n p h))) h

preempting_ok : (r : Rights) (n kind k : ℕ) → T (is_type kind) → T (registered n r.places) → T (rights_ok r) → T (rights_ok (preempting r n kind k))
unfolding preempting with_places
preempting_ok r n kind k s u t =
    by_test (eqb (holder_key r) k)
    (λ b. T (rights_ok (cond b (raised (held (with_places r (map (without (sender n) k) r.places)) kind n))
    (raised (settled (with_places r (map (without nobody k) r.places)))))))
    (λ h. raised_ok _ (held_ok _ kind n s (spared k n r.places u) (left (sender n))))
    (λ h. raised_ok _ (settled_ok r _ t (left nobody)))
  where
    left : (x : Option ℕ) → T (places_ok (map (without x k) r.places))
    left x = thin_places (without x k) (without_thin x k) r.places (rights_places r t)

-- all are removed but the sender
pub alone_own : (n : ℕ) (p : Place) → T (is_of n p) → alone n p ≡ p
unfolding alone
alone_own n p t = by_test (is_of n p) (λ b. T b → cond b p unused ≡ p) (λ _ _. refl) (λ _ h. absurd h) t

alone_stays : (n : ℕ) (ps : List Place) → T (registered n ps) → T (registered n (map (alone n) ps))
unfolding registered
alone_stays n [] t = t
alone_stays n (p ∷ ps) t =
    or_map² (is_of n p) (is_of n (alone n p)) (registered n ps) (registered n (map (alone n) ps))
    (λ h. subst (λ (q : Place). T (is_of n q)) (sym (alone_own n p h)) h) (alone_stays n ps) t

taking_over_ok : (r : Rights) (n kind : ℕ) → T (is_type kind) → T (registered n r.places) → T (rights_ok r) → T (rights_ok (taking_over r n kind))
unfolding taking_over with_places
taking_over_ok r n kind s u t =
    raised_ok _ (held_ok _ kind n s (alone_stays n r.places u) (thin_places (alone n) (alone_thin n) r.places (rights_places r t)))

-- which actions make a reservation: they need one of the six types and a registered sender
unfoldable pub makes : Action → Bool
makes Register = false
makes Reserve = true
makes Release = false
makes Clear = false
makes Preempt = true
makes RegisterIgnoring = false

acted_ok : (a : Action) (r : Rights) (n : ℕ) (o : Parameters) → T (leb n 15) → (T (makes a) → T (is_type o.kind)) → (T (makes a) → T (registered n r.places))
    → T (rights_ok r) → T (rights_ok (acted a r n o))
unfolding acted makes
acted_ok Register r n o small k u t = registering_ok r n o.service small t
acted_ok Reserve r n o small k u t = reserving_ok r n o.kind (k tt) (u tt) t
acted_ok Release r n o small k u t = releasing_ok r n t
acted_ok Clear r n o small k u t = clearing_ok r t
acted_ok Preempt r n o small k u t =
    by_test (eqb o.service 0) (λ z. T (rights_ok (cond z (taking_over r n o.kind) (preempting r n o.kind o.service))))
    (λ _. taking_over_ok r n o.kind (k tt) (u tt) t) (λ _. preempting_ok r n o.kind o.service (k tt) (u tt) t)
acted_ok RegisterIgnoring r n o small k u t = registering_ok r n o.service small t

pub known_sender : (r : Rights) (n : ℕ) (o : Parameters) → T (not (stranger r n o)) → T (registered n r.places)
unfolding stranger
known_sender r n o w =
    not_not (registered n r.places) (nor_l (not (registered n r.places)) (not (eqb o.key (key_of n r.places))) w)

-- one who makes a reservation is registered
pub maker_registered : (a : Action) (r : Rights) (n : ℕ) (o : Parameters) → T (not (key_wrong a r n o)) → T (makes a) → T (registered n r.places)
unfolding key_wrong makes
maker_registered Register r n o w m = absurd m
maker_registered Reserve r n o w m = known_sender r n o w
maker_registered Release r n o w m = absurd m
maker_registered Clear r n o w m = absurd m
maker_registered Preempt r n o w m = known_sender r n o w
maker_registered RegisterIgnoring r n o w m = absurd m

pub key_right : (a : Action) (r : Rights) (n : ℕ) (o : Parameters) → first (decision_rows a r n o) ≡ Good → T (not (key_wrong a r n o))
unfolding refuses
key_right a r n o e = false→T (key_wrong a r n o) (row_fails Conflict _ _ tt (later_good a r n o e))

-- validity is kept by every action that nothing refuses
pub acted_keeps : (a : Action) (r : Rights) (n : ℕ) (o : Parameters) → T (rights_ok r) → n ≤ 15 → first (decision_rows a r n o) ≡ Good
    → (T (makes a) → T (is_type o.kind)) → T (rights_ok (acted a r n o))
acted_keeps a r n o t small e k = acted_ok a r n o (le→leb n 15 small) k (maker_registered a r n o (key_right a r n o e)) t
