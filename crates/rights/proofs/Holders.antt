-- Who is registered, with which key, and who holds, after registrations come, change and go and after a reservation is made or ends.
-- Assumes nothing.
use mathlib.Core.Path.{◌≡◌, refl, sym, ap, ◌∙◌, subst}
use mathlib.Core.Bool.{Bool, true, false, not, ◌&&◌, ◌||◌, cond, true≢false, and-false}
use mathlib.Core.List.{List, [], ◌∷◌, map}
use Prim.Native.Nat.{ℕ}
use Rattle.std.specs.Prelude.{Option, None, Some}
use lib.Dec.{T, eqb, eqb→eq, eqb_refl, T_not}
use Rattle.fields.proofs.Tests.{and_l, and_r, both, or_l, or_r, nor, nor_l, nor_r, not_map, not_not, not_not_intro, test, by_test, not_eqb_sym, T_true, T_false, true→T, false→T}
use Rattle.rights.specs.declared.Place.{Place}
use Rattle.rights.specs.declared.Rights.{Rights}
use Rattle.rights.specs.Places.{unused, registration, used, is_of, registered, key_of, somebody, vacant, enrol, with_key, rekeyed, nobody, sender, spares, without}
use Rattle.rights.specs.Rights.{is_one_of, is_type, one_holds, all_hold, holds, holder_key, places_apart, stands, rights_ok, with_places, with_reservation, with_generation, held, gone, ended, settled, raised}
use Rattle.rights.specs.Actions.{registering, reserving, preempting}
use Rattle.rights.proofs.RightsLaws.{one_not_none, one_not_all}
use Rattle.rights.proofs.Types.{types}
use Rattle.rights.proofs.Keeping.{is_of_used, is_of_nexus, is_of_of, apart_others, apart_rest, thin_is_of, thin_registered, rekeyed_thin, without_thin, registered_somebody, type_one, holder_there, rights_stand, enrol_stays}

-- ---- keys

is_of_key : (n : ℕ) (p : Place) → T (is_of n p) → T (not (eqb p.key 0))
unfolding used
is_of_key n p t = is_of_used n p t

module _ (n : ℕ) where
  -- the place of another nexus, or none
  pub passed_over : (p : Place) (ps : List Place) → T (not (is_of n p)) → key_of n (p ∷ ps) ≡ key_of n ps
  unfolding key_of
  passed_over p ps t = by_test (is_of n p) (λ b. T (not b) → cond b p.key (key_of n ps) ≡ key_of n ps) (λ _ h. absurd h) (λ _ _. refl) t

  pub found : (p : Place) (ps : List Place) → T (is_of n p) → key_of n (p ∷ ps) ≡ p.key
  unfolding key_of
  found p ps t = by_test (is_of n p) (λ b. T b → cond b p.key (key_of n ps) ≡ p.key) (λ _ _. refl) (λ _ h. absurd h) t

  pub key_front : (p : Place) (ps qs : List Place) → key_of n ps ≡ key_of n qs → key_of n (p ∷ ps) ≡ key_of n (p ∷ qs)
  unfolding key_of
  key_front p ps qs e = ap (cond (is_of n p) p.key) e

  -- a nexus is registered exactly if it has a key
  pub registered_key : (ps : List Place) → registered n ps ≡ not (eqb (key_of n ps) 0)
  unfolding registered key_of
  registered_key [] = refl
  registered_key (p ∷ ps) =
      by_test (is_of n p) (λ b. (b || registered n ps) ≡ not (eqb (cond b p.key (key_of n ps)) 0))
      (λ t. sym (T_true _ (is_of_key n p t))) (λ t. registered_key ps)

  pub key_none : (ps : List Place) → T (not (registered n ps)) → key_of n ps ≡ 0
  key_none ps t = eqb→eq (key_of n ps) 0 (not_not (eqb (key_of n ps) 0) (subst (λ (b : Bool). T (not b)) (registered_key ps) t))

  pub none_registered : (ps : List Place) → key_of n ps ≡ 0 → T (not (registered n ps))
  none_registered ps e = rw (registered_key ps, e) tt

  -- all are removed
  pub key_cleared : (ps : List Place) → key_of n (map (λ (p : Place). unused) ps) ≡ 0
  unfolding key_of is_of used
  key_cleared [] = refl
  key_cleared (p ∷ ps) = key_cleared ps

-- ---- a registration more

not_of_unused : (m : ℕ) (p : Place) → T (not (used p)) → T (not (is_of m p))
not_of_unused m p t = not_map (used p) (is_of m p) (is_of_used m p) t

pub not_of_other : (m : ℕ) (p : Place) → T (not (eqb p.nexus m)) → T (not (is_of m p))
not_of_other m p t = not_map (eqb p.nexus m) (is_of m p) (λ h. rw (is_of_nexus m p h) (eqb_refl m)) t

pub key_enrol_other : (n k m : ℕ) (ps : List Place) → T (not (eqb n m)) → key_of m (enrol n k ps) ≡ key_of m ps
unfolding enrol
key_enrol_other n k m [] d = refl
key_enrol_other n k m (p ∷ ps) d =
    by_test (used p) (λ b. key_of m (cond b (p ∷ enrol n k ps) (registration n k ∷ ps)) ≡ key_of m (p ∷ ps))
    (λ u. key_front m p (enrol n k ps) ps (key_enrol_other n k m ps d))
    (λ u. passed_over m (registration n k) ps (not_of_other m (registration n k) d) ∙ sym (passed_over m p ps (not_of_unused m p u)))

pub key_enrol : (n k : ℕ) (ps : List Place) → T (not (registered n ps)) → T (vacant ps) → T (not (eqb k 0)) → key_of n (enrol n k ps) ≡ k
unfolding enrol registered vacant used
key_enrol n k [] f v h = absurd v
key_enrol n k (p ∷ ps) f v h =
    by_test (used p) (λ b. T (not b || vacant ps) → key_of n (cond b (p ∷ enrol n k ps) (registration n k ∷ ps)) ≡ k)
    (λ u w. passed_over n p (enrol n k ps) (nor_l (is_of n p) (registered n ps) f) ∙ key_enrol n k ps (nor_r (is_of n p) (registered n ps) f) w h)
    (λ u w. found n (registration n k) ps (is_of_of n (registration n k) h refl)) v

-- ---- a registration with another key, or none

rekeyed_other : (n k : ℕ) (p : Place) → T (not (is_of n p)) → rekeyed n k p ≡ p
unfolding rekeyed
rekeyed_other n k p t =
    by_test (is_of n p) (λ b. T (not b) → cond b (cond (eqb k 0) unused (with_key p k)) p ≡ p) (λ _ h. absurd h) (λ _ _. refl) t

rekeyed_own : (n k : ℕ) (p : Place) → T (is_of n p) → rekeyed n k p ≡ cond (eqb k 0) unused (with_key p k)
unfolding rekeyed
rekeyed_own n k p t =
    by_test (is_of n p) (λ b. T b → cond b (cond (eqb k 0) unused (with_key p k)) p ≡ cond (eqb k 0) unused (with_key p k)) (λ _ _. refl) (λ _ h. absurd h) t

pub key_rekeyed_other : (n k m : ℕ) (ps : List Place) → T (not (eqb n m)) → key_of m (map (rekeyed n k) ps) ≡ key_of m ps
key_rekeyed_other n k m [] d = refl
key_rekeyed_other n k m (p ∷ ps) d =
    test (is_of n p)
    (λ t. passed_over m (rekeyed n k p) (map (rekeyed n k) ps)
    (not_map (is_of m p) (is_of m (rekeyed n k p)) (thin_is_of (rekeyed n k) (rekeyed_thin n k) m p) (other p t))
    ∙ key_rekeyed_other n k m ps d ∙ sym (passed_over m p ps (other p t)))
    (λ t. ap (λ (q : Place). key_of m (q ∷ map (rekeyed n k) ps)) (rekeyed_other n k p t)
    ∙ key_front m p (map (rekeyed n k) ps) ps (key_rekeyed_other n k m ps d))
  where
    other : (p : Place) → T (is_of n p) → T (not (is_of m p))
    other p t = not_of_other m p (subst (λ (x : ℕ). T (not (eqb x m))) (sym (is_of_nexus n p t)) d)

-- the nexus has the key that it gave, and none where that is 0
pub key_rekeyed : (n k : ℕ) (ps : List Place) → T (eqb k 0 || registered n ps) → key_of n (map (rekeyed n k) ps) ≡ k
unfolding registered key_of is_of used with_key
key_rekeyed n k [] t = sym (eqb→eq k 0 (or_none (eqb k 0) t))
  where
    or_none : (b : Bool) → T (b || false) → T b
    or_none true t = tt
    or_none false t = t
key_rekeyed n k (p ∷ ps) t =
    test (is_of n p)
    (λ u. ap (λ (q : Place). key_of n (q ∷ map (rekeyed n k) ps)) (rekeyed_own n k p u)
    ∙ by_test (eqb k 0) (λ b. eqb k 0 ≡ b → key_of n (cond b unused (with_key p k) ∷ map (rekeyed n k) ps) ≡ k)
    (λ z e. key_rekeyed n k ps (or_l (eqb k 0) (registered n ps) (true→T (eqb k 0) e)))
    (λ z e. found n (with_key p k) (map (rekeyed n k) ps) (is_of_of n (with_key p k) (false→T (eqb k 0) e) (is_of_nexus n p u))) refl)
    (λ u. ap (λ (q : Place). key_of n (q ∷ map (rekeyed n k) ps)) (rekeyed_other n k p u)
    ∙ passed_over n p (map (rekeyed n k) ps) u
    ∙ key_rekeyed n k ps (skipped (eqb k 0) (is_of n p) (registered n ps) u t))
  where
    skipped : (z b c : Bool) → T (not b) → T (z || (b || c)) → T (z || c)
    skipped true b c n t = tt
    skipped false true c n t = absurd n
    skipped false false c n t = t

-- ---- registrations with a key removed

spares_nexus : (x : Option ℕ) (p q : Place) → p.nexus ≡ q.nexus → spares x p ≡ spares x q
unfolding spares
spares_nexus None p q e = refl
spares_nexus (Some n) p q e = ap (λ (y : ℕ). eqb y n) e

module _ (x : Option ℕ) (k m : ℕ) where
  -- is the nexus m, which has this key, among those removed
  unfoldable pub removed : ℕ → Bool
  removed key = eqb key k && not (spares x (registration m key))

  pub key_without : (ps : List Place) → T (places_apart ps) → key_of m (map (without x k) ps) ≡ cond (removed (key_of m ps)) 0 (key_of m ps)
  unfolding key_of is_of used without removed
  key_without [] t = either (removed 0) 0
    where
      either : (b : Bool) (z : ℕ) → z ≡ cond b z z
      either true z = refl
      either false z = refl
  key_without (p ∷ ps) t =
      test (is_of m p)
      (λ u. by_test (eqb p.key k && not (spares x p)) (λ b. key_of m (cond b unused p ∷ map (without x k) ps) ≡ cond b 0 p.key)
      (λ _. gone_too u) (λ _. found m p (map (without x k) ps) u)
      ∙ ap (λ (b : Bool). cond (eqb p.key k && not b) 0 p.key) (spares_nexus x p (registration m p.key) (is_of_nexus m p u))
      ∙ ap (λ (y : ℕ). cond (removed y) 0 y) (sym (found m p ps u)))
      (λ u. passed_over m (without x k p) (map (without x k) ps)
      (not_map (is_of m p) (is_of m (without x k p)) (thin_is_of (without x k) (without_thin x k) m p) u)
      ∙ key_without ps (apart_rest p ps t) ∙ ap (λ (y : ℕ). cond (removed y) 0 y) (sym (passed_over m p ps u)))
    where
      gone_too : T (is_of m p) → key_of m (map (without x k) ps) ≡ 0
      gone_too u =
          key_none m (map (without x k) ps)
          (not_map (registered m ps) (registered m (map (without x k) ps)) (thin_registered (without x k) (without_thin x k) m ps)
          (subst (λ (y : ℕ). T (not (registered y ps))) (is_of_nexus m p u) (apart_others p ps t (is_of_used m p u))))

-- ---- who holds

or_cases : {X : Type 0} (a b : Bool) → T (a || b) → (T a → X) → (T b → X) → X
or_cases true b t f g = f tt
or_cases false b t f g = g t

nand_known : (a b : Bool) → T b → T (not (a && not b))
nand_known true b t = not_not_intro b t
nand_known false b t = tt

nand_first : (a b : Bool) → T (not a) → T (not (a && b))
nand_first true b t = absurd t
nand_first false b t = tt

nand_from : (a b c : Bool) → T c → (T a → T b → T (not c)) → T (not (a && b))
nand_from true true c t f = absurd (T_not c (f tt tt) t)
nand_from true false c t f = tt
nand_from false b c t f = tt

and_idle : (a b : Bool) → (T a → T b) → a ≡ (a && b)
and_idle true b f = sym (T_true b (f tt))
and_idle false b f = refl

pub all_not_one : (kind : ℕ) → T (all_hold kind) → T (not (one_holds kind))
all_not_one kind a = test (one_holds kind) (λ t. absurd (true≢false (sym (T_true _ a) ∙ one_not_all kind (T_true _ t)))) (λ t. t)

none_holds : (r : Rights) (m : ℕ) → holds (ended r) m ≡ false
unfolding holds ended with_reservation one_holds all_hold is_one_of
none_holds r m = refl

-- a reservation of one of the six types that n makes
pub holds_held : (r : Rights) (kind n m : ℕ) → T (is_type kind)
    → holds (held r kind n) m ≡ cond (all_hold kind) (registered m r.places) (eqb n m)
unfolding holds held with_reservation
holds_held r kind n m k =
    by_test (all_hold kind)
    (λ a. all_hold kind ≡ a → ((one_holds kind && eqb (cond a 0 n) m) || (a && registered m r.places)) ≡ cond a (registered m r.places) (eqb n m))
    (λ _ e. ap (λ (o : Bool). (o && eqb 0 m) || registered m r.places) (T_false (one_holds kind) (all_not_one kind (true→T _ e))))
    (λ _ e. ap (λ (o : Bool). (o && eqb n m) || false) (T_true (one_holds kind) (type_one kind k (false→T _ e))) ∙ or_nothing (eqb n m)) refl
  where
    or_nothing : (b : Bool) → (b || false) ≡ b
    or_nothing true = refl
    or_nothing false = refl

module _ (r : Rights) (m : ℕ) where
  holds_ways : {X : Type 0} → T (holds r m) → (T (one_holds r.kind) → r.holder ≡ m → X) → (T (all_hold r.kind) → T (registered m r.places) → X) → X
  unfolding holds
  holds_ways t f g =
      or_cases (one_holds r.kind && eqb r.holder m) (all_hold r.kind && registered m r.places) t
      (λ h. f (and_l (one_holds r.kind) (eqb r.holder m) h) (eqb→eq r.holder m (and_r (one_holds r.kind) (eqb r.holder m) h)))
      (λ h. g (and_l (all_hold r.kind) (registered m r.places) h) (and_r (all_hold r.kind) (registered m r.places) h))

  -- where a registered nexus holds, the reservation does not end
  holder_stays : T (holds r m) → T (registered m r.places) → T (not (gone r))
  unfolding gone
  holder_stays t u =
      nor (one_holds r.kind && not (registered r.holder r.places)) (all_hold r.kind && not (somebody r.places))
      (holds_ways t (λ o e. nand_known (one_holds r.kind) (registered r.holder r.places) (rw e u))
      (λ a g. nand_first (one_holds r.kind) (not (registered r.holder r.places)) (all_not_one r.kind a)))
      (nand_known (all_hold r.kind) (somebody r.places) (registered_somebody m r.places u))

  -- and where it does not end, whoever holds is registered
  stays_registered : T (not (gone r)) → T (holds r m) → T (registered m r.places)
  stays_registered s t = holds_ways t (λ o e. subst (λ (n : ℕ). T (registered n r.places)) e (holder_there r s o)) (λ a g. g)

  pub holds_settled : holds (settled r) m ≡ (holds r m && registered m r.places)
  unfolding settled
  holds_settled =
      by_test (gone r) (λ b. gone r ≡ b → holds (cond b (ended r) r) m ≡ (holds r m && registered m r.places))
      (λ _ e. none_holds r m ∙ sym (T_false (holds r m && registered m r.places) (nand_from (holds r m) (registered m r.places) (gone r) (true→T _ e) holder_stays)))
      (λ _ e. and_idle (holds r m) (registered m r.places) (stays_registered (false→T _ e))) refl

  -- what is held still is of the type that it was
  pub kind_settled : T (holds (settled r) m) → (settled r).kind ≡ r.kind
  unfolding settled
  kind_settled =
      by_test (gone r) (λ b. T (holds (cond b (ended r) r) m) → (cond b (ended r) r).kind ≡ r.kind)
      (λ _ h. absurd (subst T (none_holds r m) h)) (λ _ _. refl)

pub settled_places : (r : Rights) → (settled r).places ≡ r.places
unfolding settled ended with_reservation
settled_places r = by_test (gone r) (λ b. (cond b (ended r) r).places ≡ r.places) (λ _. refl) (λ _. refl)

-- "A reservation ends when its holder … is gone."
pub holder_gone : (r : Rights) → T (one_holds r.kind) → T (not (registered r.holder r.places)) → (settled r).kind ≡ 0
unfolding settled gone ended with_reservation
holder_gone r o n =
    by_test (gone r) (λ b. T b → (cond b (ended r) r).kind ≡ 0) (λ _ _. refl) (λ _ h. absurd h)
    (or_l (one_holds r.kind && not (registered r.holder r.places)) (all_hold r.kind && not (somebody r.places))
    (both (one_holds r.kind) (not (registered r.holder r.places)) o n))

-- with registrations that only went
holds_places : (r : Rights) (qs : List Place) (m : ℕ) → (T (registered m qs) → T (registered m r.places))
    → (holds (with_places r qs) m && registered m qs) ≡ (holds r m && registered m qs)
unfolding holds with_places
holds_places r qs m f = go (one_holds r.kind && eqb r.holder m) (all_hold r.kind) (registered m r.places) (registered m qs) f
  where
    go : (e a g h : Bool) → (T h → T g) → ((e || (a && h)) && h) ≡ ((e || (a && g)) && h)
    go e a true true f = refl
    go e a false true f = absurd (f tt)
    go e a g false f = and-false (e || (a && false)) ∙ sym (and-false (e || (a && g)))

holds_regrouped : (r : Rights) (qs : List Place) (m : ℕ)
    → (holds (with_places r qs) m && registered m qs) ≡ (registered m qs && (holds r m || all_hold r.kind))
unfolding holds with_places
holds_regrouped r qs m = go (one_holds r.kind && eqb r.holder m) (all_hold r.kind) (registered m r.places) (registered m qs)
  where
    go : (e a g h : Bool) → ((e || (a && h)) && h) ≡ (h && ((e || (a && g)) || a))
    go true true g true = refl
    go true false g true = refl
    go false true true true = refl
    go false true false true = refl
    go false false g true = refl
    go e a g false = and-false (e || (a && false))

-- with registrations among which the one that holds still is
holds_kept : (r : Rights) (qs : List Place) (m : ℕ) → (T (one_holds r.kind) → r.holder ≡ m → T (registered m qs))
    → holds (with_places r qs) m ≡ (registered m qs && (holds r m || all_hold r.kind))
unfolding with_places
holds_kept r qs m f =
    and_idle (holds (with_places r qs) m) (registered m qs) (λ t. holds_ways (with_places r qs) m t f (λ _ g. g)) ∙ holds_regrouped r qs m

-- ---- RESERVE

-- "with none, made. By a holder with the same type, no change."
module _ (r : Rights) (n kind : ℕ) (k : T (is_type kind)) (u : T (registered n r.places))
    (w : T (not (not (eqb r.kind 0) && not (holds r n && eqb r.kind kind)))) where
  pub reserving_kind : (reserving r n kind).kind ≡ kind
  unfolding reserving held with_reservation
  reserving_kind =
      by_test (eqb r.kind 0) (λ b. T (not (not b && not (holds r n && eqb r.kind kind))) → (cond b (held r kind n) r).kind ≡ kind)
      (λ _ _. refl) (λ _ h. eqb→eq r.kind kind (and_r (holds r n) (eqb r.kind kind) (not_not (holds r n && eqb r.kind kind) h))) w

  pub reserving_holds : T (holds (reserving r n kind) n)
  unfolding reserving
  reserving_holds =
      by_test (eqb r.kind 0) (λ b. T (not (not b && not (holds r n && eqb r.kind kind))) → T (holds (cond b (held r kind n) r) n))
      (λ _ _. subst T (sym (holds_held r kind n n k)) (chosen (all_hold kind) (registered n r.places) (eqb n n) u (eqb_refl n)))
      (λ _ h. and_l (holds r n) (eqb r.kind kind) (not_not (holds r n && eqb r.kind kind) h)) w
    where
      chosen : (a b c : Bool) → T b → T c → T (cond a b c)
      chosen true b c s t = s
      chosen false b c s t = t

-- ---- PREEMPT

module _ (r : Rights) (n kind k : ℕ) where
  -- the registrations left where the key is the holder's, and where it is not
  abbrev spared_places : List Place
  spared_places = map (without (sender n) k) r.places

  abbrev left_places : List Place
  left_places = map (without nobody k) r.places

  takes_over_law : T (eqb (holder_key r) k) → preempting r n kind k ≡ raised (held (with_places r spared_places) kind n)
  unfolding preempting
  takes_over_law t =
      by_test (eqb (holder_key r) k)
      (λ b. T b → cond b (raised (held (with_places r spared_places) kind n)) (raised (settled (with_places r left_places)))
      ≡ raised (held (with_places r spared_places) kind n))
      (λ _ _. refl) (λ _ h. absurd h) t

  takes_none : T (not (eqb (holder_key r) k)) → preempting r n kind k ≡ raised (settled (with_places r left_places))
  unfolding preempting
  takes_none t =
      by_test (eqb (holder_key r) k)
      (λ b. T (not b) → cond b (raised (held (with_places r spared_places) kind n)) (raised (settled (with_places r left_places)))
      ≡ raised (settled (with_places r left_places)))
      (λ _ h. absurd h) (λ _ _. refl) t

  -- "all with that key but the sender are removed …. Else all with that key are removed, the sender too."
  pub preempted_key : (m : ℕ) → T (places_apart r.places)
      → key_of m (preempting r n kind k).places
      ≡ cond (eqb (key_of m r.places) k && not (eqb (holder_key r) k && eqb m n)) 0 (key_of m r.places)
  unfolding preempting raised with_generation held with_reservation with_places removed spares
  preempted_key m t =
      by_test (eqb (holder_key r) k)
      (λ b. key_of m (cond b (raised (held (with_places r spared_places) kind n)) (raised (settled (with_places r left_places)))).places
      ≡ cond (eqb (key_of m r.places) k && not (b && eqb m n)) 0 (key_of m r.places))
      (λ _. key_without (sender n) k m r.places t)
      (λ _. ap (key_of m) (settled_places (with_places r left_places)) ∙ key_without nobody k m r.places t)

  -- "and the sender holds the type named"
  pub preempted_kind : T (eqb (holder_key r) k) → (preempting r n kind k).kind ≡ kind
  unfolding raised with_generation held with_reservation
  preempted_kind t = ap (λ (x : Rights). x.kind) (takes_over_law t)

  pub preempted_over : (m : ℕ) → T (is_type kind) → T (eqb (holder_key r) k)
      → holds (preempting r n kind k) m ≡ cond (all_hold kind) (registered m (preempting r n kind k).places) (eqb n m)
  unfolding raised with_generation holds held with_reservation with_places
  preempted_over m s t =
      subst (λ (x : Rights). holds x m ≡ cond (all_hold kind) (registered m x.places) (eqb n m)) (sym (takes_over_law t))
      (holds_held (with_places r spared_places) kind n m s)

  -- otherwise whoever held and is still registered holds, and nobody else
  pub preempted_else : (m : ℕ) → T (not (eqb (holder_key r) k))
      → holds (preempting r n kind k) m ≡ (holds r m && registered m (preempting r n kind k).places)
  unfolding raised with_generation holds with_places
  preempted_else m t =
      subst (λ (x : Rights). holds x m ≡ (holds r m && registered m x.places)) (sym (takes_none t))
      (holds_settled (with_places r left_places) m
      ∙ holds_places r left_places m (thin_registered (without nobody k) (without_thin nobody k) m r.places)
      ∙ ap (λ (ps : List Place). holds r m && registered m ps) (sym (settled_places (with_places r left_places))))

  pub preempted_same : (m : ℕ) → T (not (eqb (holder_key r) k)) → T (holds (preempting r n kind k) m) → (preempting r n kind k).kind ≡ r.kind
  unfolding raised with_generation holds with_places
  preempted_same m t =
      subst (λ (x : Rights). T (holds x m) → x.kind ≡ r.kind) (sym (takes_none t)) (kind_settled (with_places r left_places) m)

-- ---- what validity says of the reservation

-- "for 1, 3, 5, 6 its holder is registered"
pub holder_registered : (r : Rights) → T (rights_ok r) → T (one_holds r.kind) → T (registered r.holder r.places)
unfolding stands
holder_registered r t o =
    go (eqb r.kind 0) (eqb r.holder 0) (one_holds r.kind) (registered r.holder r.places) (all_hold r.kind) (somebody r.places)
    (one_not_none r.kind (T_true _ o)) (one_not_all r.kind (T_true _ o)) (rights_stand r t)
  where
    go : (z h o g a y : Bool) → z ≡ false → a ≡ false → T ((z && h) || (o && g) || (a && h && y)) → T g
    go true h o g a y p q t = absurd (true≢false p)
    go false h o g true y p q t = absurd (true≢false q)
    go false h true true false y p q t = tt
    go false h true false false y p q t = t
    go false h false g false y p q t = absurd t

-- "a reservation has type 1, 3, 5, 6, 7 or 8 …; with no reservation, holder and type are 0"
pub kind_listed : (r : Rights) → T (rights_ok r) → T (is_one_of r.kind types)
unfolding stands one_holds all_hold is_one_of
kind_listed r t =
    go (eqb r.kind 0) (eqb r.kind 1) (eqb r.kind 3) (eqb r.kind 5) (eqb r.kind 6) (eqb r.kind 7) (eqb r.kind 8)
    (eqb r.holder 0) (registered r.holder r.places) (somebody r.places) (rights_stand r t)
  where
    go : (k₀ k₁ k₃ k₅ k₆ k₇ k₈ h g y : Bool)
        → T ((k₀ && h) || ((k₁ || (k₃ || (k₅ || (k₆ || false)))) && g) || ((k₇ || (k₈ || false)) && h && y))
        → T (k₀ || (k₁ || (k₃ || (k₅ || (k₆ || (k₇ || (k₈ || false)))))))
    go true k₁ k₃ k₅ k₆ k₇ k₈ h g y t = tt
    go false true k₃ k₅ k₆ k₇ k₈ h g y t = tt
    go false false true k₅ k₆ k₇ k₈ h g y t = tt
    go false false false true k₆ k₇ k₈ h g y t = tt
    go false false false false true k₇ k₈ h g y t = tt
    go false false false false false true k₈ h g y t = tt
    go false false false false false false true h g y t = tt
    go false false false false false false false h g y t = t

-- ---- REGISTER, with and without the key test

module _ (r : Rights) (n k : ℕ) where
  registered_way : T (registered n r.places) → registering r n k ≡ raised (settled (with_places r (map (rekeyed n k) r.places)))
  unfolding registering
  registered_way t =
      by_test (registered n r.places)
      (λ b. T b → cond b (raised (settled (with_places r (map (rekeyed n k) r.places)))) (cond (eqb k 0) r (raised (with_places r (enrol n k r.places))))
      ≡ raised (settled (with_places r (map (rekeyed n k) r.places))))
      (λ _ _. refl) (λ _ h. absurd h) t

  new_way : T (not (registered n r.places)) → registering r n k ≡ cond (eqb k 0) r (raised (with_places r (enrol n k r.places)))
  unfolding registering
  new_way t =
      by_test (registered n r.places)
      (λ b. T (not b) → cond b (raised (settled (with_places r (map (rekeyed n k) r.places)))) (cond (eqb k 0) r (raised (with_places r (enrol n k r.places))))
      ≡ cond (eqb k 0) r (raised (with_places r (enrol n k r.places))))
      (λ _ h. absurd h) (λ _ _. refl) t

  -- "Service action key nonzero registers (lowest free place) or changes the key; 0 unregisters or does nothing."
  pub registering_key : T (not (not (registered n r.places) && not (eqb k 0) && not (vacant r.places))) → key_of n (registering r n k).places ≡ k
  unfolding raised with_generation with_places
  registering_key w =
      test (registered n r.places)
      (λ u. ap (λ (x : Rights). key_of n x.places) (registered_way u)
      ∙ ap (key_of n) (settled_places (with_places r (map (rekeyed n k) r.places)))
      ∙ key_rekeyed n k r.places (or_r (eqb k 0) (registered n r.places) u))
      (λ u. ap (λ (x : Rights). key_of n x.places) (new_way u)
      ∙ by_test (eqb k 0) (λ b. eqb k 0 ≡ b → key_of n (cond b r (raised (with_places r (enrol n k r.places)))).places ≡ k)
      (λ _ z. key_none n r.places u ∙ sym (eqb→eq k 0 (true→T (eqb k 0) z)))
      (λ _ z. key_enrol n k r.places u
      (room (registered n r.places) (eqb k 0) (vacant r.places) u (false→T (eqb k 0) z) w) (false→T (eqb k 0) z)) refl)
    where
      room : (a b v : Bool) → T (not a) → T (not b) → T (not (not a && not b && not v)) → T v
      room true b v s t w = absurd s
      room false true v s t w = absurd t
      room false false v s t w = not_not v w

  -- nobody else's registration changes
  pub registering_others : (m : ℕ) → T (not (eqb n m)) → key_of m (registering r n k).places ≡ key_of m r.places
  unfolding raised with_generation with_places
  registering_others m d =
      test (registered n r.places)
      (λ u. ap (λ (x : Rights). key_of m x.places) (registered_way u)
      ∙ ap (key_of m) (settled_places (with_places r (map (rekeyed n k) r.places)))
      ∙ key_rekeyed_other n k m r.places d)
      (λ u. ap (λ (x : Rights). key_of m x.places) (new_way u)
      ∙ by_test (eqb k 0) (λ b. key_of m (cond b r (raised (with_places r (enrol n k r.places)))).places ≡ key_of m r.places)
      (λ _. refl) (λ _. key_enrol_other n k m r.places d))

  -- those hold who held and are registered, and under 7 and 8 all who are
  pub registering_holds : (m : ℕ) → T (rights_ok r) → holds (registering r n k) m ≡ (registered m (registering r n k).places && (holds r m || all_hold r.kind))
  unfolding raised with_generation with_places holds
  registering_holds m t =
      test (registered n r.places)
      (λ u. subst Held (sym (registered_way u))
      (holds_settled (with_places r (map (rekeyed n k) r.places)) m ∙ holds_regrouped r (map (rekeyed n k) r.places) m
      ∙ ap (λ (ps : List Place). registered m ps && (holds r m || all_hold r.kind)) (sym (settled_places (with_places r (map (rekeyed n k) r.places))))))
      (λ u. subst Held (sym (new_way u))
      (by_test (eqb k 0) (λ b. Held (cond b r (raised (with_places r (enrol n k r.places)))))
      (λ _. holds_kept r r.places m known)
      (λ _. holds_kept r (enrol n k r.places) m (λ o e. enrol_stays n k m r.places (known o e)))))
    where
      Held : Rights → Type 0
      Held x = holds x m ≡ (registered m x.places && (holds r m || all_hold r.kind))

      known : T (one_holds r.kind) → r.holder ≡ m → T (registered m r.places)
      known o e = subst (λ (y : ℕ). T (registered y r.places)) e (holder_registered r t o)

  -- and what they hold is of the type that it was
  pub registering_kind : (m : ℕ) → T (holds (registering r n k) m) → (registering r n k).kind ≡ r.kind
  unfolding raised with_generation with_places holds
  registering_kind m =
      test (registered n r.places)
      (λ u. subst (λ (x : Rights). T (holds x m) → x.kind ≡ r.kind) (sym (registered_way u)) (kind_settled (with_places r (map (rekeyed n k) r.places)) m))
      (λ u. subst (λ (x : Rights). T (holds x m) → x.kind ≡ r.kind) (sym (new_way u))
      (by_test (eqb k 0) (λ b. T (holds (cond b r (raised (with_places r (enrol n k r.places)))) m) → (cond b r (raised (with_places r (enrol n k r.places)))).kind ≡ r.kind)
      (λ _ _. refl) (λ _ _. refl)))

  -- a holder of 1, 3, 5 or 6 that unregisters ends the reservation
  pub unregistering_ends : T (eqb k 0) → T (one_holds r.kind) → r.holder ≡ n → T (registered n r.places) → (registering r n k).kind ≡ 0
  unfolding raised with_generation with_places
  unregistering_ends z o e u =
      ap (λ (x : Rights). x.kind) (registered_way u)
      ∙ holder_gone (with_places r (map (rekeyed n k) r.places)) o
      (rw e (none_registered n (map (rekeyed n k) r.places) (key_rekeyed n k r.places (or_l (eqb k 0) (registered n r.places) z) ∙ eqb→eq k 0 z)))

-- the one nexus that holds
pub holder_is : (r : Rights) (n : ℕ) → T (one_holds r.kind) → T (holds r n) → r.holder ≡ n
holder_is r n o t = holds_ways r n t (λ _ e. e) (λ a _. absurd (T_not (one_holds r.kind) (all_not_one r.kind a) o))

-- "If it is the holder's key under 1, 3, 5, 6"
pub holder_key_law : (r : Rights) (k : ℕ) → T (not (eqb k 0)) → eqb (holder_key r) k ≡ (one_holds r.kind && eqb (key_of r.holder r.places) k)
unfolding holder_key
holder_key_law r k z =
    by_test (one_holds r.kind) (λ b. eqb (cond b (key_of r.holder r.places) 0) k ≡ (b && eqb (key_of r.holder r.places) k))
    (λ _. refl) (λ _. T_false (eqb 0 k) (not_eqb_sym k 0 z))
