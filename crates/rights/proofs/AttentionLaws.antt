-- Attentions are read, returned and sent nexus by nexus, and stay valid.
-- Assumes nothing.
use mathlib.Core.Path.{◌≡◌, refl, ap, ◌∙◌}
use mathlib.Core.Logic.{◌≢◌}
use mathlib.Core.Bool.{Bool, true, false, not, ◌&&◌, ◌||◌, cond}
use mathlib.Core.List.{List, [], ◌∷◌}
use Prim.Native.Nat.{ℕ, zero, suc, ◌+◌, ◌≤◌, ◌<◌}
use native.Mathlib.Nat.{add-zero}
use native.Mathlib.Omega.{arith}
use lib.Dec.{T, eqb, leb, eqb→eq, eqb_refl, leb→le}
use lib.ListN.{length, get_or, set, length-set}
use Rattle.fields.specs.Bytes.{zeros}
use Rattle.fields.proofs.Tests.{and_l, and_r, both, by_test, T_true}
use Rattle.rights.specs.declared.Rights.{Rights}
use Rattle.rights.specs.declared.Action.{Action}
use Rattle.rights.specs.declared.Action.TheVariants.{Register, Reserve, Release, Clear, Preempt, RegisterIgnoring}
use Rattle.rights.specs.Places.{registered}
use Rattle.rights.specs.Rights.{is_one_of}
use Rattle.rights.specs.Attentions.{each_ok, attentions_ok, no_attentions, waiting_for, returned_to}
use Rattle.rights.specs.Notices.{removed, for_registrants, released, release_notice, notice, renewed, notified_from, notified}

-- ---- valid

pub ok_length : (xs : List ℕ) → T (attentions_ok xs) → length xs ≡ 16
unfolding attentions_ok
ok_length xs t = eqb→eq (length xs) 16 (and_l (eqb (length xs) 16) (each_ok xs) t)

ok_each : (xs : List ℕ) → T (attentions_ok xs) → T (each_ok xs)
unfolding attentions_ok
ok_each xs t = and_r (eqb (length xs) 16) (each_ok xs) t

ok_of : (xs : List ℕ) → length xs ≡ 16 → T (each_ok xs) → T (attentions_ok xs)
unfolding attentions_ok
ok_of xs e t = both (eqb (length xs) 16) (each_ok xs) (rw e tt) t

pub none_ok : T (attentions_ok no_attentions)
unfolding attentions_ok no_attentions each_ok zeros
none_ok = tt

pub waiting_none : (n : ℕ) → waiting_for n no_attentions ≡ 0
unfolding waiting_for no_attentions zeros
waiting_none n = go 16 n
  where
    go : (k i : ℕ) → get_or (zeros k) i 0 ≡ 0
    go zero i = refl
    go (suc k) zero = refl
    go (suc k) (suc i) = go k i

pub waiting_bound : (n : ℕ) (xs : List ℕ) → T (attentions_ok xs) → waiting_for n xs ≤ 3
unfolding waiting_for each_ok
waiting_bound n xs t = go n xs (ok_each xs t)
  where
    go : (i : ℕ) (l : List ℕ) → T (each_ok l) → get_or l i 0 ≤ 3
    go i [] h = omega arith
    go zero (x ∷ l) h = leb→le x 3 (and_l (leb x 3) (each_ok l) h)
    go (suc i) (x ∷ l) h = go i l (and_r (leb x 3) (each_ok l) h)

-- ---- returned

pub returned_ok : (n : ℕ) (xs : List ℕ) → T (attentions_ok xs) → T (attentions_ok (returned_to n xs))
unfolding returned_to each_ok
returned_ok n xs t = ok_of (set xs n 0) (length-set xs n 0 ∙ ok_length xs t) (go n xs (ok_each xs t))
  where
    go : (i : ℕ) (l : List ℕ) → T (each_ok l) → T (each_ok (set l i 0))
    go i [] h = tt
    go zero (x ∷ l) h = and_r (leb x 3) (each_ok l) h
    go (suc i) (x ∷ l) h = both (leb x 3) _ (and_l (leb x 3) (each_ok l) h) (go i l (and_r (leb x 3) (each_ok l) h))

pub returned_own : (n : ℕ) (xs : List ℕ) → waiting_for n (returned_to n xs) ≡ 0
unfolding waiting_for returned_to
returned_own n [] = refl
returned_own zero (x ∷ xs) = refl
returned_own (suc n) (x ∷ xs) = returned_own n xs

pub returned_other : (n m : ℕ) (xs : List ℕ) → m ≢ n → waiting_for m (returned_to n xs) ≡ waiting_for m xs
unfolding waiting_for returned_to
returned_other n m [] d = refl
returned_other zero zero (x ∷ xs) d = absurd (d refl)
returned_other zero (suc m) (x ∷ xs) d = refl
returned_other (suc n) zero (x ∷ xs) d = refl
returned_other (suc n) (suc m) (x ∷ xs) d = returned_other n m xs (λ e. d (ap suc e))

-- ---- sent

module _ (a : Action) (before after : Rights) (n : ℕ) where
  -- what is sent is one of the three, or none
  release_bound : (m : ℕ) → T (leb (release_notice before after m) 3)
  unfolding release_notice
  release_bound m = by_test (released before after && registered m after.places) (λ b. T (leb (cond b 3 0) 3)) (λ _. tt) (λ _. tt)

  cond_bound : (b : Bool) (x y : ℕ) → T (leb x 3) → T (leb y 3) → T (leb (cond b x y) 3)
  cond_bound true x y h k = h
  cond_bound false x y h k = k

  notice_bound : (a : Action) (m : ℕ) → T (leb (notice a before after m) 3)
  unfolding notice
  notice_bound Register m = release_bound m
  notice_bound RegisterIgnoring m = release_bound m
  notice_bound Reserve m = tt
  notice_bound Release m = release_bound m
  notice_bound Clear m = cond_bound (removed before after m) 2 0 tt tt
  notice_bound Preempt m = cond_bound (removed before after m) 1 (release_notice before after m) tt (release_bound m)

  from_length : (m : ℕ) (xs : List ℕ) → length (notified_from a before after n m xs) ≡ length xs
  unfolding notified_from
  from_length m [] = refl
  from_length m (x ∷ xs) = ap suc (from_length (suc m) xs)

  from_ok : (m : ℕ) (xs : List ℕ) → T (each_ok xs) → T (each_ok (notified_from a before after n m xs))
  unfolding notified_from each_ok renewed
  from_ok m [] t = tt
  from_ok m (x ∷ xs) t =
      both (leb (renewed a before after n m x) 3) _
      (cond_bound (eqb m n || eqb (notice a before after m) 0) x (notice a before after m) (and_l (leb x 3) (each_ok xs) t) (notice_bound a m))
      (from_ok (suc m) xs (and_r (leb x 3) (each_ok xs) t))

  pub notified_ok : (xs : List ℕ) → T (attentions_ok xs) → T (attentions_ok (notified a before after n xs))
  unfolding notified
  notified_ok xs t = ok_of _ (from_length 0 xs ∙ ok_length xs t) (from_ok 0 xs (ok_each xs t))

  -- each nexus has what it is to be told, or what it had
  from_at : (i m : ℕ) (xs : List ℕ) → i < length xs → get_or (notified_from a before after n m xs) i 0 ≡ renewed a before after n (m + i) (get_or xs i 0)
  unfolding notified_from
  from_at i m [] h = absurd (omega arith)
  from_at zero m (x ∷ xs) h = rw (add-zero m)
  from_at (suc i) m (x ∷ xs) h = from_at i (suc m) xs (omega arith) ∙ ap (λ (k : ℕ). renewed a before after n k (get_or xs i 0)) (omega arith)

  pub notified_at : (m : ℕ) (xs : List ℕ) → T (attentions_ok xs) → m ≤ 15
      → waiting_for m (notified a before after n xs) ≡ renewed a before after n m (waiting_for m xs)
  unfolding notified waiting_for
  notified_at m xs t h = from_at m 0 xs (rw (ok_length xs t) (omega arith)) ∙ ap (λ (k : ℕ). renewed a before after n k (get_or xs m 0)) (omega arith)

  -- the sender is told nothing
  pub sender_keeps : (old : ℕ) → renewed a before after n n old ≡ old
  unfolding renewed
  sender_keeps old = rw (T_true (eqb n n) (eqb_refl n))

-- where nobody is to be told anything all stays

module _ (a : Action) (before after : Rights) (n : ℕ) (none : (m : ℕ) → notice a before after m ≡ 0) where
  unnoticed : (m old : ℕ) → renewed a before after n m old ≡ old
  unfolding renewed
  unnoticed m old = rw (none m) (go (eqb m n) 0)
    where
      go : (b : Bool) (y : ℕ) → cond (b || true) old y ≡ old
      go true y = refl
      go false y = refl

  pub notified_none : (xs : List ℕ) → notified a before after n xs ≡ xs
  unfolding notified notified_from
  notified_none xs = go 0 xs
    where
      go : (m : ℕ) (l : List ℕ) → notified_from a before after n m l ≡ l
      go m [] = refl
      go m (x ∷ l) = rw (unnoticed m x, go (suc m) l)

-- as where there was no reservation to be released

pub unreserved_notice : (before after : Rights) (m : ℕ) → before.kind ≡ 0 → release_notice before after m ≡ 0
unfolding release_notice released for_registrants is_one_of
unreserved_notice before after m e = rw e

-- and where the rights stay

module _ (r : Rights) where
  none_released : (m : ℕ) → release_notice r r m ≡ 0
  unfolding release_notice released
  none_released m = rw (T_true (eqb r.kind r.kind) (eqb_refl r.kind)) (go (for_registrants r.kind) 3 0)
    where
      go : (b : Bool) (x y : ℕ) → cond ((b && false) && registered m r.places) x y ≡ y
      go true x y = refl
      go false x y = refl

  none_removed : (m : ℕ) → removed r r m ≡ false
  unfolding removed
  none_removed m = go (registered m r.places)
    where
      go : (b : Bool) → (b && not b) ≡ false
      go true = refl
      go false = refl

  none_noticed : (a : Action) (m : ℕ) → notice a r r m ≡ 0
  unfolding notice
  none_noticed Register m = none_released m
  none_noticed RegisterIgnoring m = none_released m
  none_noticed Reserve m = refl
  none_noticed Release m = none_released m
  none_noticed Clear m = rw (none_removed m)
  none_noticed Preempt m = rw (none_removed m) (none_released m)

  pub notified_still : (a : Action) (n : ℕ) (xs : List ℕ) → notified a r r n xs ≡ xs
  notified_still a n xs = notified_none a r r n (none_noticed a) xs
