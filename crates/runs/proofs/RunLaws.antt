-- Laws of runs: how long one is, where it ends, and what its length depends on.
-- Assumes nothing.
use mathlib.Core.Path.{◌≡◌, refl, sym, ap, ◌∙◌}
use mathlib.Core.Bool.{Bool, true, false, not, ◌||◌, cond, false≢true}
use mathlib.Core.List.{List, [], ◌∷◌}
use mathlib.Core.Logic.{◌≢◌}
use Prim.Native.Nat.{ℕ, zero, suc, ◌+◌, ◌*◌, ◌-◌, ◌^◌, ◌≤◌, ◌<◌, min}
use native.Mathlib.Omega.{arith}
use native.Mathlib.Nat.{add-zero}
use borrow.Author.Tests.{le-leb, lt-leb, eq-eqb, ne_eqb}
use lib.Dec.{T, T_not, not_T, eqb, leb, ltb, leb→le, nleb→lt, ltb→lt, nltb→le}
use lib.ListN.{length, get_or, drop, drop_of_length-le, set, replicate, length-set, length-replicate}
use lib.Seq.{drop-cons, get_or-set_same, get_or-set_other}
use Rattle.fields.proofs.Tests.{test, by_test, by_equal, T_true, T_false, true→T, false→T}
use Rattle.pool.specs.Bounds.{most_blocks, most_slots}
use Rattle.pool.specs.Pool.{place, has, mapped, unmapped}
use Rattle.pool.proofs.Held.{place_at, place_below, at_has}
use Rattle.pool.proofs.Unmapping.{mapped_most}
use Rattle.runs.specs.Runs.{most_runs, most_run, is_held, held_from, run, room_from, run_at, runs_from}
use Rattle.runs.specs.Page.{status_page, status_data}

-- ---- the blocks of a run

-- a block is of the kind h, or it is not
by_held : (h : Bool) (o : List ℕ) (a : ℕ) (P : Bool → Type 0) → (mapped o a ≡ h → P true) → (mapped o a ≢ h → P false) → P (is_held h o a)
unfolding is_held
by_held true o a P f g =
    by_test (mapped o a) P (λ t. f (T_true (mapped o a) t)) (λ t. g (λ e. T_not (mapped o a) t (true→T (mapped o a) e)))
by_held false o a P f g =
    by_test (mapped o a) (λ q. P (not q)) (λ t. g (λ e. T_not (mapped o a) (false→T (mapped o a) e) t)) (λ t. f (T_false (mapped o a) t))

module _ (h : Bool) (o : List ℕ) where
  pub held_most : (a n : ℕ) → held_from h o a n ≤ n
  unfolding held_from
  held_most a zero = omega arith
  held_most a (suc n) =
      by_held h o a (λ q. cond q (suc (held_from h o (suc a) n)) 0 ≤ suc n)
      (λ e. let ih = held_most (suc a) n in omega arith) (λ d. omega arith)

  pub held_all : (a n j : ℕ) → j < held_from h o a n → mapped o (a + j) ≡ h
  unfolding held_from
  held_all a zero j l = absurd (omega arith)
  held_all a (suc n) zero l =
      by_held h o a (λ q. 0 < cond q (suc (held_from h o (suc a) n)) 0 → mapped o (a + 0) ≡ h)
      (λ e u. ap (mapped o) (add-zero a) ∙ e) (λ d u. absurd (omega arith)) l
  held_all a (suc n) (suc j) l =
      by_held h o a (λ q. suc j < cond q (suc (held_from h o (suc a) n)) 0 → mapped o (a + suc j) ≡ h)
      (λ e u. let s : a + suc j ≡ suc a + j = omega arith in ap (mapped o) s ∙ held_all (suc a) n j (omega arith))
      (λ d u. absurd (omega arith)) l

  pub held_ends : (a n : ℕ) → held_from h o a n < n → mapped o (a + held_from h o a n) ≢ h
  unfolding held_from
  held_ends a zero l = absurd (omega arith)
  held_ends a (suc n) l =
      by_held h o a (λ q. cond q (suc (held_from h o (suc a) n)) 0 < suc n → mapped o (a + cond q (suc (held_from h o (suc a) n)) 0) ≢ h)
      (λ e u.
      let s : a + suc (held_from h o (suc a) n) ≡ suc a + held_from h o (suc a) n = omega arith in
      rw s (held_ends (suc a) n (omega arith)))
      (λ d u. rw (add-zero a) d) l

  -- as long as all are so, and one more is not
  pub held_is : (a n k : ℕ) → k ≤ n → ((j : ℕ) → j < k → mapped o (a + j) ≡ h) → (k < n → mapped o (a + k) ≢ h) → held_from h o a n ≡ k
  held_is a n k b all end =
      let m = held_most a n in
      test (ltb (held_from h o a n) k)
      (λ t. let l = ltb→lt (held_from h o a n) k t in absurd (held_ends a n (omega arith) (all (held_from h o a n) l)))
      (λ t. let l = nltb→le (held_from h o a n) k t in
      test (ltb k (held_from h o a n))
      (λ u. let r = ltb→lt k (held_from h o a n) u in absurd (end (omega arith) (held_all a n k r)))
      (λ u. let r = nltb→le k (held_from h o a n) u in omega arith))

  -- no more need be looked at than it has
  pub held_cut : (a n m : ℕ) → held_from h o a n ≤ m → m ≤ n → held_from h o a m ≡ held_from h o a n
  held_cut a n m l b = held_is a m (held_from h o a n) l (held_all a n) (λ r. held_ends a n (omega arith))

  -- and those beyond what is told do not count
  pub held_least : (a n m : ℕ) → m ≤ n → min (held_from h o a n) m ≡ held_from h o a m
  held_least a n m b =
      test (leb (held_from h o a n) m)
      (λ t. let l = leb→le (held_from h o a n) m t in let e = held_cut a n m l b in omega arith)
      (λ t.
      let l = nleb→lt (held_from h o a n) m t in
      let e = held_is a m m (omega arith) (λ j r. held_all a n j (omega arith)) (λ r. absurd (omega arith)) in
      omega arith)

  pub held_first : (a n : ℕ) → 0 < held_from h o a n → mapped o a ≡ h
  held_first a n l = ap (mapped o) (sym (add-zero a)) ∙ held_all a n 0 l

  pub held_none : (a n : ℕ) → held_from h o a n ≡ 0 → 0 < n → mapped o a ≢ h
  held_none a n e l d =
      held_ends a n (omega arith) (rw (e, add-zero a) d)

pub held_other : (h : Bool) (o : List ℕ) (a : ℕ) → mapped o a ≢ h → mapped o a ≡ not h
held_other true o a d = T_false (mapped o a) (not_T (mapped o a) (λ t. d (T_true (mapped o a) t)))
held_other false o a d = test (mapped o a) (λ t. T_true (mapped o a) t) (λ t. absurd (d (T_false (mapped o a) t)))

-- ---- a mapped run has no more blocks than there are slots

none_unmapped : (o : List ℕ) (a n : ℕ) → ((j : ℕ) → j < n → mapped o (a + j) ≡ true) → unmapped o a n ≡ 0
unfolding unmapped
none_unmapped o a zero all = refl
none_unmapped o a (suc n) all =
    let e : mapped o a ≡ true = ap (mapped o) (sym (add-zero a)) ∙ all 0 (omega arith) in
    let ih : unmapped o (suc a) n ≡ 0 =
    none_unmapped o (suc a) n (λ j l. let s : suc a + j ≡ a + suc j = omega arith in ap (mapped o) s ∙ all (suc j) (omega arith)) in
    rw (e, ih)

pub mapped_short : (o : List ℕ) (a n : ℕ) → held_from true o a n ≤ length o
mapped_short o a n =
    let k = held_from true o a n in
    omega (arith, none_unmapped o a k (held_all true o a n), mapped_most o a k)

-- so that only as many need be looked at
pub mapped_cut : (o : List ℕ) (a n : ℕ) → length o ≤ most_slots → most_slots ≤ n → held_from true o a most_slots ≡ held_from true o a n
mapped_cut o a n s h = held_cut true o a n most_slots (let l = mapped_short o a n in omega arith) h

-- ---- how far an owner number lies above another, as `map::slots::above` tells it

-- from below, further than there are blocks
pub wraps : (y first far : ℕ) → first ≤ most_blocks + 1 → (y < first → y + 2 ^ 64 ≡ first + far) → y < first → most_blocks < far
wraps y first far small e h = let q = e h in omega arith

-- ---- a mapped run by its marks

module _ (o : List ℕ) (marks : List Bool) (a n k : ℕ) (each : (j : ℕ) → j < most_slots → get_or marks j false ≡ mapped o (a + j)) (b : n ≤ most_slots) where
  pub marks_run : k ≤ n → ((j : ℕ) → j < k → get_or marks j false ≡ true) → (k < n → get_or marks k false ≡ false) → k ≡ held_from true o a n
  marks_run h all end =
      sym (held_is true o a n k h
      (λ j l. sym (each j (omega arith)) ∙ all j l)
      (λ l e. false≢true (sym (end l) ∙ each k (omega arith) ∙ e)))

pub true_more : (l : List Bool) (k : ℕ) → ((j : ℕ) → j < k → get_or l j false ≡ true) → get_or l k false ≡ true → (j : ℕ) → j < k + 1 → get_or l j false ≡ true
true_more l k all d j h = by_equal j k (λ q. get_or l j false ≡ true) (λ e. rw e d) (λ n. all j (omega arith))

-- the marks of the slots before i: a block is marked or has its slot from i on, exactly if it has one
pub record Marked (o : List ℕ) (first : ℕ) (marks : List Bool) (i : ℕ) : Type 0 where
  pub size : length marks ≡ most_slots
  pub each : (k : ℕ) → k < most_slots → (get_or marks k false || has (first + k) (drop i o)) ≡ has (first + k) o

pub mark_start : (o : List ℕ) (first : ℕ) → Marked o first (replicate most_slots false) 0
mark_start o first = record { size = length-replicate most_slots false; each = λ k h. rw (get_d_none most_slots k) refl }
  where
    get_d_none : (n k : ℕ) → get_or (replicate n false) k false ≡ false
    get_d_none zero k = refl
    get_d_none (suc n) zero = refl
    get_d_none (suc n) (suc k) = get_d_none n k

or_true : (a b : Bool) → (a || (true || b)) ≡ true
or_true true b = refl
or_true false b = refl

or_none : (a : Bool) → (a || false) ≡ a
or_none true = refl
or_none false = refl

module _ (o : List ℕ) (first : ℕ) (marks : List Bool) (i far : ℕ) (b : i < length o) (m : Marked o first marks i)
    (near : first ≤ get_or o i 0 → get_or o i 0 ≡ first + far) (low : get_or o i 0 < first → most_blocks < far) where
  has_next : (x : ℕ) → has x (drop i o) ≡ (eqb (get_or o i 0) x || has x (drop (i + 1) o))
  unfolding has
  has_next x =
      let q : suc i ≡ i + 1 = omega arith in
      ap (has x) (drop-cons o i 0 b) ∙ ap (λ (j : ℕ). eqb (get_or o i 0) x || has x (drop j o)) q

  -- a block that the slot is not of
  passed : (k : ℕ) → k < most_slots → (get_or o i 0 ≡ first + k → ⊥) → (get_or marks k false || has (first + k) (drop (i + 1) o)) ≡ has (first + k) o
  passed k h d = rw (has_next (first + k), ne_eqb (get_or o i 0) (first + k) d) at (m.each k h)

  pub mark_none : most_slots ≤ far → Marked o first marks (i + 1)
  mark_none f = record { size = m.size; each = λ k h. passed k h (λ e. let q = near (omega arith) in omega arith) }

  pub mark_one : far < most_slots → Marked o first (set marks far true) (i + 1)
  mark_one f =
      let l = m.size in
      let x : get_or o i 0 ≡ first + far =
      test (ltb (get_or o i 0) first)
      (λ t. let q = low (ltb→lt (get_or o i 0) first t) in absurd (omega arith))
      (λ t. near (nltb→le (get_or o i 0) first t)) in
      record {
        size = length-set marks far true ∙ m.size;
        each = λ k h.
            by_equal k far (λ q. (get_or (set marks far true) k false || has (first + k) (drop (i + 1) o)) ≡ has (first + k) o)
            (λ e. rw (e, get_or-set_same marks far true false (omega arith))
            (sym (or_true (get_or marks far false) (has (first + far) (drop (i + 1) o)))
            ∙ rw (has_next (first + far), eq-eqb (get_or o i 0) (first + far) x) at (m.each far f)))
            (λ d. rw (get_or-set_other marks far k true false d) (passed k h (λ e. d (omega arith))));
      }

pub mark_done : (o : List ℕ) (a i : ℕ) (marks : List Bool) → length o ≤ i → Marked o (a + 1) marks i → (k : ℕ) → k < most_slots → get_or marks k false ≡ mapped o (a + k)
unfolding mapped has
mark_done o a i marks z m k h =
    let s : a + 1 + k ≡ suc (a + k) = omega arith in
    sym (or_none (get_or marks k false)) ∙ (rw (drop_of_length-le o z) at (m.each k h)) ∙ ap (λ (x : ℕ). has x o) s

-- ---- an unmapped run by the least owner number from its first block's on

-- what is known of it, that it lies `least` above `first`, when the slots below i are passed
pub record Nearest (o : List ℕ) (first most i least : ℕ) : Type 0 where
  pub within : least ≤ most
  pub passed : (j : ℕ) → j < i → first ≤ get_or o j 0 → first + least ≤ get_or o j 0
  pub there : least < most → T (has (first + least) o)

pub near_start : (o : List ℕ) (first most : ℕ) → Nearest o first most 0 most
near_start o first most = record { within = omega arith; passed = λ j h l. absurd (omega arith); there = λ h. absurd (omega arith) }

-- r is the lesser of `least` and of how far an owner number lies above `first`, as `nearer` tells it
abbrev Lesser : ℕ → ℕ → ℕ → ℕ → Type 0
Lesser owner first least r = (first ≤ owner → r ≡ min (owner - first) least) × (owner < first → r ≡ min (owner + 2 ^ 64 - first) least)

-- one slot more
module _ (o : List ℕ) (first most i least r : ℕ) (b : i < length o) (low : first ≤ most_blocks + 1) (small : most ≤ most_blocks) (n : Nearest o first most i least)
    (lesser : Lesser (get_or o i 0) first least r) where
  stays : r ≡ least → (first ≤ get_or o i 0 → first + least ≤ get_or o i 0) → Nearest o first most (i + 1) r
  stays e far = rw e record {
    within = n.within;
    passed = λ j h l. by_equal j i (λ q. first + least ≤ get_or o j 0) (λ q. rw q (far (rw q at l))) (λ d. n.passed j (omega arith) l);
    there = n.there;
  }

  comes : get_or o i 0 ≡ first + r → r ≤ least → Nearest o first most (i + 1) r
  comes x f =
      let w = n.within in
      record {
        within = omega arith;
        passed = λ j h l. by_equal j i (λ q. first + r ≤ get_or o j 0) (λ e. rw e (omega arith)) (λ d. let p = n.passed j (omega arith) l in omega arith);
        there = λ h. at_has (first + r) o i b x;
      }

  pub near_next : Nearest o first most (i + 1) r
  near_next =
      let w = n.within in
      test (ltb (get_or o i 0) first)
      (λ t. let l = ltb→lt (get_or o i 0) first t in let e = lesser.1 l in stays (omega arith) (λ h. absurd (omega arith)))
      (λ t.
      let l = nltb→le (get_or o i 0) first t in
      let e = lesser.0 l in
      test (leb (get_or o i 0 - first) least)
      (λ u. let k = leb→le (get_or o i 0 - first) least u in comes (omega arith) (omega arith))
      (λ u. let k = nleb→lt (get_or o i 0 - first) least u in stays (omega arith) (λ h. omega arith)))

-- the two slots of a turn
pub near_two : (o : List ℕ) (first most t least r u : ℕ) → 2 * t + 1 < length o → first ≤ most_blocks + 1 → most ≤ most_blocks → Nearest o first most (2 * t) least
    → Lesser (get_or o (2 * t) 0) first least r → Lesser (get_or o (2 * t + 1) 0) first r u → Nearest o first most (2 * (t + 1)) u
near_two o first most t least r u b low small n one other =
    let e : 2 * t + 1 + 1 ≡ 2 * (t + 1) = omega arith in
    rw e at (near_next o first most (2 * t + 1) r u b low small (near_next o first most (2 * t) least r (omega arith) low small n one) other)

-- the first block is mapped
pub near_none : (o : List ℕ) (a most i least : ℕ) → Nearest o (a + 1) most i least → least ≡ 0 → 0 ≡ held_from false o a most
unfolding mapped
near_none o a most i least n z =
    sym (held_is false o a most 0 (omega arith) (λ j l. absurd (omega arith))
    (λ l e.
    let s : suc (a + 0) ≡ a + 1 + least = omega arith in
    T_not (has (a + 1 + least) o) (false→T (has (a + 1 + least) o) (rw s at e)) (n.there (omega arith))))

pub near_run : (o : List ℕ) (a most i least : ℕ) → length o ≤ i → Nearest o (a + 1) most i least → least ≡ held_from false o a most
unfolding mapped
near_run o a most i least z n =
    sym (held_is false o a most least n.within
    (λ j l. T_false (has (suc (a + j)) o) (not_T (has (suc (a + j)) o) (λ t.
    let e = place_at (suc (a + j)) o t in
    let q = place_below (suc (a + j)) o t in
    let p = n.passed (place (suc (a + j)) o) (omega arith) (omega arith) in
    omega arith)))
    (λ l e.
    let s : suc (a + least) ≡ a + 1 + least = omega arith in
    T_not (has (a + 1 + least) o) (false→T (has (a + 1 + least) o) (rw s at e)) (n.there l)))

-- ---- the room of a run, and the run

module _ (capacity a : ℕ) where
  pub room_left : room_from capacity a ≤ capacity - a
  unfolding room_from
  room_left = omega arith

  pub room_most : room_from capacity a ≤ most_run
  unfolding room_from
  room_most = omega arith

  pub room_some : a < capacity → 0 < room_from capacity a
  unfolding room_from
  room_some h = omega arith

  -- where a run has all its room it ends at the capacity or at the cap
  pub room_full : room_from capacity a < capacity - a → room_from capacity a ≡ most_run
  unfolding room_from
  room_full h = omega arith

-- a run is looked at one block further than it is told
abbrev pub sight_from : ℕ → ℕ → ℕ
sight_from capacity a = min (capacity - a) (most_run + 1)

sight_told : (capacity : ℕ) (h : Bool) (o : List ℕ) (a : ℕ)
    → min (held_from h o a (sight_from capacity a)) most_run ≡ held_from h o a (room_from capacity a)
unfolding room_from
sight_told capacity h o a =
    let e : min (held_from h o a (sight_from capacity a)) most_run ≡ min (held_from h o a (sight_from capacity a)) (min (capacity - a) most_run) =
    let m = held_most h o a (sight_from capacity a) in omega arith in
    e ∙ held_least h o a (sight_from capacity a) (min (capacity - a) most_run) (omega arith)

module _ (capacity : ℕ) (o : List ℕ) (a : ℕ) where
  -- a run that is seen so far, as it is told
  pub run_seen : (h : Bool) (n : ℕ) → mapped o a ≡ h → n ≡ held_from h o a (sight_from capacity a) → run a (min n most_run) h ≡ run_at capacity o a
  unfolding run_at
  run_seen h n e q = rw (q, sight_told capacity h o a, e)

  pub run_start : (run_at capacity o a).start ≡ a
  unfolding run_at
  run_start = refl

  pub run_held : (run_at capacity o a).held ≡ mapped o a
  unfolding run_at
  run_held = refl

  pub run_count : (run_at capacity o a).count ≡ held_from (mapped o a) o a (room_from capacity a)
  unfolding run_at
  run_count = refl

  pub run_room : (run_at capacity o a).count ≤ room_from capacity a
  run_room = rw run_count (held_most (mapped o a) o a (room_from capacity a))

  pub run_left : (run_at capacity o a).count ≤ capacity - a
  run_left = let h = run_room in let k = room_left capacity a in omega arith

  pub run_most : (run_at capacity o a).count ≤ most_run
  run_most = let h = run_room in let k = room_most capacity a in omega arith

-- ---- run after run

module _ (capacity : ℕ) (o : List ℕ) (a n : ℕ) where
  pub runs_more : a < capacity
      → runs_from capacity o a (suc n) ≡ run_at capacity o a ∷ runs_from capacity o (a + (run_at capacity o a).count) n
  unfolding runs_from
  runs_more h = rw (lt-leb capacity a h)

pub runs_none : (capacity : ℕ) (o : List ℕ) (a : ℕ) → runs_from capacity o a 0 ≡ []
unfolding runs_from
runs_none capacity o a = refl

pub runs_end : (capacity : ℕ) (o : List ℕ) (a n : ℕ) → capacity ≤ a → runs_from capacity o a n ≡ []
unfolding runs_from
runs_end capacity o a zero h = refl
runs_end capacity o a (suc n) h = rw (le-leb capacity a h)

pub length_runs : (capacity : ℕ) (o : List ℕ) (a n : ℕ) → length (runs_from capacity o a n) ≤ n
length_runs capacity o a zero = rw runs_none (omega arith)
length_runs capacity o a (suc n) =
    test (ltb a capacity)
    (λ t. rw (runs_more capacity o a n (ltb→lt a capacity t))
    (let ih = length_runs capacity o (a + (run_at capacity o a).count) n in omega arith))
    (λ t. rw (runs_end capacity o a (suc n) (nltb→le a capacity t)) (omega arith))

-- ---- only what is mapped counts

module _ (x y : List ℕ) (same : (b : ℕ) → mapped x b ≡ mapped y b) where
  held_same : (h : Bool) (a n : ℕ) → held_from h x a n ≡ held_from h y a n
  held_same h a n =
      held_is h x a n (held_from h y a n) (held_most h y a n)
      (λ j l. same (a + j) ∙ held_all h y a n j l)
      (λ l e. held_ends h y a n l (sym (same (a + held_from h y a n)) ∙ e))

  run_same : (capacity a : ℕ) → run_at capacity x a ≡ run_at capacity y a
  unfolding run_at
  run_same capacity a = rw (same a, held_same (mapped y a) a (room_from capacity a))

  runs_same : (capacity a n : ℕ) → runs_from capacity x a n ≡ runs_from capacity y a n
  unfolding runs_from
  runs_same capacity a zero = refl
  runs_same capacity a (suc n) =
      rw (run_same capacity a, runs_same capacity (a + (run_at capacity y a).count) n)

pub status_same : (capacity start : ℕ) (x y : List ℕ) → ((b : ℕ) → mapped x b ≡ mapped y b) → status_data capacity x start ≡ status_data capacity y start
unfolding status_data
status_same capacity start x y same = ap status_page (runs_same x y same capacity start most_runs)
