-- The pass over the slots by which `sound` is proved: the slots passed are in chains, one for each bucket, so that a slot which
-- names a block again is found in the chain of its bucket. What a bucket is does not matter, only that a number has one.
-- Assumes nothing.
use mathlib.Core.Path.{◌≡◌, refl, sym, ◌∙◌}
use mathlib.Core.Bool.{true, false}
use mathlib.Core.List.{List}
use mathlib.Core.Logic.{◌≢◌}
use Prim.Native.Nat.{ℕ, zero, suc, ◌+◌, ◌-◌, ◌<◌, ◌≤◌}
use native.Mathlib.Omega.{arith}
use lib.Dec.{T, T_not}
use lib.ListN.{length, get_or, take, set, replicate, length-set, length-replicate, get_or-replicate, get_or-eq_default}
use lib.Seq.{get_or-take, length-take-le, get_or-set_same, get_or-set_other}
use borrow.Author.Count.{below_more}
use Rattle.fields.proofs.Tests.{test, by_equal, true→T, false→T, T_true, T_false}
use Rattle.pool.specs.Bounds.{most_slots}
use Rattle.pool.specs.Pool.{has, place}
use Rattle.pool.specs.Valid.{map_ok}
use Rattle.pool.specs.Faults.{Clashing}
use Rattle.pool.proofs.Held.{at_has, place_at, place_below}
use Rattle.pool.proofs.Keeping.{map_ok_within, map_ok_distinct}
use Rattle.pool.proofs.Clashes.{within_at, distinct_apart, checked_ways}
use Rattle.audit.specs.Chains.{bucket_of, Last, Linked, Chained}

pub bucket_below : (x : ℕ) → bucket_of x < 256
unfolding bucket_of
bucket_below x = omega arith

-- ---- slots before slot i

module _ (x : ℕ) (xs : List ℕ) (i : ℕ) (b : i ≤ length xs) where
  -- one of them has the number x
  has_before : (j : ℕ) → j < i → get_or xs j 0 ≡ x → T (has x (take i xs))
  has_before j h e = at_has x (take i xs) j (omega (arith, length-take-le i xs b)) (get_or-take i xs j 0 h ∙ e)

  before_has : {P : Type 0} → T (has x (take i xs)) → ((j : ℕ) → j < i → get_or xs j 0 ≡ x → P) → P
  before_has t f =
      let h : place x (take i xs) < i = omega (arith, place_below x (take i xs) t, length-take-le i xs b) in
      f (place x (take i xs)) h (sym (get_or-take i xs (place x (take i xs)) 0 h) ∙ place_at x (take i xs) t)

  none_before : ((k : ℕ) → k < i → get_or xs k 0 ≢ x) → has x (take i xs) ≡ false
  none_before none = test (has x (take i xs)) (λ t. before_has t (λ j h e. absurd (none j h e))) (λ t. T_false (has x (take i xs)) t)

-- ---- down a chain

-- the slots from the link on do not name the block x, and the link is into its chain
pub record Walked (xs : List ℕ) (x i link : ℕ) : Type 0 where
  pub below : link ≤ i
  pub used : link ≢ 0 → get_or xs (link - 1) 0 ≢ 0
  pub own : link ≢ 0 → bucket_of (get_or xs (link - 1) 0) ≡ bucket_of x
  pub none : (k : ℕ) → link ≤ k → k < i → get_or xs k 0 ≢ x

module _ {xs earlier : List ℕ} {link i : ℕ} (c : Chained xs earlier link i) where
  module _ {at : ℕ} (w : Walked xs (get_or xs i 0) i at) where
    pub walk_found : 0 < at → get_or xs (at - 1) 0 ≡ get_or xs i 0 → has (get_or xs i 0) (take i xs) ≡ true
    walk_found p e =
        let h = w.below in
        let t = c.there in
        T_true _ (has_before (get_or xs i 0) xs i (omega arith) (at - 1) (omega arith) e)

    pub walk_end : at ≤ 0 → has (get_or xs i 0) (take i xs) ≡ false
    walk_end e = let t = c.there in none_before (get_or xs i 0) xs i (omega arith) (λ k h. w.none k (omega arith) h)

-- ---- the pass

-- of the first i slots none is beyond the capacity, no two name the same block, and each is in the chain of its bucket
pub record Passed (capacity : ℕ) (xs last earlier : List ℕ) (i : ℕ) : Type 0 where
  pub buckets : length last ≡ 256
  pub links : length earlier ≡ most_slots
  pub within : (k : ℕ) → k < i → get_or xs k 0 ≤ capacity
  pub apart : (k : ℕ) → k < i → (j : ℕ) → Clashing xs j k → ⊥
  pub linked : Linked xs earlier i
  pub lasts : (b : ℕ) → b < 256 → Last xs b i (get_or last b 0)

-- a slot more that is free or in another bucket
last_more : (xs : List ℕ) (b i link : ℕ) → Last xs b i link → (get_or xs i 0 ≢ 0 → bucket_of (get_or xs i 0) ≢ b) → Last xs b (i + 1) link
last_more xs b i link l d =
    let h = l.below in
    record {
      below = omega arith;
      used = l.used;
      own = l.own;
      none = λ k u v. by_equal k i (λ q. get_or xs k 0 ≢ 0 → bucket_of (get_or xs k 0) ≢ b) (λ e. rw e d) (λ e. l.none k u (omega arith));
    }

-- the slot itself is the last
last_here : (xs : List ℕ) (i : ℕ) → get_or xs i 0 ≢ 0 → Last xs (bucket_of (get_or xs i 0)) (i + 1) (i + 1)
last_here xs i d =
    let e : i + 1 - 1 ≡ i = omega arith in
    record { below = omega arith; used = λ z. rw e d; own = λ z. rw e; none = λ k u v. absurd (omega arith) }

module _ {capacity : ℕ} {xs : List ℕ} where
  pub passed_none : Passed capacity xs (replicate 256 0) (replicate most_slots 0) 0
  passed_none =
      record {
        buckets = length-replicate {A = ℕ} 256 0;
        links = length-replicate {A = ℕ} most_slots 0;
        within = λ k u. absurd (omega arith);
        apart = λ k u. absurd (omega arith);
        linked = record { each = λ k u. absurd (omega arith) };
        lasts = λ b u. rw (get_or-replicate {A = ℕ} 256 b 0 0 u)
            (record { below = omega arith; used = λ z. absurd (z refl); own = λ z. absurd (z refl); none = λ k s t. absurd (omega arith) });
      }

  module _ {last earlier : List ℕ} {i : ℕ} (p : Passed capacity xs last earlier i) where
    pub passed_all : length xs ≤ i → map_ok capacity xs ≡ true
    passed_all e =
        T_true (map_ok capacity xs)
        (checked_ways capacity xs (λ r. T (map_ok capacity xs)) (λ t. t)
        (λ k b. let t = b.there in let a = b.above in absurd (omega (arith, p.within k (omega arith))))
        (λ j k w c. let t = c.clash.there in absurd (p.apart k (omega arith) j c.clash)))

    -- a free slot
    pub passed_free : get_or xs i 0 ≡ 0 → Passed capacity xs last earlier (i + 1)
    passed_free e =
        record {
          buckets = p.buckets;
          links = p.links;
          within = below_more (λ (k : ℕ). get_or xs k 0 ≤ capacity) i p.within (omega arith);
          apart = below_more (λ (k : ℕ). (j : ℕ) → Clashing xs j k → ⊥) i p.apart (λ j c. c.used (c.same ∙ e));
          linked = record {
            each = below_more (λ (k : ℕ). get_or xs k 0 ≢ 0 → Last xs (bucket_of (get_or xs k 0)) k (get_or earlier k 0)) i p.linked.each (λ d. absurd (d e));
          };
          lasts = λ b u. last_more xs b i (get_or last b 0) (p.lasts b u) (λ d. absurd (d e));
        }

    module _ (b : i < length xs) where
      -- a slot beyond the capacity
      pub passed_beyond : capacity < get_or xs i 0 → map_ok capacity xs ≡ false
      passed_beyond a =
          test (map_ok capacity xs)
          (λ t. let w = within_at capacity xs (map_ok_within capacity xs t) i in absurd (omega arith))
          (λ t. T_false (map_ok capacity xs) t)

      module _ (d : get_or xs i 0 ≢ 0) where
        -- what the search in the chain of slot i needs
        pub passed_chain : {bucket : ℕ} → bucket ≡ bucket_of (get_or xs i 0) → length xs ≤ most_slots → Chained xs earlier (get_or last bucket 0) i
        passed_chain e f =
            rw e (record { few = f; there = b; used = d; linked = p.linked; last = p.lasts (bucket_of (get_or xs i 0)) (bucket_below (get_or xs i 0)) })

        -- a slot that names what one before it names
        pub passed_named : has (get_or xs i 0) (take i xs) ≡ true → map_ok capacity xs ≡ false
        passed_named e =
            test (map_ok capacity xs)
            (λ t. before_has (get_or xs i 0) xs i (omega arith) (true→T (has (get_or xs i 0) (take i xs)) e)
            (λ j r s. absurd (distinct_apart xs (map_ok_distinct capacity xs t) j i (record { rising = r; there = b; same = s; used = λ z. d (sym s ∙ z) }))))
            (λ t. T_false (map_ok capacity xs) t)

        -- a slot that names what none before it names
        pub passed_new : {bucket : ℕ} → bucket ≡ bucket_of (get_or xs i 0) → length xs ≤ most_slots → get_or xs i 0 ≤ capacity → has (get_or xs i 0) (take i xs) ≡ false
            → Passed capacity xs (set last bucket (i + 1)) (set earlier i (get_or last bucket 0)) (i + 1)
        passed_new s f w none =
            rw s (record {
              buckets = length-set last _ _ ∙ p.buckets;
              links = length-set earlier _ _ ∙ p.links;
              within = below_more (λ (k : ℕ). get_or xs k 0 ≤ capacity) i p.within w;
              apart = below_more (λ (k : ℕ). (j : ℕ) → Clashing xs j k → ⊥) i p.apart
                  (λ j c. T_not (has x (take i xs)) (false→T (has x (take i xs)) none) (has_before x xs i (omega arith) j c.rising c.same));
              linked = record {
                each = below_more (λ (k : ℕ). get_or xs k 0 ≢ 0 → Last xs (bucket_of (get_or xs k 0)) k (get_or earlier' k 0)) i
                    (λ k u z. rw (get_or-set_other earlier i k (get_or last bucket 0) 0 (λ e. omega arith)) (p.linked.each k u z))
                    (λ z. rw (get_or-set_same earlier i (get_or last bucket 0) 0 (let l = p.links in omega arith)) (p.lasts bucket (bucket_below x)));
              };
              lasts = λ c u. by_equal c bucket (λ q. Last xs c (i + 1) (get_or last' c 0))
                  (λ e. rw (e, get_or-set_same last bucket (i + 1) 0 (let l = p.buckets in omega (arith, bucket_below x))) (last_here xs i d))
                  (λ e. rw (get_or-set_other last bucket c (i + 1) 0 e) (last_more xs c i (get_or last c 0) (p.lasts c u) (λ z s. e (sym s))));
            })
          where
            x : ℕ
            x = get_or xs i 0

            bucket : ℕ
            bucket = bucket_of x

            last' : List ℕ
            last' = set last bucket (i + 1)

            earlier' : List ℕ
            earlier' = set earlier i (get_or last bucket 0)

  -- past the last slot
  pub passed_past : {last earlier : List ℕ} {i : ℕ} → Passed capacity xs last earlier i → length xs ≤ i → (n : ℕ) → Passed capacity xs last earlier (i + n)
  passed_past {last} {earlier} {i} p e zero = let s : i + zero ≡ i = omega arith in rw s p
  passed_past {last} {earlier} {i} p e (suc n) =
      let s : i + suc n ≡ i + n + 1 = omega arith in
      rw s (passed_free (passed_past p e n) (get_or-eq_default xs 0 (omega arith)))
