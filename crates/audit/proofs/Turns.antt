-- What the check of the owner numbers names: the first slot beyond the capacity, found by position, or a pair, by a turn of each loop.
-- Assumes nothing.
use mathlib.Core.Path.{◌≡◌, refl, sym, ◌∙◌}
use mathlib.Core.Bool.{cond}
use mathlib.Core.List.{List, [], ◌∷◌}
use mathlib.Core.Logic.{◌≢◌}
use Prim.Native.Nat.{ℕ, suc, ◌+◌, ◌<◌, ◌≤◌}
use native.Mathlib.Numerals.{add-one}
use lib.Dec.{ltb}
use lib.ListN.{length, get_or, drop, drop_of_length-le}
use lib.Seq.{drop-cons}
use borrow.Author.Tests.{eq-eqb, ne_eqb}
use Rattle.fields.proofs.Tests.{by_test}
use Rattle.std.specs.List.{position_from}
use Rattle.std.specs.Prelude.{Option, Some, None, Ok, Err, position}
use Rattle.std.proofs.lemmas.Iterator.Adapters.{position_from-zero}
use Rattle.pool.specs.Valid.{slot, beyond_from, again_from, clash_from, checked, Check}
use Rattle.pool.specs.declared.Flaw.{Flaw}
use Rattle.pool.specs.declared.Flaw.TheVariants.{Beyond, Clash}

-- what is named where a slot is found, and what comes next where none is
named : (ℕ → Flaw) → Option ℕ → Check → Check
named f (Some i) next = Err (f i)
named f None next = next

beyond_named : (capacity k : ℕ) (ys : List ℕ) (next : Check)
    → beyond_from capacity k ys next ≡ named (λ m. Beyond (slot m)) (position_from (λ y. ltb capacity y) k ys) next
unfolding beyond_from named
beyond_named capacity k [] next = refl
beyond_named capacity k (y ∷ ys) next =
    by_test (ltb capacity y)
    (λ b. cond b (Err (Beyond (slot k))) (beyond_from capacity (suc k) ys next)
    ≡ named (λ m. Beyond (slot m)) (cond b (Some k) (position_from (λ z. ltb capacity z) (k + 1) ys)) next)
    (λ _. refl) (λ _. rw add-one (beyond_named capacity (suc k) ys next))

module _ (capacity : ℕ) (xs : List ℕ) where
  beyond_is : checked capacity xs ≡ named (λ m. Beyond (slot m)) (position (λ y. ltb capacity y) xs) (clash_from 0 xs)
  unfolding checked
  beyond_is =
      rw (position_from-zero (λ y. ltb capacity y) xs) (beyond_named capacity 0 xs (clash_from 0 xs))

  pub beyond_found : (i : ℕ) → Some i ≡ position (λ y. ltb capacity y) xs → Err (Beyond (slot i)) ≡ checked capacity xs
  unfolding named
  beyond_found i e = sym (beyond_is ∙ rw (sym e))

  pub beyond_none : None ≡ position (λ y. ltb capacity y) xs → clash_from 0 xs ≡ checked capacity xs
  unfolding named
  beyond_none e = sym (beyond_is ∙ rw (sym e))

-- ---- a pair

module _ (xs : List ℕ) (i : ℕ) where
  pub clash_skip : i < length xs → get_or xs i 0 ≡ 0 → clash_from i (drop i xs) ≡ clash_from (i + 1) (drop (i + 1) xs)
  unfolding clash_from
  clash_skip h e = rw (drop-cons xs i 0, eq-eqb _ _ e, add-one)

  pub clash_enter : i < length xs → get_or xs i 0 ≢ 0
      → clash_from i (drop i xs) ≡ again_from i (get_or xs i 0) (i + 1) (drop (i + 1) xs) (clash_from (i + 1) (drop (i + 1) xs))
  unfolding clash_from
  clash_enter h d = rw (drop-cons xs i 0, ne_eqb _ _ d, add-one)

  pub clash_end : length xs ≤ i → clash_from i (drop i xs) ≡ Ok tt
  unfolding clash_from
  clash_end h = rw drop_of_length-le

  module _ (x j : ℕ) (next : Check) where
    pub again_hit : j < length xs → get_or xs j 0 ≡ x → again_from i x j (drop j xs) next ≡ Err (Clash (slot i) (slot j))
    unfolding again_from
    again_hit h e = rw (drop-cons xs j 0, eq-eqb _ _ e)

    pub again_miss : j < length xs → get_or xs j 0 ≢ x → again_from i x j (drop j xs) next ≡ again_from i x (j + 1) (drop (j + 1) xs) next
    unfolding again_from
    again_miss h d = rw (drop-cons xs j 0, ne_eqb _ _ d, add-one)

    pub again_end : length xs ≤ j → again_from i x j (drop j xs) next ≡ next
    unfolding again_from
    again_end h = rw drop_of_length-le
