-- Laws of the descriptors: how many are considered, which fail, one descriptor more, and in other words which fails first.
-- Assumes nothing.
use mathlib.Core.Path.{◌≡◌, refl, sym, ap, subst, ◌∙◌}
use mathlib.Core.Bool.{Bool, true, false, not, ◌||◌, cond, true≢false}
use mathlib.Core.List.{List}
use Prim.Native.Nat.{ℕ, zero, suc, ◌+◌, ◌*◌, ◌<◌, ◌≤◌}
use native.Mathlib.Omega.{arith}
use lib.Dec.{T}
use borrow.Author.Tests.{ltb-false}
use Rattle.fields.specs.Field.{field}
use Rattle.fields.specs.Bits.{number_in}
use Rattle.fields.proofs.Tests.{test, T_true, T_false}
use lib.ListN.{length, length-map}
use Rattle.pool.specs.Pool.{unmap_owners, freed}
use Rattle.pool.specs.declared.Lba.{Lba}
use Rattle.descriptors.specs.declared.Descriptor.{Descriptor}
use Rattle.descriptors.specs.declared.DescriptorReader.{DescriptorReader}
use Rattle.std.specs.Prelude.{Option, Some, None, is_some}
use Rattle.descriptors.specs.Descriptors.{descriptor_at, considered, fails, first_failing, some_fails, unmap_all}

-- ---- how many are considered

module _ (n : ℕ) (list : List ℕ) where
  -- in other words: a k-th descriptor is considered exactly if all its bytes lie within both lengths, the one that the list tells and the one that the CDB gives, which counts the 8 bytes before the first
  pub considered_whole : (k : ℕ) → 0 < k → k ≤ considered n list → (16 * k ≤ field 2 2 list) × (8 + 16 * k ≤ n)
  unfolding considered number_in
  considered_whole k h c = (omega (arith, h, c), omega (arith, h, c))

  pub whole_considered : (k : ℕ) → 16 * k ≤ field 2 2 list → 8 + 16 * k ≤ n → k ≤ considered n list
  unfolding considered number_in
  whole_considered k told given = omega (arith, told, given)

-- ---- which fail

module _ (capacity : ℕ) (d : Descriptor) where
  pub passes_within : fails capacity d ≡ false → d.address.0 + d.count ≤ capacity
  unfolding fails
  passes_within e = ltb-false capacity (d.address.0 + d.count) e

-- ---- one descriptor more

or_no_l : (a b : Bool) → (a || b) ≡ false → a ≡ false
or_no_l true b e = e
or_no_l false b e = refl

or_no_r : (a b : Bool) → (a || b) ≡ false → b ≡ false
or_no_r true b e = absurd (true≢false e)
or_no_r false b e = e

module _ (capacity : ℕ) (list : List ℕ) (at n : ℕ) where
  pub first_here : fails capacity (descriptor_at list at) ≡ true → first_failing capacity list at (suc n) ≡ Some (descriptor_at list at).address
  unfolding first_failing
  first_here e = ap (λ (b : Bool). cond b (Some (descriptor_at list at).address) (first_failing capacity list (at + 16) n)) e

  pub first_later : fails capacity (descriptor_at list at) ≡ false → first_failing capacity list at (suc n) ≡ first_failing capacity list (at + 16) n
  unfolding first_failing
  first_later e = ap (λ (b : Bool). cond b (Some (descriptor_at list at).address) (first_failing capacity list (at + 16) n)) e

  pub none_here : some_fails capacity list at (suc n) ≡ false → fails capacity (descriptor_at list at) ≡ false
  unfolding some_fails
  none_here e = or_no_l (fails capacity (descriptor_at list at)) (some_fails capacity list (at + 16) n) e

  pub none_later : some_fails capacity list at (suc n) ≡ false → some_fails capacity list (at + 16) n ≡ false
  unfolding some_fails
  none_later e = or_no_r (fails capacity (descriptor_at list at)) (some_fails capacity list (at + 16) n) e

pub first_end : (capacity : ℕ) (list : List ℕ) (at : ℕ) → first_failing capacity list at 0 ≡ None
unfolding first_failing
first_end capacity list at = refl

module _ (owners list : List ℕ) (at : ℕ) where
  pub unmap_turn : (n : ℕ) → unmap_all owners list at (suc n) ≡ unmap_all (unmap_owners owners (descriptor_at list at).address.0 (descriptor_at list at).count) list (at + 16) n
  unfolding unmap_all
  unmap_turn n = refl

  pub unmap_end : unmap_all owners list at 0 ≡ owners
  unfolding unmap_all
  unmap_end = refl

-- ---- a reader that gave a descriptor, and the reader behind it

abbrev pub Took : DescriptorReader → Descriptor → DescriptorReader → Type 0
Took s d t = (d ≡ descriptor_at s.list.now s.at) × (s.left ≡ suc t.left) × (t.at ≡ s.at + 16) × (t.list ≡ s.list)

module _ (s t : DescriptorReader) (d : Descriptor) (took : Took s d t) where
  module _ (capacity : ℕ) where
    here_is : (b : Bool) → fails capacity d ≡ b → fails capacity (descriptor_at s.list.now s.at) ≡ b
    here_is b = subst (λ (x : Descriptor). fails capacity x ≡ b) took.0

    pub told_here : fails capacity d ≡ true → Some d.address ≡ first_failing capacity s.list.now s.at s.left
    told_here f = rw (took.1, took.0) (sym (first_here capacity s.list.now s.at t.left (here_is true f)))

    pub told_later : fails capacity d ≡ false → first_failing capacity t.list.now t.at t.left ≡ first_failing capacity s.list.now s.at s.left
    told_later f = rw (took.1, took.2, took.3) (sym (first_later capacity s.list.now s.at t.left (here_is false f)))

    module _ (passes : some_fails capacity s.list.now s.at s.left ≡ false) where
      left_pass : some_fails capacity s.list.now s.at (suc t.left) ≡ false
      left_pass = rw took.1 at passes

      pub lies_within : d.address.0 + d.count ≤ capacity
      lies_within = rw took.0 (passes_within capacity (descriptor_at s.list.now s.at) (none_here capacity s.list.now s.at t.left left_pass))

      pub passes_on : some_fails capacity t.list.now t.at t.left ≡ false
      passes_on = rw (took.2, took.3) (none_later capacity s.list.now s.at t.left left_pass)

  pub unmap_next : (owners : List ℕ) → unmap_all (unmap_owners owners d.address.0 d.count) t.list.now t.at t.left ≡ unmap_all owners s.list.now s.at s.left
  unmap_next owners = rw (took.1, took.2, took.3, took.0) (sym (unmap_turn owners s.list.now s.at t.left))

pub told_end : (capacity : ℕ) (list : List ℕ) (at n : ℕ) → n ≡ 0 → None ≡ first_failing capacity list at n
told_end capacity list at n e = rw e (sym (first_end capacity list at))

pub unmap_none : (owners list : List ℕ) (at n : ℕ) → n ≡ 0 → owners ≡ unmap_all owners list at n
unmap_none owners list at n e = rw e (sym (unmap_end owners list at))

-- ---- in other words

-- some descriptor fails exactly if there is a first that does
pub some_fails_is : (capacity : ℕ) (list : List ℕ) (at n : ℕ) → some_fails capacity list at n ≡ is_some (first_failing capacity list at n)
unfolding some_fails first_failing
some_fails_is capacity list at zero = refl
some_fails_is capacity list at (suc n) = at_either (fails capacity (descriptor_at list at)) (some_fails_is capacity list (at + 16) n)
  where
    at_either : (b : Bool) → some_fails capacity list (at + 16) n ≡ is_some (first_failing capacity list (at + 16) n)
        → (b || some_fails capacity list (at + 16) n) ≡ is_some (cond b (Some (descriptor_at list at).address) (first_failing capacity list (at + 16) n))
    at_either true e = refl
    at_either false e = e

pub some_told : (capacity : ℕ) (list : List ℕ) (at n : ℕ) (address : Lba) → first_failing capacity list at n ≡ Some address → some_fails capacity list at n ≡ true
some_told capacity list at n address e = some_fails_is capacity list at n ∙ ap is_some e

pub none_told : (capacity : ℕ) (list : List ℕ) (at n : ℕ) → first_failing capacity list at n ≡ None → some_fails capacity list at n ≡ false
none_told capacity list at n e = some_fails_is capacity list at n ∙ ap is_some e

-- what is told is the address of one that fails, and none before it does
abbrev pub IsFirst : ℕ → List ℕ → ℕ → ℕ → Lba → Type 0
IsFirst capacity list at n address =
    (k : ℕ) × ((k < n) × ((some_fails capacity list at k ≡ false) × ((fails capacity (descriptor_at list (at + 16 * k)) ≡ true) × ((descriptor_at list (at + 16 * k)).address ≡ address))))

abbrev told_by : Lba → Option Lba → Lba
told_by none (Some address) = address
told_by none None = none

here : (at : ℕ) → at ≡ at + 16 * 0
here at = omega arith

later : (at k : ℕ) → (at + 16) + 16 * k ≡ at + 16 * suc k
later at k = omega arith

one_more : (k n : ℕ) → k < n → suc k < suc n
one_more k n h = omega (arith, h)

pub first_is : (capacity : ℕ) (list : List ℕ) (at n : ℕ) (address : Lba) → first_failing capacity list at n ≡ Some address → IsFirst capacity list at n address
unfolding some_fails
first_is capacity list at zero address e = absurd (true≢false (sym (ap is_some (sym (first_end capacity list at) ∙ e))))
first_is capacity list at (suc n) address e = test (fails capacity (descriptor_at list at)) found (passed (first_is capacity list (at + 16) n address))
  where
    found : T (fails capacity (descriptor_at list at)) → IsFirst capacity list at (suc n) address
    found t =
        let fails-here = T_true (fails capacity (descriptor_at list at)) t in
        let told = ap (told_by address) (sym (first_here capacity list at n fails-here) ∙ e) in
        (0, (omega arith, (refl, (subst (λ (p : ℕ). fails capacity (descriptor_at list p) ≡ true) (here at) fails-here, subst (λ (p : ℕ). (descriptor_at list p).address ≡ address) (here at) told))))

    passed : (first_failing capacity list (at + 16) n ≡ Some address → IsFirst capacity list (at + 16) n address) → T (not (fails capacity (descriptor_at list at))) → IsFirst capacity list at (suc n) address
    passed rest t =
        let passes-here = T_false (fails capacity (descriptor_at list at)) t in
        let next = rest (sym (first_later capacity list at n passes-here) ∙ e) in (
          suc next.0,
          (
            one_more next.0 n next.1.0,
            (
              ap (λ (b : Bool). b || some_fails capacity list (at + 16) next.0) passes-here ∙ next.1.1.0,
              (
                subst (λ (p : ℕ). fails capacity (descriptor_at list p) ≡ true) (later at next.0) next.1.1.1.0,
                subst (λ (p : ℕ). (descriptor_at list p).address ≡ address) (later at next.0) next.1.1.1.1,
              ),
            ),
          ),
        )

-- unmapping keeps the number of slots
pub length_unmap : (owners : List ℕ) (a n : ℕ) → length (unmap_owners owners a n) ≡ length owners
unfolding unmap_owners
length_unmap owners a n = length-map owners (freed a n)
