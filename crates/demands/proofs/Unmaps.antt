-- UNMAP, of whole calls: each block that a considered descriptor names reads as zeros after it, all others as before. The descriptors act one after
-- another, and neither their order nor their overlapping shows in what is read. Assumes nothing.
use mathlib.Core.Path.{◌≡◌, refl, sym, ap, ◌∙◌}
use mathlib.Core.Bool.{Bool, true, false, not, ◌||◌, cond}
use mathlib.Core.List.{List, [], ◌∷◌, ◌++◌}
use Prim.Native.Nat.{ℕ, zero, suc, ◌+◌, ◌*◌, ◌≤◌, ◌<◌}
use native.Mathlib.Omega.{arith}
use lib.Dec.{T, leb, ltb, leb→le, ltb→lt, le→leb, lt→ltb}
use Rattle.fields.specs.Bytes.{zeros}
use Rattle.fields.proofs.Tests.{and_l, and_r, both, or_l, or_r, by_test, T_true, T_false}
use Rattle.answers.specs.declared.Answer.TheVariants.{Good}
use Rattle.pool.specs.Marks.{marks_of}
use Rattle.pool.specs.Pool.{Pool, pool, with_owners, read_block, unmap_owners, unmap_blocks}
use Rattle.pool.proofs.Writing.{in_or_out}
use Rattle.pool.proofs.Reading.{unmap_in, unmap_out, reads_same, reads_zeros}
use Rattle.descriptors.specs.declared.Descriptor.{Descriptor}
use Rattle.descriptors.specs.Descriptors.{descriptor_at, considered, unmap_all}
use Rattle.forms.specs.declared.Move.TheVariants.{Read, Unmap}
use Rattle.forms.specs.declared.Request.{Request}
use Rattle.forms.specs.Forms.{count_in, list_length_in}
use Rattle.store.specs.Store.{Store, Call, seen_of}
use Rattle.store.specs.Move.{moved}
use Rattle.store.specs.Step.{step}
use Rattle.demands.specs.History.{after}
use Rattle.demands.specs.Contents.{in_range, Asks, address_in, IsGood, Outside, descriptors_from, descriptors_of, unmap_each, covers, names}
use Rattle.demands.proofs.Usable.{usable_marks, usable_stays, format_after}
use Rattle.demands.proofs.Moving.{good_usable, good_pool, after_ways, moves_unit}
use Rattle.demands.proofs.Transfers.{read_seen, read_sees}
use Rattle.answers.specs.Answers.{number_of}
use mathlib.Core.Logic.{◌≢◌}

-- ---- one after another

each_of : (p : Pool) (owners list : List ℕ) (at n : ℕ) → with_owners p (unmap_all owners list at n) ≡ unmap_each (with_owners p owners) (descriptors_from list at n)
unfolding unmap_all descriptors_from unmap_each unmap_blocks
each_of p owners list at zero = refl
each_of p owners list at (suc n) =
    each_of p (unmap_owners owners (descriptor_at list at).address.0 (descriptor_at list at).count) list (at + 16) n

-- the pool after an UNMAP is what its descriptors leave, each acting on what those before it left, where the marks are those of the owners
pub each_moved : (q : Request) (p : Pool) (c : Call) → p.marks ≡ marks_of p.owners → moved Unmap q p c ≡ unmap_each p (descriptors_of q c.data_out)
unfolding moved descriptors_of
each_moved q p c e =
    each_of p p.owners c.data_out 8 (considered (list_length_in q) c.data_out)
    ∙ ap (λ (m : List ℕ). unmap_each (pool p.owners m p.medium) (descriptors_of q c.data_out)) (sym e)

pub unmap_pool : (s : Store) (c : Call) (a : Asks Unmap c) → IsGood s c
    → (after step s c).pool ≡ unmap_each s.pool (descriptors_of a.request c.data_out)
unmap_pool s c a e = good_pool Unmap s c a e ∙ each_moved a.request s.pool c (usable_marks s (good_usable s c e))

-- ---- what is read

pub in_range_law : (a n b : ℕ) → T (in_range a n b) → Outside a n b → ⊥
unfolding in_range
in_range_law a n b t out =
    let h = out (leb→le a b (and_l (leb a b) (ltb b (a + n)) t)) in
    let k = ltb→lt b (a + n) (and_r (leb a b) (ltb b (a + n)) t) in absurd (omega arith)

pub range_in : (a n b : ℕ) → a ≤ b → b < a + n → T (in_range a n b)
unfolding in_range
range_in a n b h k = both (leb a b) (ltb b (a + n)) (le→leb a b h) (lt→ltb b (a + n) k)

-- after one descriptor
one_read : (p : Pool) (d : Descriptor) (b : ℕ)
    → read_block (unmap_blocks p d.address.0 d.count) b ≡ cond (covers d b) (zeros 512) (read_block p b)
unfolding covers
one_read p d b =
    let a = d.address.0 in
    let n = d.count in
    in_or_out a n b
    (λ i h e. ap (read_block (unmap_blocks p a n)) e ∙ unmap_in p a n i h
    ∙ sym (ap (λ (q : Bool). cond q (zeros 512) (read_block p b)) (T_true (covers d b) (range_in a n b (omega arith) (omega arith)))))
    (λ out. by_test (covers d b) (λ q. read_block (unmap_blocks p a n) b ≡ cond q (zeros 512) (read_block p b))
    (λ t. absurd (in_range_law a n b t out)) (λ t. unmap_out p a n b out))

-- zeros where a descriptor names the block, and what was there where none does
pub each_read : (ds : List Descriptor) (p : Pool) (b : ℕ) → read_block (unmap_each p ds) b ≡ cond (names ds b) (zeros 512) (read_block p b)
unfolding unmap_each names
each_read [] p b = refl
each_read (d ∷ ds) p b =
    each_read ds (unmap_blocks p d.address.0 d.count) b
    ∙ ap (cond (names ds b) (zeros 512)) (one_read p d b)
    ∙ join (covers d b) (names ds b) (zeros 512) (read_block p b)
  where
    join : (x y : Bool) (z l : List ℕ) → cond y z (cond x z l) ≡ cond (x || y) z l
    join true true z l = refl
    join true false z l = refl
    join false y z l = refl

-- descriptors that name the same blocks leave the same to read, in whatever order, however often, and however they overlap
pub order_hidden : (ds es : List Descriptor) (p : Pool) (b : ℕ) → names ds b ≡ names es b → read_block (unmap_each p ds) b ≡ read_block (unmap_each p es) b
order_hidden ds es p b e = each_read ds p b ∙ ap (λ (q : Bool). cond q (zeros 512) (read_block p b)) e ∙ sym (each_read es p b)

names_append : (ds es : List Descriptor) (b : ℕ) → names (ds ++ es) b ≡ (names ds b || names es b)
unfolding names
names_append [] es b = refl
names_append (d ∷ ds) es b =
    ap (λ (q : Bool). covers d b || q) (names_append ds es b)
    ∙ regroup (covers d b) (names ds b) (names es b)
  where
    regroup : (x y z : Bool) → (x || (y || z)) ≡ ((x || y) || z)
    regroup true y z = refl
    regroup false y z = refl

pub swapped : (ds es : List Descriptor) (p : Pool) (b : ℕ) → read_block (unmap_each p (ds ++ es)) b ≡ read_block (unmap_each p (es ++ ds)) b
swapped ds es p b = order_hidden (ds ++ es) (es ++ ds) p b (names_append ds es b ∙ turn (names ds b) (names es b) ∙ sym (names_append es ds b))
  where
    turn : (x y : Bool) → (x || y) ≡ (y || x)
    turn true true = refl
    turn true false = refl
    turn false true = refl
    turn false false = refl

pub twice : (ds : List Descriptor) (p : Pool) (b : ℕ) → read_block (unmap_each p (ds ++ ds)) b ≡ read_block (unmap_each p ds) b
twice ds p b = order_hidden (ds ++ ds) ds p b (names_append ds ds b ∙ same (names ds b))
  where
    same : (x : Bool) → (x || x) ≡ x
    same true = refl
    same false = refl

-- descriptor k of the n from byte `at` on names each of its blocks
names_first : (d : Descriptor) (ds : List Descriptor) (i : ℕ) → i < d.count → T (names (d ∷ ds) (d.address.0 + i))
unfolding names covers
names_first d ds i h =
    or_l (covers d (d.address.0 + i)) (names ds (d.address.0 + i)) (range_in d.address.0 d.count (d.address.0 + i) (omega arith) (omega arith))

names_rest : (d : Descriptor) (ds : List Descriptor) (b : ℕ) → T (names ds b) → T (names (d ∷ ds) b)
unfolding names
names_rest d ds b t = or_r (covers d b) (names ds b) t

descriptor_names : (list : List ℕ) (at n k i : ℕ) → k < n → i < (descriptor_at list (at + 16 * k)).count
    → T (names (descriptors_from list at n) ((descriptor_at list (at + 16 * k)).address.0 + i))
unfolding descriptors_from
descriptor_names list at zero k i h l = absurd (omega arith)
descriptor_names list at (suc n) zero i h l =
    let here : at + 16 * 0 ≡ at = omega arith in
    rw here (names_first (descriptor_at list at) (descriptors_from list (at + 16) n) i (rw here at l))
descriptor_names list at (suc n) (suc k) i h l =
    let later : at + 16 * suc k ≡ at + 16 + 16 * k = omega arith in
    rw later (names_rest (descriptor_at list at) (descriptors_from list (at + 16) n) _ (descriptor_names list (at + 16) n k i (omega arith) (rw later at l)))

-- "descriptors from byte 8, 16 bytes each": every block of every considered one is named
pub considered_named : (q : Request) (list : List ℕ) (k i : ℕ) → k < considered (list_length_in q) list → i < (descriptor_at list (8 + 16 * k)).count
    → T (names (descriptors_of q list) ((descriptor_at list (8 + 16 * k)).address.0 + i))
unfolding descriptors_of
considered_named q list k i h l = descriptor_names list 8 (considered (list_length_in q) list) k i h l

-- ---- a call

-- does a considered descriptor of this UNMAP name the block
abbrev pub named : (c : Call) → Asks Unmap c → ℕ → Bool
named c a = names (descriptors_of a.request c.data_out)

module _ (s : Store) (c : Call) (a : Asks Unmap c) where
  -- every block after a GOOD UNMAP
  pub unmap_contents : IsGood s c → (b : ℕ) → read_block (after step s c).pool b ≡ cond (named c a b) (zeros 512) (read_block s.pool b)
  unmap_contents e b =
      ap (λ (p : Pool). read_block p b) (unmap_pool s c a e) ∙ each_read (descriptors_of a.request c.data_out) s.pool b

  pub unmap_zeros : IsGood s c → (b : ℕ) → T (named c a b) → read_block (after step s c).pool b ≡ zeros 512
  unmap_zeros e b t = unmap_contents e b ∙ ap (λ (q : Bool). cond q (zeros 512) (read_block s.pool b)) (T_true (named c a b) t)

  pub unmap_keeps : (b : ℕ) → T (not (named c a b)) → read_block (after step s c).pool b ≡ read_block s.pool b
  unmap_keeps b t =
      after_ways s c (λ x. read_block x.pool b ≡ read_block s.pool b)
      (λ e. unmap_contents e b ∙ ap (λ (q : Bool). cond q (zeros 512) (read_block s.pool b)) (T_false (named c a b) t)) refl (λ _. refl)

-- ---- a READ after it

module _ (s : Store) (c r : Call) (a : Asks Unmap c) (b : Asks Read r) where
  pub unmap_then_read : ((i : ℕ) → i < count_in b.request → T (named c a (address_in b.request + i))) → IsGood s c → IsGood (after step s c) r
      → (step (after step s c) r).seen ≡ seen_of (after step s c).format Good (zeros (512 * count_in b.request)) r
  unmap_then_read within g h =
      read_seen (after step s c) r b h
      ∙ ap (λ (bs : List ℕ). seen_of (after step s c).format Good bs r)
      (reads_zeros (after step s c).pool (address_in b.request) (count_in b.request) (λ i k. unmap_zeros s c a g (address_in b.request + i) (within i k)))

  -- a READ of blocks that none names sees what it would have seen before, and so it is where the UNMAP is refused
  pub unmap_keeps_others : ((i : ℕ) → i < count_in b.request → T (not (named c a (address_in b.request + i))))
      → number_of (step s c).seen.answer ≢ 13 → (step (after step s c) r).seen ≡ (step s r).seen
  unmap_keeps_others out n =
      after_ways s c (λ t. (step t r).seen ≡ (step s r).seen)
      (λ e. let u = good_usable s c e in read_sees (after step s c) s r b (format_after s c) (moves_unit Unmap s c a n) (usable_stays s c u) u
      (reads_same (after step s c).pool s.pool (address_in b.request) (count_in b.request) (λ i h. unmap_keeps s c a (address_in b.request + i) (out i h)))) refl (λ e. absurd (n e))
