-- What the limits pages say of the commands on the blocks, proved of `step`: when an UNMAP is refused for its descriptors, that UNMAP and
-- WRITE SAME unmap what they name, that unmapped blocks are read as zeros, and byte 14 of READ CAPACITY(16).
-- Assumes nothing.
use mathlib.Core.Path.{◌≡◌, refl, sym, ap, ◌∙◌, subst}
use mathlib.Core.Logic.{◌↔◌}
use mathlib.Core.Bool.{Bool, true, false, not, ◌&&◌, ◌||◌, and-false, and-true}
use mathlib.Core.List.{List, [], ◌∷◌}
use Prim.Native.Nat.{ℕ, zero, suc, ◌+◌, ◌*◌, ◌≤◌, ◌<◌}
use native.Mathlib.Omega.{arith}
use borrow.Author.Tests.{lt-ltb, le-ltb, lt-leb, ltb-true}
use lib.Dec.{T, leb, ltb}
use lib.ListN.{length, drop}
use lib.Seq.{get_or-take}
use Rattle.fields.specs.Bytes.{part, zeros}
use Rattle.fields.specs.Field.{field, byte, bytes}
use Rattle.fields.specs.Bits.{Bits}
use Rattle.fields.proofs.BytesLaws.{put_front}
use Rattle.fields.proofs.Tests.{T_true}
use Rattle.answers.specs.declared.Answer.TheVariants.{Short}
use Rattle.answers.specs.Answers.{out_of_range, list_length, list_field, codes_of, number_of}
use Rattle.answers.specs.Order.{◌if◌, first, first_of, if_good_by, refuses}
use Rattle.answers.proofs.OrderLaws.{row_pass, row_stop}
use Rattle.pool.specs.Pool.{Pool, mapped, unmap_blocks}
use Rattle.pool.proofs.Reading.{read_unmapped, block_read}
use Rattle.descriptors.specs.declared.Descriptor.{Descriptor}
use Rattle.descriptors.specs.Descriptors.{data_length_bits, descriptor_at, fails, some_fails, first_failing, address_of}
use Rattle.descriptors.proofs.Takes.{passes_within, none_here, none_later}
use Rattle.forms.specs.declared.Tell.TheVariants.{Capacity16}
use Rattle.forms.specs.declared.Move.TheVariants.{Unmap}
use Rattle.forms.specs.declared.Command.TheVariants.{Tells}
use Rattle.forms.specs.Forms.{count_in, allocation_in, list_length_in}
use Rattle.store.specs.Store.{Store, Call, Seen, seen_of}
use Rattle.store.specs.Tell.{capacity16_data, told}
use Rattle.store.specs.Move.{unmap_rows, move_rows}
use Rattle.store.specs.Step.{step}
use Rattle.demands.specs.Contents.{AsksFor, Asks, address_in, blocks_in, Reaches, unmap_each, covers, names, descriptors_of}
use Rattle.demands.specs.Reservations.{GoodBy}
use Rattle.demands.specs.WriteSame.{covers as coversRange}
use Rattle.demands.specs.Limits.{returned_by, ListThere, descriptors_in, UnmapUnmaps, SameUnmaps, ZerosRead}
use Rattle.demands.proofs.Moving.{good_usable}
use Rattle.demands.proofs.Transfers.{usable_whole, length_read, read_long, read_seen}
use Rattle.demands.proofs.WhenGood.{rows_answer, unmap_good}
use Rattle.demands.proofs.Unmaps.{unmap_pool}
use Rattle.demands.proofs.Telling.{returned_told}
use Rattle.demands.proofs.WriteSame.{range_unmapped, writes_same_law}

-- ---- how many descriptors

-- of the two rows the first alone answers 5
first_given : (b : Bits) (address : ℕ) (x y : Bool) → number_of (first (list_field b if x ∷ out_of_range address if y ∷ [])) ≡ 5 → x ≡ true
unfolding first_of number_of codes_of
first_given b address true y e = refl
first_given b address false true e = absurd (omega arith)
first_given b address false false e = absurd (omega arith)

module _ (s : Store) (c : Call) (a : Asks Unmap c) (r : Reaches s a) (l : ListThere a) where
  header_there : (leb 1 (list_length_in a.request) && leb (list_length_in a.request) 7) ≡ false
  header_there =
      ap (λ (q : Bool). leb 1 (list_length_in a.request) && q) (lt-leb (list_length_in a.request) 7 l.header)
      ∙ and-false (leb 1 (list_length_in a.request))

  -- a list that is there is tested for its descriptors alone
  descriptors_tested : (step s c).seen.answer
      ≡ first (list_field data_length_bits if ltb 16 (descriptors_in a)
      ∷ out_of_range (address_of (first_failing s.unit.capacity c.data_out 8 (descriptors_in a))) if some_fails s.unit.capacity c.data_out 8 (descriptors_in a)
      ∷ [])
  unfolding move_rows unmap_rows descriptors_in
  descriptors_tested = rows_answer Unmap s c a r ∙ row_pass list_length _ _ header_there ∙ row_pass Short _ _ (le-ltb _ _ l.there)

  pub descriptors_refused : number_of (step s c).seen.answer ≡ 5 ↔ 16 < descriptors_in a
  unfolding number_of codes_of
  descriptors_refused = (
    λ e. ltb-true 16 (descriptors_in a) (first_given data_length_bits _ _ _ (sym (ap number_of descriptors_tested) ∙ e)),
    λ h. ap number_of (descriptors_tested ∙ row_stop (list_field data_length_bits) _ _ (lt-ltb 16 (descriptors_in a) h)),
  )

-- ---- how many blocks in each

-- the descriptor from byte `at` on ends within the capacity
abbrev Ends : ℕ → List ℕ → ℕ → Type 0
Ends capacity list at = field at 8 list + field (at + 8) 4 list ≤ capacity

-- none of the n descriptors from byte `at` on fails exactly where each ends within the capacity
each_ends : (capacity : ℕ) (list : List ℕ) (at n : ℕ) → some_fails capacity list at n ≡ false → (k : ℕ) → k < n → Ends capacity list (at + 16 * k)
unfolding descriptor_at
each_ends capacity list at zero e k h = absurd (omega arith)
each_ends capacity list at (suc n) e zero h =
    subst (Ends capacity list) (omega arith) (passes_within capacity (descriptor_at list at) (none_here capacity list at n e))
each_ends capacity list at (suc n) e (suc k) h =
    subst (Ends capacity list) (omega arith) (each_ends capacity list (at + 16) n (none_later capacity list at n e) k (omega arith))

none_fails : (capacity : ℕ) (list : List ℕ) (at n : ℕ) → ((k : ℕ) → k < n → Ends capacity list (at + 16 * k)) → some_fails capacity list at n ≡ false
unfolding some_fails fails descriptor_at
none_fails capacity list at zero ends = refl
none_fails capacity list at (suc n) ends =
    ap (λ (q : Bool). q || some_fails capacity list (at + 16) n) (le-ltb _ _ (subst (Ends capacity list) (omega arith) (ends 0 (omega arith))))
    ∙ none_fails capacity list (at + 16) n (λ k h. subst (Ends capacity list) (omega arith) (ends (suc k) (omega arith)))

pub counts_good : (s : Store) (c : Call) (a : Asks Unmap c) → Reaches s a → ListThere a → descriptors_in a ≤ 16
    → GoodBy step s c ↔ ((k : ℕ) → k < descriptors_in a → field (8 + 16 * k) 8 c.data_out + field (16 + 16 * k) 4 c.data_out ≤ s.unit.capacity)
unfolding descriptors_in
counts_good s c a r l few =
    let good = unmap_good s c a r in (
      λ e k h. rw (← count_at k) (each_ends s.unit.capacity c.data_out 8 (descriptors_in a) (good.0 e).3 k h),
      λ ends. good.1 (
        header_there s c a r l,
        l.there,
        few,
        none_fails s.unit.capacity c.data_out 8 (descriptors_in a) (λ k h. rw (count_at k) (ends k h)),
      ),
    )
  where
    count_at : (k : ℕ) → 8 + 16 * k + 8 ≡ 16 + 16 * k
    count_at k = omega arith

-- ---- what is unmapped

-- after an UNMAP the blocks that its descriptors name are unmapped, and no others
each_mapped : (ds : List Descriptor) (p : Pool) (b : ℕ) → mapped (unmap_each p ds).owners b ≡ (mapped p.owners b && not (names ds b))
unfolding unmap_each names covers unmap_blocks
each_mapped [] p b = sym (and-true (mapped p.owners b))
each_mapped (d ∷ ds) p b =
    each_mapped ds (unmap_blocks p d.address.0 d.count) b
    ∙ ap (λ (q : Bool). q && not (names ds b)) (range_unmapped p.owners d.address.0 d.count b)
    ∙ join (mapped p.owners b) (covers d b) (names ds b)
  where
    join : (x y z : Bool) → ((x && not y) && not z) ≡ (x && not (y || z))
    join true true z = refl
    join true false z = refl
    join false y z = refl

-- a block that is one of them is not mapped
named_unmapped : (x y z : Bool) → x ≡ (y && not z) → T z → x ≡ false
named_unmapped x y z e t = e ∙ ap (λ (q : Bool). y && not q) (T_true z t) ∙ and-false y

pub unmap_unmaps : UnmapUnmaps step
unmap_unmaps s c a e b t =
    named_unmapped _ (mapped s.pool.owners b) (names (descriptors_of a.request c.data_out) b)
    (ap (λ (p : Pool). mapped p.owners b) (unmap_pool s c a e) ∙ each_mapped (descriptors_of a.request c.data_out) s.pool b) t

pub same_unmaps : SameUnmaps step
same_unmaps s c a e k b t =
    named_unmapped _ (mapped s.pool.owners b) (coversRange a.request b) (writes_same_law.clears_map s c a e k b) t

-- ---- what is read

pub zeros_read : ZerosRead step
unfolding seen_of if_good_by refuses
zeros_read s c a e i h m =
    let blocks = blocks_in s.pool a.request in
    ap (λ (x : Seen). part x.data_in (512 * i) 512) (read_seen s c a e)
    ∙ ap (λ (l : List ℕ). part l (512 * i) 512) (put_front c.data_in blocks (let n = length_read s c a e in let l = read_long s c a e in omega arith))
    ∙ block_read s.pool (usable_whole s (good_usable s c e)) (address_in a.request) (count_in a.request) i (drop (length blocks) c.data_in) h
    ∙ read_unmapped s.pool (address_in a.request + i) m

-- ---- what READ CAPACITY(16) says of it

pub capacity_told_law : (s : Store) (c : Call) (a : AsksFor (Tells Capacity16) c) → GoodBy step s c → 15 ≤ allocation_in a.request
    → byte 14 (returned_by step s c) ≡ 0xC0
unfolding told capacity16_data byte bytes zeros
capacity_told_law s c a e h =
    ap (byte 14) (returned_told Capacity16 s c a e)
    ∙ get_or-take (allocation_in a.request) (capacity16_data s.unit.capacity) 14 0 h
