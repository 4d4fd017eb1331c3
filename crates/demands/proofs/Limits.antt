-- "Prove that every published limit is the enforced one": the laws of the limits, proved of `step`.
-- Assumes nothing.
use mathlib.Core.Path.{◌≡◌, ap, ◌∙◌}
use mathlib.Core.Logic.{◌↔◌}
use mathlib.Core.Bool.{not}
use mathlib.Core.List.{List}
use Prim.Native.Nat.{ℕ, ◌≤◌}
use lib.Dec.{T, eqb}
use Rattle.fields.specs.Field.{bit}
use Rattle.fields.proofs.Tests.{true→T}
use Rattle.forms.specs.declared.Tell.TheVariants.{Capacity16}
use Rattle.forms.specs.declared.Command.TheVariants.{Tells}
use Rattle.forms.specs.Forms.{allocation_in}
use Rattle.forms.specs.Tests.{pages}
use Rattle.store.specs.Store.{Store, Call}
use Rattle.store.specs.Step.{step}
use Rattle.store.proofs.VitalLaws.{limits_told_law, provisioning_told}
use Rattle.demands.specs.Contents.{AsksFor, IsGood}
use Rattle.demands.specs.Limits.{returned_by, Reads, descriptor_count, lbpu, lbpws, lbprz, provisioning_type, lbpme, lbprz_told, UnmapUnmaps, SameUnmaps, ZerosRead, Limits}
use Rattle.demands.proofs.PagesRead.{limits_read, provisioning_read, page_readable, pages_named, pages_unlisted, pages_served}
use Rattle.demands.proofs.FieldLimits.{transfer_limit, same_limit, same_none_limit, no_count_limit, anchors_told, no_write_same_10, no_compare_and_write}
use Rattle.demands.proofs.BlockLimits.{descriptors_refused, counts_good, unmap_unmaps, same_unmaps, zeros_read, capacity_told_law}

-- ---- page B0h

descriptors_told : (bs : List ℕ) → Reads step 0xB0 bs → descriptor_count bs ≡ 16
unfolding descriptor_count
descriptors_told bs r = ap descriptor_count (limits_read bs r) ∙ limits_told_law.descriptors

-- ---- page B2h

module _ (bs : List ℕ) (r : Reads step 0xB2 bs) where
  unmap_told : T (lbpu bs) ↔ UnmapUnmaps step
  unfolding lbpu
  unmap_told = (λ _. unmap_unmaps, λ _. true→T _ (ap lbpu (provisioning_read bs r) ∙ provisioning_told.by_unmap))

  same_told : T (lbpws bs) ↔ SameUnmaps step
  unfolding lbpws
  same_told = (λ _. same_unmaps, λ _. true→T _ (ap lbpws (provisioning_read bs r) ∙ provisioning_told.by_same))

  zeros_are : lbprz bs ≡ 1
  unfolding lbprz
  zeros_are = ap lbprz (provisioning_read bs r) ∙ provisioning_told.zeros_read

  zeros_told : lbprz bs ≡ 1 ↔ ZerosRead step
  zeros_told = (λ _. zeros_read, λ _. zeros_are)

  type_is : provisioning_type bs ≡ 2
  unfolding provisioning_type
  type_is = ap provisioning_type (provisioning_read bs r) ∙ provisioning_told.thin

  -- byte 14 is C0h: both bits are set
  capacity_agrees : (s : Store) (c : Call) (a : AsksFor (Tells Capacity16) c) → IsGood s c → 15 ≤ allocation_in a.request
      → (lbpme (returned_by step s c) ≡ not (eqb (provisioning_type bs) 0)) × (lbprz_told (returned_by step s c) ≡ eqb (lbprz bs) 1)
  unfolding lbpme lbprz_told bit
  capacity_agrees s c a g h = (rw (capacity_told_law s c a g h, type_is), rw (capacity_told_law s c a g h, zeros_are))

-- ---- all of them

pub limits : Limits step
unfolding pages
limits = record {
  readable = λ s c code t a f h k. page_readable s c code a f t k h;
  named = pages_named;
  unlisted = pages_unlisted;
  served = pages_served;
  transfers = transfer_limit;
  same = same_limit;
  same_none = same_none_limit;
  descriptors = λ bs r s c a reaches list. rw (descriptors_told bs r) (descriptors_refused s c a reaches list);
  counts = λ bs r s c a reaches list few. counts_good s c a reaches list (rw (descriptors_told bs r) at few);
  no_limit = no_count_limit;
  by_unmap = unmap_told;
  by_same = same_told;
  zeros_read = zeros_told;
  anchors = anchors_told;
  no_same_10 = no_write_same_10;
  no_compare = no_compare_and_write;
  capacity_16 = capacity_agrees;
}
