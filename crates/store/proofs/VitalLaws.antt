-- Laws of the pages of vital product data, by computation: the numbers published are the bounds that the tests enforce, page 00h lists the pages
-- there are, and each page says its code and its length.
-- Assumes nothing.
use mathlib.Core.Path.{◌≡◌, refl, sym, subst}
use mathlib.Core.Bool.{Bool, true, false, ◌||◌, cond}
use mathlib.Core.List.{List}
use Prim.Native.Nat.{ℕ, ◌+◌, ◌/◌, ◌%◌, ◌≤◌}
use native.Mathlib.Omega.{arith}
use lib.Dec.{T, eqb}
use lib.ListN.{length, take, drop}
use Rattle.fields.specs.Bytes.{zeros}
use Rattle.fields.specs.Field.{byte, bit, field, bytes}
use Rattle.fields.proofs.Tests.{by_equal}
use Rattle.pool.specs.Bounds.{most_transfer}
use Rattle.descriptors.specs.Descriptors.{most_descriptors}
use Rattle.rights.specs.Rights.{is_one_of}
use Rattle.forms.specs.Tests.{pages}
use Rattle.store.specs.Vital.{vital_page, pages_page, limits_page, provisioning_page, vital_data}

-- ---- every page

-- what holds of each page holds of the page of every code that is listed
pub by_page : (P : ℕ → List ℕ → Type 0) → P 0x00 pages_page → P 0xB0 limits_page → P 0xB2 provisioning_page
    → (code : ℕ) → T (is_one_of code pages) → P code (vital_data code)
unfolding vital_data pages is_one_of
by_page P x y z code = at 0x00 pages_page _ _ x (at 0xB0 limits_page _ _ y (at 0xB2 provisioning_page _ _ z absurd))
  where
    at : (n : ℕ) (page other : List ℕ) (others : Bool) → P n page → (T others → P code other) → T (eqb code n || others)
        → P code (cond (eqb code n) page other)
    at n page other others p q =
        by_equal code n (λ b. T (b || others) → P code (cond b page other)) (λ e _. subst (λ (k : ℕ). P k page) (sym e) p) (λ _. q)

-- it says its code
pub page_named : (code : ℕ) → T (is_one_of code pages) → byte 1 (vital_data code) ≡ code
unfolding pages_page limits_page provisioning_page vital_page byte
page_named = by_page (λ code bs. byte 1 bs ≡ code) refl refl refl

-- and its length, at most 64
pub page_whole : (code : ℕ) → T (is_one_of code pages) → 4 + field 2 2 (vital_data code) ≡ length (vital_data code)
unfolding pages_page limits_page provisioning_page vital_page pages byte bytes field zeros
page_whole = by_page (λ code bs. 4 + field 2 2 bs ≡ length bs) refl refl refl

pub page_fits : (code : ℕ) → T (is_one_of code pages) → length (vital_data code) ≤ 64
unfolding pages_page limits_page provisioning_page vital_page pages bytes zeros
page_fits = by_page (λ code bs. length bs ≤ 64) (omega arith) (omega arith) (omega arith)

-- ---- page 00h

pub pages_told : take (field 2 2 pages_page) (drop 4 pages_page) ≡ pages
unfolding pages_page vital_page pages byte bytes field
pages_told = refl

-- ---- page B0h

pub record LimitsTold : Type 0 where
  pub long : length limits_page ≡ 64
  pub not_zero_law : bit 0 (byte 4 limits_page) ≡ true
  pub compare : byte 5 limits_page ≡ 0
  pub transfer : field 8 4 limits_page ≡ most_transfer
  pub unmap : field 20 4 limits_page ≡ 0xFFFF_FFFF
  pub descriptors : field 24 4 limits_page ≡ most_descriptors
  pub same : field 36 8 limits_page ≡ most_transfer

pub limits_told_law : LimitsTold
unfolding limits_page vital_page zeros byte bit bytes field
limits_told_law = record { long = refl; not_zero_law = refl; compare = refl; transfer = refl; unmap = refl; descriptors = refl; same = refl }

-- ---- page B2h

pub record ProvisioningTold : Type 0 where
  pub by_unmap : bit 7 (byte 5 provisioning_page) ≡ true
  pub by_same : bit 6 (byte 5 provisioning_page) ≡ true
  pub by_same_10 : bit 5 (byte 5 provisioning_page) ≡ false
  pub zeros_read : byte 5 provisioning_page / 4 % 8 ≡ 1
  pub anchors : bit 1 (byte 5 provisioning_page) ≡ false
  pub groups : bit 0 (byte 5 provisioning_page) ≡ false
  pub thin : byte 6 provisioning_page % 8 ≡ 2

pub provisioning_told : ProvisioningTold
unfolding provisioning_page vital_page byte bit bytes field
provisioning_told =
    record { by_unmap = refl; by_same = refl; by_same_10 = refl; zeros_read = refl; anchors = refl; groups = refl; thin = refl }
