-- When the tests of the commands on the blocks after the 10 let the command pass: "3, 12", "3, 12, 8", and UNMAP's own.
-- Assumes nothing.
use mathlib.Core.Path.{◌≡◌, refl, ap, ◌∙◌}
use mathlib.Core.Logic.{◌↔◌}
use mathlib.Core.Bool.{Bool, true, false, not, ◌&&◌, true≢false}
use mathlib.Core.List.{List}
use Prim.Native.Nat.{ℕ, ◌+◌, ◌*◌, ◌≤◌, ◌<◌}
use borrow.Author.Tests.{le-ltb, lt-leb, ltb-false, le-leb, leb-true, leb-false, not-false}
use lib.Dec.{leb}
use lib.ListN.{length}
use Rattle.answers.specs.declared.Answer.TheVariants.{Good, Short}
use Rattle.answers.specs.Answers.{out_of_range, list_length, list_field, no_room}
use Rattle.answers.specs.Order.{first, refuses}
use Rattle.answers.proofs.OrderLaws.{row_pass, row_end, row_fails, rows_after}
use Rattle.pool.specs.Bounds.{block_bytes}
use Rattle.pool.specs.Pool.{free, unmapped, room_for}
use Rattle.descriptors.specs.Descriptors.{data_length_bits, most_descriptors, considered, some_fails}
use Rattle.store.specs.Same.{has_no_data, unmaps_same}
use Rattle.store.specs.Move.{past_end, read_rows, write_rows, same_rows, unmap_rows, status_told, status_rows}

pub read_passes : (capacity address count : ℕ) (data_in : List ℕ)
    → first (read_rows capacity address count data_in) ≡ Good ↔ ((address + count ≤ capacity) × (block_bytes * count ≤ length data_in))
unfolding read_rows past_end refuses
read_passes capacity address count data_in = (
  λ e. (ltb-false _ _ (row_fails (out_of_range _) _ _ tt e), ltb-false _ _ (row_fails Short _ _ tt (rows_after (out_of_range _) _ _ tt e))),
  λ h. row_pass (out_of_range _) _ _ (le-ltb _ _ h.0) ∙ row_pass Short _ _ (le-ltb _ _ h.1) ∙ row_end,
)

pub write_passes : (capacity : ℕ) (owners : List ℕ) (address count : ℕ) (data_out : List ℕ)
    → first (write_rows capacity owners address count data_out) ≡ Good
    ↔ ((address + count ≤ capacity) × (block_bytes * count ≤ length data_out) × (unmapped owners address count ≤ free owners))
unfolding write_rows past_end room_for refuses
write_passes capacity owners address count data_out = (
  λ e. (
    ltb-false _ _ (row_fails (out_of_range _) _ _ tt e),
    ltb-false _ _ (row_fails Short _ _ tt (rows_after (out_of_range _) _ _ tt e)),
    leb-true _ _ (not-false _ (row_fails (no_room _) _ _ tt (rows_after Short _ _ tt (rows_after (out_of_range _) _ _ tt e)))),
  ),
  λ h. row_pass (out_of_range _) _ _ (le-ltb _ _ h.0) ∙ row_pass Short _ _ (le-ltb _ _ h.1) ∙ row_pass (no_room _) _ _ (ap not (le-leb _ _ h.2)) ∙ row_end,
)

-- a row that is asked only where a test fails
unless : (a b : Bool) → (not a && b) ≡ false → a ≡ false → b ≡ false
unless true b e h = absurd (true≢false h)
unless false b e h = e

unless_back : (a b : Bool) → (a ≡ false → b ≡ false) → (not a && b) ≡ false
unless_back true b h = refl
unless_back false b h = h refl

pub same_passes : (capacity : ℕ) (owners : List ℕ) (address count options : ℕ) (data_out : List ℕ)
    → first (same_rows capacity owners address count options data_out) ≡ Good
    ↔ ((address + count ≤ capacity) × (has_no_data options ≡ false → block_bytes ≤ length data_out)
    × (unmaps_same options data_out ≡ false → unmapped owners address count ≤ free owners))
unfolding same_rows past_end room_for refuses
same_passes capacity owners address count options data_out = (
  λ e. let d = rows_after (out_of_range _) _ _ tt e in (
    ltb-false _ _ (row_fails (out_of_range _) _ _ tt e),
    λ h. ltb-false _ _ (unless (has_no_data options) _ (row_fails Short _ _ tt d) h),
    λ h. leb-true _ _ (not-false _ (unless (unmaps_same options data_out) _ (row_fails (no_room _) _ _ tt (rows_after Short _ _ tt d)) h)),
  ),
  λ h. row_pass (out_of_range _) _ _ (le-ltb _ _ h.0) ∙ row_pass Short _ _ (unless_back (has_no_data options) _ (λ t. le-ltb _ _ (h.1 t)))
      ∙ row_pass (no_room _) _ _ (unless_back (unmaps_same options data_out) _ (λ t. ap not (le-leb _ _ (h.2 t)))) ∙ row_end,
)

pub unmap_passes : (capacity n : ℕ) (data_out : List ℕ)
    → first (unmap_rows capacity n data_out) ≡ Good
    ↔ (((leb 1 n && leb n 7) ≡ false) × (n ≤ length data_out) × (considered n data_out ≤ most_descriptors)
    × (some_fails capacity data_out 8 (considered n data_out) ≡ false))
unfolding unmap_rows refuses
unmap_passes capacity n data_out = (
  λ e. let d = rows_after list_length _ _ tt e in
      let d' = rows_after Short _ _ tt d in (
        row_fails list_length _ _ tt e,
        ltb-false _ _ (row_fails Short _ _ tt d),
        ltb-false _ _ (row_fails (list_field data_length_bits) _ _ tt d'),
        row_fails (out_of_range _) _ _ tt (rows_after (list_field data_length_bits) _ _ tt d'),
      ),
  λ h. row_pass list_length _ _ h.0 ∙ row_pass Short _ _ (le-ltb _ _ h.1) ∙ row_pass (list_field data_length_bits) _ _ (le-ltb _ _ h.2)
      ∙ row_pass (out_of_range _) _ _ h.3 ∙ row_end,
)

pub status_passes : (capacity : ℕ) (owners : List ℕ) (address n : ℕ) (data_in : List ℕ)
    → first (status_rows capacity owners address n data_in) ≡ Good
    ↔ ((address < capacity) × (length (status_told capacity owners address n) ≤ length data_in))
unfolding status_rows refuses
status_passes capacity owners address n data_in = (
  λ e. (leb-false _ _ (row_fails (out_of_range _) _ _ tt e), ltb-false _ _ (row_fails Short _ _ tt (rows_after (out_of_range _) _ _ tt e))),
  λ h. row_pass (out_of_range _) _ _ (lt-leb _ _ h.0) ∙ row_pass Short _ _ (le-ltb _ _ h.1) ∙ row_end,
)
