-- UNMAP's list, of which m descriptors are considered.
-- Assumes nothing.
use mathlib.Core.Path.{◌≡◌, sym, ap, ◌∙◌}
use mathlib.Core.List.{List}
use Prim.Native.Nat.{ℕ}
use Rattle.std.specs.Prelude.{Option, Some}
use Rattle.answers.specs.Answers.{out_of_range}
use Rattle.pool.specs.declared.Lba.{Lba}
use Rattle.descriptors.specs.Descriptors.{considered, first_failing, address_of}

module _ (capacity n : ℕ) (out : List ℕ) (m : ℕ) (em : m ≡ considered n out) where
  -- the row of a list in which one fails tells the address of the first that does
  pub first_told_law : (address : Lba) → first_failing capacity out 8 m ≡ Some address
      → out_of_range (address_of (first_failing capacity out 8 (considered n out))) ≡ out_of_range address.0
  unfolding address_of
  first_told_law address f = ap (λ (x : Option Lba). out_of_range (address_of x)) (ap (first_failing capacity out 8) (sym em) ∙ f)
