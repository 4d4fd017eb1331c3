-- The promise of `run` admits no second outcome: it determines every byte of the page.
-- Assumes nothing.
use mathlib.Core.Path.{◌≡◌, sym, ◌∙◌}
use mathlib.Core.List.{List}
use Prim.Native.Nat.{ℕ, ◌≤◌}
use lib.ListN.{length}
use Rattle.sheet.specs.Printed.{printed}
use Rattle.sheet.specs.Leaves.{out_bytes}

-- what `run` promises of a sheet and of the page that it returns
abbrev Ran : List ℕ → List ℕ → Type 0
Ran sheet page = (page ≡ printed sheet) × (length page ≤ out_bytes)

pub run_only : (sheet p q : List ℕ) → Ran sheet p → Ran sheet q → p ≡ q
run_only sheet p q e h = e.0 ∙ sym h.0
