-- What the check names, said of the slots themselves: proofs/Clashes shows that it names exactly that.
-- Assumes nothing.
use Rattle.std.specs.Prelude.{◌≡◌, List, ◌≢◌, ℕ, ◌≤◌, ◌<◌, length, get_or}

-- slot i is the lowest that is not as "owners are at most the capacity" has it
pub record FirstBeyond (capacity : ℕ) (owners : List ℕ) (i : ℕ) : Type 0 where
  pub there : i < length owners
  pub above : capacity < get_or owners i 0
  pub lowest : (k : ℕ) → k < i → get_or owners k 0 ≤ capacity

-- slot i and the higher slot j are "slots that name the same block"
pub record Clashing (owners : List ℕ) (i j : ℕ) : Type 0 where
  pub rising : i < j
  pub there : j < length owners
  pub same : get_or owners i 0 ≡ get_or owners j 0
  pub used : get_or owners i 0 ≢ 0

-- they are "the first pair", "pairs taken by lower slot, then higher"
pub record FirstClash (owners : List ℕ) (i j : ℕ) : Type 0 where
  pub clash : Clashing owners i j
  pub lower : (k m : ℕ) → Clashing owners k m → i ≤ k
  pub higher : (m : ℕ) → Clashing owners i m → j ≤ m
