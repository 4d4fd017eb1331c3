-- Runs: blocks that follow one another and are all mapped or all unmapped.
-- Assumes nothing.
use Rattle.std.specs.Prelude.{Bool, true, false, not, cond, List, [], ◌∷◌, ℕ, zero, suc, ◌+◌, ◌-◌, min, leb}
use Rattle.pool.specs.Pool.{mapped}

-- Q-1: "at most 32 descriptors, each run capped at FFFF_FFFFh blocks"
abbrev pub most_runs : ℕ
most_runs = 32

abbrev pub most_run : ℕ
most_run = 0xFFFF_FFFF

-- is block a mapped, where `held` is asked for, or else unmapped
unfoldable pub is_held : Bool → List ℕ → ℕ → Bool
is_held true owners a = mapped owners a
is_held false owners a = not (mapped owners a)

-- how many blocks from a on, of n that are looked at, are so one after another
unfoldable pub held_from : Bool → List ℕ → ℕ → ℕ → ℕ
held_from held owners a zero = 0
held_from held owners a (suc n) = cond (is_held held owners a) (suc (held_from held owners (suc a) n)) 0

-- the blocks from `start` on are all mapped, or all unmapped
pub record Run : Type 0 where
  pub start : ℕ
  pub count : ℕ
  pub held : Bool

abbrev pub run : ℕ → ℕ → Bool → Run
run start count held = record { start = start; count = count; held = held }

-- how many blocks from a on a run may have: to the capacity, and no more than the cap
unfoldable pub room_from : ℕ → ℕ → ℕ
room_from capacity a = min (capacity - a) most_run

-- Q-1: "maximal runs": the longest from a on
unfoldable pub run_at : ℕ → List ℕ → ℕ → Run
run_at capacity owners a = run a (held_from (mapped owners a) owners a (room_from capacity a)) (mapped owners a)

-- Q-1: "maximal runs from the starting address", one behind the other up to the capacity, at most n
unfoldable pub runs_from : ℕ → List ℕ → ℕ → ℕ → List Run
runs_from capacity owners a zero = []
runs_from capacity owners a (suc n) =
    cond (leb capacity a) [] (run_at capacity owners a ∷ runs_from capacity owners (a + (run_at capacity owners a).count) n)
