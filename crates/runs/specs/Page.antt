-- The page that tells the runs of the map: GET LBA STATUS's parameter data.
-- Assumes nothing.
use Rattle.std.specs.Prelude.{cond, List, [], ◌∷◌, ◌++◌, ℕ, ◌+◌, ◌*◌, length}
use Rattle.fields.specs.Bytes.{zeros}
use Rattle.fields.specs.Field.{bytes}
use Rattle.runs.specs.Runs.{most_runs, Run, runs_from}

-- Q-1: "laid out as in SBC (0 mapped, 1 unmapped)": address in 0-7, number of blocks in 8-11, status in 12, 16 bytes in all
unfoldable pub run_bytes : Run → List ℕ
run_bytes r = bytes 8 r.start ++ (bytes 4 r.count ++ (cond r.held 0 1 ∷ zeros 3))

unfoldable pub runs_bytes : List Run → List ℕ
runs_bytes [] = []
runs_bytes (r ∷ rs) = run_bytes r ++ runs_bytes rs

-- the header's length, of what follows it, in 0-3; then the descriptors, from byte 8 on
unfoldable pub status_page : List Run → List ℕ
status_page rs = bytes 4 (4 + 16 * length rs) ++ (zeros 4 ++ runs_bytes rs)

-- Q-1: "Status … gives maximal runs from the starting address, at most 32 descriptors"
unfoldable pub status_data : ℕ → List ℕ → ℕ → List ℕ
status_data capacity owners address = status_page (runs_from capacity owners address most_runs)
