-- The contents of a call sheet: "number of calls (one byte, to 32), then contents of 4 bytes per call (nexus, CDB length, data-out length in two),
-- then the bodies, CDB and data-out of each in turn". Assumes nothing.
use Rattle.std.specs.Prelude.{Bool, ◌&&◌, List, ℕ, zero, suc, ◌+◌, ◌*◌, eqb, leb, length}
use Rattle.fields.specs.Field.{byte, field}

-- "number of calls (one byte, to 32)"
abbrev pub most_calls : ℕ
most_calls = 32

-- "Sheets over 64 KiB"
abbrev pub most_bytes : ℕ
most_bytes = 65536

unfoldable pub calls : List ℕ → ℕ
calls sheet = byte 0 sheet

-- ---- the contents' entry of call i, counted from 0

unfoldable pub nexus_of : List ℕ → ℕ → ℕ
nexus_of sheet i = byte (1 + 4 * i) sheet

unfoldable pub cdb_length : List ℕ → ℕ → ℕ
cdb_length sheet i = byte (2 + 4 * i) sheet

unfoldable pub out_length : List ℕ → ℕ → ℕ
out_length sheet i = field (3 + 4 * i) 2 sheet

-- ---- the bodies

-- where the body of call i ends that begins at byte `at`
unfoldable pub body_end : List ℕ → ℕ → ℕ → ℕ
body_end sheet i at = at + (cdb_length sheet i + out_length sheet i)

-- where the bodies of n calls from i on end
unfoldable pub bodies_end : List ℕ → ℕ → ℕ → ℕ → ℕ
bodies_end sheet i zero at = at
bodies_end sheet i (suc n) at = bodies_end sheet (suc i) n (body_end sheet i at)

-- where the first body begins
unfoldable pub bodies_begin : List ℕ → ℕ
bodies_begin sheet = 1 + 4 * calls sheet

-- "Sheets over 64 KiB, empty, with more calls or of another total length print only `bad sheet`."
unfoldable pub good_sheet : List ℕ → Bool
good_sheet sheet =
    leb 1 (length sheet)
    && leb (length sheet) most_bytes
    && leb (calls sheet) most_calls
    && eqb (bodies_end sheet 0 (calls sheet) (bodies_begin sheet)) (length sheet)
