-- What a call sheet prints: "A bench program, fresh store of capacity 8 and 2 slots, 4,096 bytes of data-in, reads a call sheet".
-- Assumes nothing.
use Rattle.std.specs.Prelude.{cond, List, [], ◌∷◌, ◌++◌, ℕ, zero, suc, ◌*◌}
use Rattle.fields.specs.Bytes.{zeros}
use Rattle.answers.specs.Sense.{fixed}
use Rattle.store.specs.Store.{Store, Seen}
use Rattle.store.specs.Step.{step}
use Rattle.store.specs.Fresh.{fresh_store}
use Rattle.contents.specs.Contents.{calls, body_end, bodies_begin, good_sheet}
use Rattle.lines.specs.Line.{line_of}
use Rattle.sheet.specs.Calls.{call_at}

-- "fresh store of capacity 8 and 2 slots"
abbrev pub capacity : ℕ
capacity = 8

abbrev pub slots : ℕ
slots = 2

-- "call,answer,status,sense,length,data" and a line feed
unfoldable pub heading : List ℕ
heading =
    0x63 ∷ 0x61 ∷ 0x6C ∷ 0x6C ∷ 0x2C
    ∷ 0x61 ∷ 0x6E ∷ 0x73 ∷ 0x77 ∷ 0x65 ∷ 0x72 ∷ 0x2C
    ∷ 0x73 ∷ 0x74 ∷ 0x61 ∷ 0x74 ∷ 0x75 ∷ 0x73 ∷ 0x2C
    ∷ 0x73 ∷ 0x65 ∷ 0x6E ∷ 0x73 ∷ 0x65 ∷ 0x2C
    ∷ 0x6C ∷ 0x65 ∷ 0x6E ∷ 0x67 ∷ 0x74 ∷ 0x68 ∷ 0x2C
    ∷ 0x64 ∷ 0x61 ∷ 0x74 ∷ 0x61 ∷ 0x0A ∷ []

-- "bad sheet" and a line feed
unfoldable pub bad_sheet : List ℕ
bad_sheet = 0x62 ∷ 0x61 ∷ 0x64 ∷ 0x20 ∷ 0x73 ∷ 0x68 ∷ 0x65 ∷ 0x65 ∷ 0x74 ∷ 0x0A ∷ []

-- what a call's caller sees of it, as a line
unfoldable pub seen_line : ℕ → Seen → List ℕ
seen_line call x = line_of call x.answer x.returned x.data_in

-- the lines of n calls from i on, the first body at byte `at`, on the store s
unfoldable pub lines_from : Store → List ℕ → ℕ → ℕ → ℕ → List ℕ
lines_from s sheet i zero at = []
lines_from s sheet i (suc n) at =
    seen_line (suc i) (step s (call_at sheet i at)).seen
    ++ lines_from (step s (call_at sheet i at)).store sheet (suc i) n (body_end sheet i at)

-- the store that the calls begin with; its medium begins as zeros, and its sense is in fixed format, "as now"
unfoldable pub bench_store : Store
bench_store = fresh_store capacity fixed slots (zeros (512 * slots))

-- the lines of all calls
unfoldable pub lines_of : List ℕ → List ℕ
lines_of sheet = lines_from bench_store sheet 0 (calls sheet) (bodies_begin sheet)

unfoldable pub printed : List ℕ → List ℕ
printed sheet = cond (good_sheet sheet) (heading ++ lines_of sheet) bad_sheet
