-- Cases of Q-7: the marks and every byte in the slots of a store of 65 slots, whose last is in the second word, after a WRITE and after an UNMAP; marks
-- that do not agree; and what is told of the room there. The words are written out, and not by `marks_of`.
-- Assumes nothing.
use Rattle.std.specs.Prelude.{Bool, ◌&&◌, List, [], ◌∷◌, ◌++◌, ℕ, eqb, replicate}
use Rattle.fields.specs.Bytes.{zeros}
use Rattle.answers.specs.Answers.{number_of}
use Rattle.answers.specs.Sense.{fixed}
use Rattle.pool.specs.Pool.{pool}
use Rattle.store.specs.Store.{Store}
use Rattle.store.specs.Fresh.{fresh_unit}
use Rattle.store.specs.Room.{room_of}
use Rattle.demands.specs.Checker.{good, no_room_at, no_status, Case, Expect, ◌gives◌}
use Rattle.demands.specs.Bench.{block, call, ready, read_10, write_10, unmap_1}
use Rattle.demands.specs.Cases.{case_of, case_still}
use Rattle.demands.specs.FurtherCases.{rising}

-- ---- stores of 65 slots, of capacity 100

-- so many bytes of the slots as nobody wrote
unfoldable pub untouched : ℕ → List ℕ
untouched n = replicate n 0xEE

-- with these owners, marks and bytes
unfoldable pub marked65 : List ℕ → List ℕ → List ℕ → Store
marked65 owners marks medium = record { format = fixed; unit = fresh_unit 100; pool = pool owners marks medium }

-- blocks 0 to 63 lie in the first 64 slots; this is the owner of the last, and these are the marks
unfoldable pub full64 : ℕ → List ℕ → List ℕ → Store
full64 owner marks medium = marked65 (rising 1 64 ++ (owner ∷ [])) marks medium

-- the last slot is free
unfoldable pub one_free : Store
one_free = full64 0 (0xFFFF_FFFF_FFFF_FFFF ∷ 0 ∷ []) (untouched 33280)

-- block 70 lies in it
unfoldable pub none_free : Store
none_free = full64 71 (0xFFFF_FFFF_FFFF_FFFF ∷ 1 ∷ []) (untouched 32768 ++ block 0xB0)

-- ---- cases

-- a WRITE into the slot of the second word
unfoldable pub case_second_word : Case
case_second_word = case_of one_free
    (write_10 0 70 2 (block 0xB0 ++ block 0xC0) gives no_room_at 70
    ∷ write_10 0 70 1 (block 0xB0) gives good [] ∷ [])
    none_free

-- an UNMAP of blocks 3 and 70 frees a slot of each word, and keeps their bytes
unfoldable pub case_both_words : Case
case_both_words = case_of none_free
    (unmap_1 0 70 1 gives good [] ∷ unmap_1 0 3 1 gives good [] ∷ [])
    (marked65 (rising 1 3 ++ (0 ∷ (rising 5 60 ++ (0 ∷ [])))) (0xFFFF_FFFF_FFFF_FFF7 ∷ 0 ∷ []) (untouched 32768 ++ block 0xB0))

-- whatever is asked, by whomever: an operation code that is none, too
unfoldable pub all_eleven : List Expect
all_eleven =
    ready 0 gives no_status 11
    ∷ read_10 3 0 1 gives no_status 11
    ∷ write_10 0 0 1 (block 0xB0) gives no_status 11
    ∷ call 15 (0x01 ∷ zeros 5) [] gives no_status 11 ∷ []

-- "a mark beyond the slots": slot 65 is none
unfoldable pub case_beyond : Case
case_beyond = case_still (full64 0 (0xFFFF_FFFF_FFFF_FFFF ∷ 2 ∷ []) (untouched 33280)) all_eleven

-- "A mark without its owner": of the last slot
unfoldable pub case_bare : Case
case_bare = case_still (full64 0 (0xFFFF_FFFF_FFFF_FFFF ∷ 1 ∷ []) (untouched 33280)) all_eleven

-- "an owner without its mark": of slot 3
unfoldable pub case_unmarked : Case
case_unmarked = case_still (full64 0 (0xFFFF_FFFF_FFFF_FFF7 ∷ 0 ∷ []) (untouched 33280)) all_eleven

-- one word, and three
unfoldable pub case_one_word : Case
case_one_word = case_still (full64 0 (0xFFFF_FFFF_FFFF_FFFF ∷ []) (untouched 33280)) all_eleven

unfoldable pub case_three_words : Case
case_three_words = case_still (full64 0 (0xFFFF_FFFF_FFFF_FFFF ∷ 0 ∷ 0 ∷ []) (untouched 33280)) all_eleven

unfoldable pub mark_cases : List Case
mark_cases = case_second_word ∷ case_both_words ∷ case_beyond ∷ case_bare ∷ case_unmarked ∷ case_one_word ∷ case_three_words ∷ []

-- ---- what is told of the room

-- this answer number, and these numbers
unfoldable pub tells_room : ℕ → ℕ → ℕ → Store → Bool
tells_room number free lowest s = eqb (number_of (room_of s).answer) number && (eqb (room_of s).free free && eqb (room_of s).lowest lowest)

-- one slot free, in the second word; none, so that the number of slots is told; a slot of each word; and marks that do not agree
unfoldable pub room_cases : Bool
room_cases =
    tells_room 0 1 64 one_free
    && (tells_room 0 0 65 none_free && (tells_room 0 2 3 case_both_words.end && (tells_room 11 0 0 case_beyond.start && tells_room 11 0 0 case_unmarked.start)))
