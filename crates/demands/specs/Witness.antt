-- Two stores and two histories of which demand 3 says something.
-- Assumes nothing.
use Rattle.std.specs.Prelude.{List, [], ◌∷◌, ℕ}
use Rattle.answers.specs.Answers.{number_of}
use Rattle.store.specs.Store.{Store, Call, Seen}
use Rattle.demands.specs.Bench.{made, two, block, ready, read_10, write_10, unmap_1, out, in_call}

-- type 6, held by nexus 1; nexus 2 is registered, 3 and 4 are shut out. The blocks, and how full the pool is, differ
unfoldable pub left : Store
left = made (1 ∷ 0 ∷ []) two 6 1 0

unfoldable pub right : Store
right = made (5 ∷ 4 ∷ []) two 6 1 0

-- 3 reads, asks whether the unit is ready, reads the keys and then registers, so that it is no more shut out; 4 wants to write
unfoldable pub left_calls : List Call
left_calls =
    read_10 1 0 1
    ∷ read_10 3 0 1
    ∷ write_10 1 5 1 (block 0xB0)
    ∷ ready 3
    ∷ in_call 3 0
    ∷ out 3 0 0 0 0x33
    ∷ read_10 3 5 1
    ∷ write_10 4 0 2 (block 0xB0)
    ∷ []

unfoldable pub right_calls : List Call
right_calls =
    write_10 2 3 1 (block 0xC0)
    ∷ unmap_1 1 0 8
    ∷ read_10 3 0 1
    ∷ ready 3
    ∷ in_call 3 0
    ∷ read_10 1 3 1
    ∷ out 3 0 0 0 0x33
    ∷ write_10 4 0 2 (block 0xB0)
    ∷ write_10 3 7 1 (block 0xD0)
    ∷ []

-- the calls of both that are kept
unfoldable pub kept_calls : List Call
kept_calls = read_10 3 0 1 ∷ ready 3 ∷ in_call 3 0 ∷ out 3 0 0 0 0x33 ∷ write_10 4 0 2 (block 0xB0) ∷ []

-- what is heard, by its numbers
unfoldable pub numbers : List Seen → List ℕ
numbers [] = []
numbers (x ∷ xs) = number_of x.answer ∷ numbers xs

-- how many bytes returned
unfoldable pub lengths : List Seen → List ℕ
lengths [] = []
lengths (x ∷ xs) = x.returned ∷ lengths xs
