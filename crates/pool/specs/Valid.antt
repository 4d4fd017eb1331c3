-- When a pool is valid, and what the check of one that is not names.
-- Assumes nothing.
use Rattle.std.specs.Prelude.{Bool, true, not, ◌&&◌, ◌||◌, cond, List, [], ◌∷◌, ℕ, suc, ◌*◌, Result, Ok, Err, ⊤, eqb, leb, ltb, length}
use Rattle.pool.specs.Bounds.{most_blocks, most_slots, block_bytes}
use Rattle.pool.specs.Marks.{marks_ok}
use Rattle.pool.specs.Pool.{Pool, has}
use Rattle.pool.specs.declared.Slot.{Slot}
use Rattle.pool.specs.declared.Flaw.{Flaw}
use Rattle.pool.specs.declared.Flaw.TheVariants.{Beyond, Clash}

-- "owners are at most the capacity"
unfoldable pub within : ℕ → List ℕ → Bool
within capacity [] = true
within capacity (y ∷ ys) = leb y capacity && within capacity ys

-- "no two slots name one block"
unfoldable pub distinct : List ℕ → Bool
distinct [] = true
distinct (y ∷ ys) = (eqb y 0 || not (has y ys)) && distinct ys

-- "A valid state: owners are at most the capacity; no two slots name one block"
unfoldable pub map_ok : ℕ → List ℕ → Bool
map_ok capacity owners = within capacity owners && distinct owners

-- "capacity, blocks | 1 to 2^40"
unfoldable pub capacity_ok : ℕ → Bool
capacity_ok capacity = leb 1 capacity && leb capacity most_blocks

-- "slots in the pool | 1 to 128"
unfoldable pub slots_ok : ℕ → Bool
slots_ok slots = leb 1 slots && leb slots most_slots

-- none of "slots or capacity out of bounds, medium not 512 x slots bytes, invalid state", as far as it is the pool's
unfoldable pub pool_ok : ℕ → Pool → Bool
pool_ok capacity p =
    slots_ok (length p.owners) && eqb (length p.medium) (block_bytes * length p.owners)
    && (map_ok capacity p.owners && marks_ok p.owners p.marks)

-- ---- the check, which names what is wrong

-- `Ok` of a valid map, and otherwise the first flaw
abbrev pub Check : Type 0
Check = Result ⊤ Flaw

abbrev pub slot : ℕ → Slot
slot i = record { 0 = i }

-- the first slot, from i on, whose owner number is above the capacity; `next` where there is none
unfoldable pub beyond_from : ℕ → ℕ → List ℕ → Check → Check
beyond_from capacity i [] next = next
beyond_from capacity i (y ∷ ys) next = cond (ltb capacity y) (Err (Beyond (slot i))) (beyond_from capacity (suc i) ys next)

-- the first slot, from j on, that names the block y as slot i does; `next` where there is none
unfoldable pub again_from : ℕ → ℕ → ℕ → List ℕ → Check → Check
again_from i y j [] next = next
again_from i y j (z ∷ zs) next = cond (eqb z y) (Err (Clash (slot i) (slot j))) (again_from i y (suc j) zs next)

-- "the check of the map stops at the first pair of slots that name the same block, pairs taken by lower slot, then higher"
unfoldable pub clash_from : ℕ → List ℕ → Check
clash_from i [] = Ok tt
clash_from i (y ∷ ys) = cond (eqb y 0) (clash_from (suc i) ys) (again_from i y (suc i) ys (clash_from (suc i) ys))

-- "owners are at most the capacity; no two slots name one block", in this order
unfoldable pub checked : ℕ → List ℕ → Check
checked capacity owners = beyond_from capacity 0 owners (clash_from 0 owners)
