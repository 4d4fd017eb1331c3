-- The pool: which slot holds which block, and what reading, writing and unmapping mean.
-- "it stands without the command decoder": nothing here names a command. Assumes nothing.
use Rattle.std.specs.Prelude.{Bool, false, ◌&&◌, ◌||◌, cond, List, [], ◌∷◌, ◌++◌, map, ℕ, zero, suc, ◌+◌, ◌*◌, eqb, leb, ltb, take, drop}
use Rattle.fields.specs.Bytes.{part, put, zeros}
use Rattle.pool.specs.Bounds.{block_bytes}
use Rattle.pool.specs.Marks.{marks_of}

-- "The pool is one lent buffer of 512 bytes per slot, and one owner number per slot: 0 is free, otherwise the block address plus 1."
-- Q-7: "Keep occupancy marks": they lie beside the owners, and are no part of what everybody may know.
pub record Pool : Type 0 where
  pub owners : List ℕ
  pub marks : List ℕ
  pub medium : List ℕ

abbrev pub pool : List ℕ → List ℕ → List ℕ → Pool
pool owners marks medium = record { owners = owners; marks = marks; medium = medium }

-- changed by name: what is not named stays, but that owners bring their marks with them
abbrev pub with_owners : Pool → List ℕ → Pool
with_owners p owners = record { owners = owners; marks = marks_of owners; medium = p.medium }

abbrev pub with_medium : Pool → List ℕ → Pool
with_medium p medium = record { owners = p.owners; marks = p.marks; medium = medium }

-- the lowest slot whose owner number is x; as many as there are slots where none is
unfoldable pub place : ℕ → List ℕ → ℕ
place x [] = 0
place x (y ∷ ys) = cond (eqb y x) 0 (suc (place x ys))

-- whether a slot has the owner number x
unfoldable pub has : ℕ → List ℕ → Bool
has x [] = false
has x (y ∷ ys) = eqb y x || has x ys

-- whether a slot holds block a: its owner number is "the block address plus 1"
unfoldable pub mapped : List ℕ → ℕ → Bool
mapped owners a = has (suc a) owners

-- how many slots are free: "0 is free"
unfoldable pub free : List ℕ → ℕ
free [] = 0
free (y ∷ ys) = cond (eqb y 0) 1 0 + free ys

-- how many of the n blocks from a on are unmapped
unfoldable pub unmapped : List ℕ → ℕ → ℕ → ℕ
unmapped owners a zero = 0
unmapped owners a (suc n) = cond (mapped owners a) 0 1 + unmapped owners (suc a) n

-- ---- reading

-- "unmapped blocks read as zeros"
unfoldable pub read_block : Pool → ℕ → List ℕ
read_block p a =
    cond (mapped p.owners a) (part p.medium (block_bytes * place (suc a) p.owners) block_bytes) (zeros block_bytes)

-- block after block
unfoldable pub read_blocks : Pool → ℕ → ℕ → List ℕ
read_blocks p a zero = []
read_blocks p a (suc n) = read_block p a ++ read_blocks p (suc a) n

-- ---- writing

-- "the lowest free slot" is given the owner number x
unfoldable pub fill : ℕ → List ℕ → List ℕ
fill x [] = []
fill x (y ∷ ys) = cond (eqb y 0) (x ∷ ys) (y ∷ fill x ys)

-- "mapped ones keep theirs"
unfoldable pub assign : List ℕ → ℕ → List ℕ
assign owners a = cond (mapped owners a) owners (fill (suc a) owners)

-- "A write gives each unmapped address of its range, in rising order, the lowest free slot"
unfoldable pub assign_blocks : List ℕ → ℕ → ℕ → List ℕ
assign_blocks owners a zero = owners
assign_blocks owners a (suc n) = assign_blocks (assign owners a) (suc a) n

-- each block's bytes go to the slot that holds it: "512 bytes per slot"
unfoldable pub put_blocks : List ℕ → List ℕ → ℕ → ℕ → List ℕ → List ℕ
put_blocks owners medium a zero bs = medium
put_blocks owners medium a (suc n) bs =
    put_blocks owners (put medium (block_bytes * place (suc a) owners) (take block_bytes bs)) (suc a) n (drop block_bytes bs)

-- slots first, then bytes
unfoldable pub write_blocks : Pool → ℕ → ℕ → List ℕ → Pool
write_blocks p a n bs =
    with_medium (with_owners p (assign_blocks p.owners a n)) (put_blocks (assign_blocks p.owners a n) p.medium a n bs)

-- Q-1: "Repeated pattern": one block n times over
unfoldable pub copies : ℕ → List ℕ → List ℕ
copies zero block = []
copies (suc n) block = block ++ copies n block

-- there is room unless there are "more unmapped blocks in a write than free slots"
unfoldable pub room_for : List ℕ → ℕ → ℕ → Bool
room_for owners a n = leb (unmapped owners a n) (free owners)

-- ---- unmapping

-- whether an owner number names one of the n blocks from a on: "0 is free, otherwise the block address plus 1"
unfoldable pub names : ℕ → ℕ → ℕ → Bool
names a n zero = false
names a n (suc b) = leb a b && ltb b (a + n)

-- the owner number of a slot after the n blocks from a on are unmapped: "frees the slots named"
unfoldable pub freed : ℕ → ℕ → ℕ → ℕ
freed a n y = cond (names a n y) 0 y

-- in every slot
unfoldable pub unmap_owners : List ℕ → ℕ → ℕ → List ℕ
unmap_owners owners a n = map (freed a n) owners

-- "UNMAP frees the slots named and keeps their bytes."
unfoldable pub unmap_blocks : Pool → ℕ → ℕ → Pool
unmap_blocks p a n = with_owners p (unmap_owners p.owners a n)
