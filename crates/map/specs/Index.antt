-- The index of a range: the place of each address, so that a read or a write searches the slots once and not once per block.
-- Assumes nothing.
use Rattle.std.specs.Prelude.{◌≡◌, ℕ, zero, suc, ◌+◌, ◌*◌, cond, List, [], ◌∷◌, ◌++◌, length, take, drop, ◌==◌, nat_lt}
use Rattle.fields.specs.Bytes.{part, put, zeros}
use Rattle.pool.specs.Bounds.{block_bytes, most_transfer}
use Rattle.pool.specs.Pool.{place}

-- the places of the n addresses from a on; an unmapped one has the number of slots for its place
unfoldable pub places : List ℕ → ℕ → ℕ → List ℕ
places owners a zero = []
places owners a (suc n) = place (suc a) owners ∷ places owners (suc a) n

-- the index of the n addresses from a on: its first n numbers are their places
pub record Indexed (owners : List ℕ) (a n : ℕ) (index : List ℕ) : Type 0 where
  pub size : length index ≡ most_transfer
  pub each : take n index ≡ places owners a n

-- how many places are none
unfoldable pub missing : ℕ → List ℕ → ℕ
missing slots [] = 0
missing slots (i ∷ is) = cond (i == slots) 1 0 + missing slots is

-- the bytes at a place
unfoldable pub slot_bytes : List ℕ → ℕ → ℕ → List ℕ
slot_bytes medium slots i = cond (nat_lt i slots) (part medium (block_bytes * i) block_bytes) (zeros block_bytes)

-- block after block
unfoldable pub read_places : List ℕ → ℕ → List ℕ → List ℕ
read_places medium slots [] = []
read_places medium slots (i ∷ is) = slot_bytes medium slots i ++ read_places medium slots is

-- the medium once each block's bytes are at its place
unfoldable pub put_places : List ℕ → List ℕ → List ℕ → List ℕ
put_places [] medium bs = medium
put_places (i ∷ is) medium bs = put_places is (put medium (block_bytes * i) (take block_bytes bs)) (drop block_bytes bs)
