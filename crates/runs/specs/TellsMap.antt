-- What a page of GET LBA STATUS says, read back from its bytes and said of the blocks themselves: no run is counted here. proofs/Truth shows that
-- `status_data` says exactly that.
-- Assumes nothing.
use Rattle.std.specs.Prelude.{◌≡◌, ◌⊎◌, ◌≢◌, List, ℕ, suc, ◌+◌, ◌*◌, ◌≤◌, ◌<◌, eqb, length}
use Rattle.fields.specs.Field.{byte, field}
use Rattle.pool.specs.Pool.{mapped}

-- ---- descriptor i of a page: from byte 8 on, 16 bytes each

unfoldable pub start_of : List ℕ → ℕ → ℕ
start_of page i = field (8 + 16 * i) 8 page

unfoldable pub count_of : List ℕ → ℕ → ℕ
count_of page i = field (16 + 16 * i) 4 page

unfoldable pub status_of : List ℕ → ℕ → ℕ
status_of page i = byte (20 + 16 * i) page

-- the first block behind it
unfoldable pub end_of : List ℕ → ℕ → ℕ
end_of page i = start_of page i + count_of page i

-- ---- the page tells the map from `start` on

pub record TellsMap (capacity : ℕ) (owners : List ℕ) (start : ℕ) (page : List ℕ) : Type 0 where
  -- how many descriptors there are: "at most 32"
  pub runs : ℕ
  pub some : 1 ≤ runs
  pub most : runs ≤ 32
  pub long : length page ≡ 8 + 16 * runs
  -- the header says how many bytes follow its first four; what it and the descriptors do not use is 0
  pub header : field 0 4 page ≡ 4 + 16 * runs
  pub header_rest : field 4 4 page ≡ 0
  pub rest : (i : ℕ) → i < runs → field (21 + 16 * i) 3 page ≡ 0
  -- they follow one another without gap from the starting address
  pub first : start_of page 0 ≡ start
  pub next : (i : ℕ) → suc i < runs → start_of page (suc i) ≡ end_of page i
  -- none is empty, and none goes past the capacity
  pub filled : (i : ℕ) → i < runs → 1 ≤ count_of page i
  pub inside : (i : ℕ) → i < runs → end_of page i ≤ capacity
  -- "(0 mapped, 1 unmapped)": each says so of all its blocks
  pub status : (i : ℕ) → i < runs → status_of page i ≤ 1
  pub blocks : (i b : ℕ) → i < runs → start_of page i ≤ b → b < end_of page i → mapped owners b ≡ eqb (status_of page i) 0
  -- "maximal": each is as long as can be, for it ends at the capacity, at the cap, or at a block that is not as its first one
  pub longest : (i : ℕ) → i < runs
      → (end_of page i ≡ capacity) ⊎ ((count_of page i ≡ 0xFFFF_FFFF) ⊎ (mapped owners (end_of page i) ≢ mapped owners (start_of page i)))
  -- and the last one reaches the capacity, unless there are 32
  pub reaches : (i : ℕ) → suc i ≡ runs → (end_of page i ≡ capacity) ⊎ (runs ≡ 32)
