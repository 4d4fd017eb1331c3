-- What holds of the slots that the check has passed: those of one bucket are a chain, from the last down to the first.
-- It helps to prove the code alone: what the check answers is said without it. Assumes nothing.
use Rattle.std.specs.Prelude.{◌≡◌, List, ◌≢◌, ℕ, ◌-◌, ◌*◌, ◌/◌, ◌%◌, ◌^◌, ◌<◌, ◌≤◌, length, get_or}
use Rattle.pool.specs.Bounds.{most_slots}

-- the bucket of an owner number
unfoldable pub bucket_of : ℕ → ℕ
bucket_of x = x % 2 ^ 36 * 247175911 / 2 ^ 28 % 256

-- the link is to the last of the first i slots that is used and in the bucket: 0 for none, otherwise the slot plus 1
pub record Last (owners : List ℕ) (bucket i link : ℕ) : Type 0 where
  pub below : link ≤ i
  pub used : link ≢ 0 → get_or owners (link - 1) 0 ≢ 0
  pub own : link ≢ 0 → bucket_of (get_or owners (link - 1) 0) ≡ bucket
  pub none : (k : ℕ) → link ≤ k → k < i → get_or owners k 0 ≢ 0 → bucket_of (get_or owners k 0) ≢ bucket

-- each used slot of the first i has a link to the one before it in its bucket
pub record Linked (owners earlier : List ℕ) (i : ℕ) : Type 0 where
  pub each : (k : ℕ) → k < i → get_or owners k 0 ≢ 0 → Last owners (bucket_of (get_or owners k 0)) k (get_or earlier k 0)

-- slot i is used, the slots before it are linked, and the link is to the last of them in its bucket
pub record Chained (owners earlier : List ℕ) (link i : ℕ) : Type 0 where
  pub few : length owners ≤ most_slots
  pub there : i < length owners
  pub used : get_or owners i 0 ≢ 0
  pub linked : Linked owners earlier i
  pub last : Last owners (bucket_of (get_or owners i 0)) i link
