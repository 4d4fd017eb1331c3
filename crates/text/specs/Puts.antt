-- What a function leaves that puts a text into a lent buffer: the bytes, and the place behind them.
-- Assumes nothing.
use Rattle.std.specs.Prelude.{◌≡◌, List, ℕ, ◌+◌, length}
use Rattle.fields.specs.Bytes.{put}

pub record Puts (text before : List ℕ) (at : ℕ) (after : List ℕ) (end : ℕ) : Type 0 where
  pub bytes : after ≡ put before at text
  pub behind : end ≡ at + length text
