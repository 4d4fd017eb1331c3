-- What functions leave that put the lines of calls at the end of a page. For contracts only.
-- Assumes nothing.
use Rattle.std.specs.Prelude.{◌≡◌, List, ◌++◌, ℕ, ◌+◌, ◌*◌, ◌≤◌, length}
use Rattle.store.specs.Store.{Store}
use Rattle.store.specs.Step.{step}
use Rattle.contents.specs.Contents.{most_calls}
use Rattle.lines.specs.Most.{line_most}
use Rattle.sheet.specs.Calls.{call_at}
use Rattle.sheet.specs.Printed.{seen_line, lines_of}

-- room for what the longest sheet prints
abbrev pub out_bytes : ℕ
out_bytes = 4096

-- call i, whose body begins at byte `at`, takes the store s to t, and its line is put behind what was there
pub record Serves (sheet : List ℕ) (i at : ℕ) (s t : Store) (before after : List ℕ) : Type 0 where
  pub left : t ≡ (step s (call_at sheet i at)).store
  pub line : after ≡ before ++ seen_line (i + 1) (step s (call_at sheet i at)).seen
  pub most : length after ≤ length before + line_most

-- the lines of all calls are put behind what was there
pub record Runs (sheet before after : List ℕ) : Type 0 where
  pub lines : after ≡ before ++ lines_of sheet
  pub most : length after ≤ length before + most_calls * line_most
