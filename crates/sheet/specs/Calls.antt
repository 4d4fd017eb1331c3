-- The calls that a call sheet says.
-- Assumes nothing.
use Rattle.std.specs.Prelude.{List, ℕ, ◌+◌}
use Rattle.fields.specs.Bytes.{part, zeros}
use Rattle.contents.specs.Contents.{nexus_of, cdb_length, out_length}
use Rattle.store.specs.Store.{Call}

-- "4,096 bytes of data-in"
abbrev pub data_in_bytes : ℕ
data_in_bytes = 4096

-- the call i, whose body begins at byte `at`
unfoldable pub call_at : List ℕ → ℕ → ℕ → Call
call_at sheet i at = record {
  nexus = nexus_of sheet i;
  cdb = part sheet at (cdb_length sheet i);
  data_out = part sheet (at + cdb_length sheet i) (out_length sheet i);
  data_in = zeros data_in_bytes;
  sense = zeros 18;
}
