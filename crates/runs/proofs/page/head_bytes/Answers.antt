-- `runs::page::head_bytes` meets its contract.
-- Assumes nothing.
use Rattle.fields.specs.Bytes.{zeros}
use Rattle.fields.specs.Field.{bytes}
use Rattle.runs.proofs.page.head_bytes.Goals as goal

pub returns : goal.returns
unfolding bytes zeros
returns c = simp c.bytes-n.ensures
