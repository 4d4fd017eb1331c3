-- `runs::page::run_bytes` meets its contract.
-- Assumes nothing.
use Rattle.fields.specs.Bytes.{zeros}
use Rattle.fields.specs.Field.{bytes}
use Rattle.runs.specs.Page.{run_bytes}
use Rattle.runs.proofs.page.run_bytes.Goals as goal

pub returns : goal.returns
unfolding bytes zeros run_bytes
returns c = simp (c.bytes-a.ensures, c.bytes-n.ensures, c.status_of-status.ensures)
