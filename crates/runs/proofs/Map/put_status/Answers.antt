-- `runs::Map::put_status` meets its contract.
-- Assumes nothing.
use mathlib.Core.Path.{◌∙◌}
use Rattle.runs.proofs.PageLaws.{status_is, status_length}
use Rattle.runs.proofs.Map.put_status.Goals as goal

pub returns : goal.returns
returns c =
    let a = c.args in
    let r = c.put_runs-count.ensures in (
      status_length a.self.capacity a.self.owners.now a.lba.0 _ r.0,
      status_is a.self.capacity a.self.owners.now a.page.now _ a.lba.0 _ _ r.0 r.1 c.requires.1 (c.copy_from_slice.ensures.after ∙ c.head_bytes.ensures),
    )
