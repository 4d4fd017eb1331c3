-- `usable`: what the check of the owners tells.
-- Assumes nothing.
use mathlib.Core.Path.{sym}
use Rattle.pool.specs.Pool.{pool}
use Rattle.volume.proofs.Answering.{usable_invalid}
use Rattle.volume.proofs.usable.Goals as goal

pub returns-in-Err : goal.returns-in-Err
returns-in-Err c =
    let a = c.args in
    usable_invalid a.capacity (pool a.owners.now a.marks.now a.medium.now) (sym c.in_ok-bounded.ensures) c.if-medium-owners.false _ c.in-Err.ensures
