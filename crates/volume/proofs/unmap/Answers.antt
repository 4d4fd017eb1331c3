-- `unmap`: what passes the tests is what `unmap_blocks` asks, of the range that was asked for.
-- Assumes nothing.
use mathlib.Core.Path.{sym}
use Rattle.pool.specs.Pool.{pool}
use Rattle.volume.proofs.Answering.{may_unmap_law, unmap_done}
use Rattle.volume.proofs.unmap.Goals as goal

pub unmap_blocks-requires : goal.unmap_blocks-requires
unmap_blocks-requires c =
    let a = c.args in
    let m = may_unmap_law a.capacity (pool a.owners.now a.marks.now a.medium.now) a.lba.0 a.count (sym c.in_ok-usable.ensures) c.in-Some.ensures.0 in
    (m.1, m.2)

pub returns : goal.returns
returns c =
    let a = c.args in
    let r = c.in-Some.ensures in
    unmap_done a.capacity (pool a.owners.now a.marks.now a.medium.now) a.lba.0 a.count (sym c.in_ok-usable.ensures) _ _ r.0 (rw (r.1, r.2) at c.unmap_blocks.ensures)
