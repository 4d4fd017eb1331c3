-- `read`: what passes the tests is what `read_blocks` asks, of the range that was asked for.
-- Assumes nothing.
use mathlib.Core.Path.{sym}
use lib.ListN.{length}
use Rattle.pool.specs.Pool.{pool}
use Rattle.volume.proofs.Answering.{may_move, read_done}
use Rattle.volume.proofs.read.Goals as goal

pub read_blocks-requires : goal.read_blocks-requires
read_blocks-requires c =
    let a = c.args in
    let r = c.in_ok-transfer.ensures in
    let m = may_move a.capacity (pool a.owners.now a.marks.now a.medium.now) a.lba.0 a.count (length a.out.now) (sym c.in_ok-usable.ensures) (sym r.0) in
    rw (r.2) (m.2, m.3, m.4)

pub returns : goal.returns
returns c =
    let a = c.args in
    let r = c.in_ok-transfer.ensures in
    read_done a.capacity (pool a.owners.now a.marks.now a.medium.now) a.lba.0 a.count a.out.now _ (sym c.in_ok-usable.ensures) (sym r.0) (rw (r.1, r.2) at (c.read_blocks.ensures a.marks.now))
