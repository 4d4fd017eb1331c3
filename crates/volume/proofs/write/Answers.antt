-- `write`: what passes the tests is what `write_blocks` asks, of the range that was asked for.
-- Assumes nothing.
use mathlib.Core.Path.{sym}
use lib.ListN.{length}
use Rattle.pool.specs.Pool.{pool}
use Rattle.volume.proofs.Answering.{may_write, write_done, write_full}
use Rattle.volume.proofs.write.Goals as goal

pub write_blocks-requires : goal.write_blocks-requires
write_blocks-requires c =
    let a = c.args in
    let r = c.in_ok-transfer.ensures in
    let m = may_write a.capacity (pool a.owners.now a.marks.now a.medium.now) a.lba.0 a.count (length a.bytes.now) (sym c.in_ok-usable.ensures) (sym r.0) in
    rw (r.2) (m.2, m.3, m.4, m.5)

pub returns-then-not-write_blocks : goal.returns-then-not-write_blocks
returns-then-not-write_blocks c =
    let a = c.args in
    let r = c.in_ok-transfer.ensures in
    write_full a.capacity (pool a.owners.now a.marks.now a.medium.now) a.lba.0 a.count a.bytes.now (sym c.in_ok-usable.ensures) (sym r.0) _ _ _ _ (rw (r.1, r.2) at c.write_blocks.ensures) c.if-not-write_blocks.true

pub returns : goal.returns
returns c =
    let a = c.args in
    let r = c.in_ok-transfer.ensures in
    write_done a.capacity (pool a.owners.now a.marks.now a.medium.now) a.lba.0 a.count a.bytes.now (sym c.in_ok-usable.ensures) (sym r.0) _ _ _ _ (rw (r.1, r.2) at c.write_blocks.ensures) c.if-not-write_blocks.false
