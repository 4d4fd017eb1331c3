-- `read_blocks`: the blocks passed are laid over the front of what was lent.
-- Assumes nothing.
use Rattle.std.proofs.Common.{◌≡◌, length, take, refl, ap, ◌∙◌, arith, rules}
use Rattle.fields.specs.Bytes.{put}
use Rattle.pool.specs.Bounds.{most_transfer}
use Rattle.pool.specs.Pool.{pool, read_blocks}
use Rattle.map.specs.Index.{read_places}
use Rattle.map.proofs.Blocks.{read_start, read_turn, read_indexed}
use Rattle.map.proofs.read.read_blocks.Goals as goal

pub loop-k-init : goal.loop-k-init
loop-k-init c = (refl, read_start _ _ c.index_of-index.result _)

pub loop-k-preserved : goal.loop-k-preserved
loop-k-preserved c =
    let a = c.args in
    let l = c.loop-k in
    let n : length c.index_of-index.result ≡ most_transfer = c.index_of-index.ensures.size in
    (search rules, read_turn a.medium.now (length a.owners.now) c.index_of-index.result a.out.now _ _ l.k c.requires.1 (omega arith) (omega arith) l.invariant.1 c.read_slot.ensures)

pub returns : goal.returns
returns c marks =
    let a = c.args in
    let l = c.loop-k in
    let e : l.k ≡ a.transfer.range.count = omega arith in
    let f : read_places a.medium.now (length a.owners.now) (take l.k c.index_of-index.result) ≡ read_blocks (pool a.owners.now marks a.medium.now) a.transfer.range.first.0 a.transfer.range.count =
    rw e (read_indexed a.owners.now marks c.index_of-index.result a.medium.now a.transfer.range.first.0 a.transfer.range.count c.index_of-index.ensures) in
    l.invariant.1 ∙ ap (put a.out.now 0) f
