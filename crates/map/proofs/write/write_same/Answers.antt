-- `write_same`: with a step of 0 each block is the one block.
-- Assumes nothing.
use Rattle.pool.specs.Pool.{copies}
use Rattle.map.proofs.Trying.{stepped_same}
use Rattle.map.proofs.write.write_same.Goals as goal

pub returns : goal.returns
returns c = c.write.ensures (copies c.args.transfer.range.count c.args.block.now) (stepped_same c.args.transfer.range.count c.args.block.now c.requires.3)
