-- `write_blocks`: each block has bytes of its own.
-- Assumes nothing.
use Rattle.map.proofs.Trying.{stepped_each}
use Rattle.map.proofs.write.write_blocks.Goals as goal

pub returns : goal.returns
returns c = c.write.ensures c.args.bytes.now (stepped_each c.args.transfer.range.count c.args.bytes.now)
