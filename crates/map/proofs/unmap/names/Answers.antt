use Rattle.map.proofs.Turns.{far_names}
use Rattle.map.proofs.unmap.names.Goals as goal

pub returns : goal.returns
returns c = far_names _ _ _ _ c.args.range.within c.above.ensures
