use Rattle.ridge.proofs.InterfaceLaws.{rooms_good}
use Rattle.ridge.proofs.ridge_room.Goals as goal

pub returns-in-Ok : goal.returns-in-Ok
returns-in-Ok c = rw c.number_of.ensures (rooms_good _ _ _ _ _ c.in-Ok.ensures)
