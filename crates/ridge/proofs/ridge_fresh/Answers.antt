use Rattle.ridge.proofs.InterfaceLaws.{freshens_good, freshens_refused}
use Rattle.ridge.proofs.ridge_fresh.Goals as goal

pub returns-in-Ok : goal.returns-in-Ok
returns-in-Ok c = rw c.number_of.ensures (freshens_good _ _ _ _ _ _ _ _ c.in-Ok.ensures)

pub returns-in-Err : goal.returns-in-Err
returns-in-Err c = rw c.number_of-in-Err.ensures (freshens_refused _ _ _ _ _ _ _ _ c.in-Err.ensures)
