use Rattle.ridge.proofs.InterfaceLaws.{executes}
use Rattle.ridge.proofs.ridge_execute.Goals as goal

pub returns : goal.returns
returns c = rw c.number_of.ensures (executes _ _ (c.execute-outcome.result) _ _ _ _ _ (c.execute-outcome.ensures))
