-- What the contracts of PERSISTENT RESERVE OUT speak of.
-- Assumes nothing.
use Rattle.std.specs.Prelude.{List, ℕ, Result}
use Rattle.answers.specs.declared.Answer.{Answer}
use Rattle.answers.specs.Order.{first}
use Rattle.rights.specs.declared.Rights.{Rights}
use Rattle.rights.specs.declared.Action.{Action}
use Rattle.rights.specs.Actions.{acted, unless_refused}
use Rattle.forms.specs.declared.Request.{Request}
use Rattle.store.specs.Alter.{parameters_of, alter_rows}

-- a refusal, or the rights after it
unfoldable pub altered : Action → Request → Rights → ℕ → List ℕ → Result Rights Answer
altered a q r nexus data_out = unless_refused (first (alter_rows a q r nexus data_out)) (acted a r nexus (parameters_of q data_out))
