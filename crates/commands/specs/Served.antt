-- What the contracts of one call speak of: the request that the stages let pass, and all that a command leaves.
-- Assumes nothing.
use Rattle.std.specs.Prelude.{List, ℕ, Result, Ok, Err}
use Rattle.answers.specs.declared.Answer.{Answer}
use Rattle.answers.specs.declared.Answer.TheVariants.{Good}
use Rattle.answers.specs.Order.{first}
use Rattle.rights.specs.declared.Action.{Action}
use Rattle.rights.specs.declared.Rights.{Rights}
use Rattle.forms.specs.declared.Command.{Command}
use Rattle.forms.specs.declared.Request.{Request}
use Rattle.forms.specs.Forms.{Entry, asked_in}
use Rattle.decoder.specs.Decoding.{Decoded, decoded}
use Rattle.store.specs.declared.Unit.{Unit}
use Rattle.store.specs.Store.{Store, Call, enacted}
use Rattle.store.specs.Step.{stage_rows, command_rows, command_data, command_store}
use Rattle.reply.specs.declared.Outcome.{Outcome}
use Rattle.reply.specs.Reply.{Served, serves}

-- the outcome of an answer that returns no bytes
abbrev pub bare : Answer → Unit → Outcome
bare answer unit = record { answer = answer; returned = 0; unit = unit }

-- the outcome of a reply
abbrev pub replying : Result ℕ Answer → Unit → Outcome
replying (Ok n) unit = record { answer = Good; returned = n; unit = unit }
replying (Err answer) unit = bare answer unit

-- the outcome of a decision on an action of a nexus
abbrev pub alters_to : Action → ℕ → Unit → Result Rights Answer → Outcome
alters_to a nexus u (Ok rights) = bare Good (enacted a nexus u rights)
alters_to a nexus u (Err answer) = bare answer u

-- what the stages let pass
unfoldable pub asked_at : Entry → Unit → ℕ → List ℕ → Decoded
asked_at e u nexus cdb = decoded (first (stage_rows e u nexus cdb)) (asked_in e cdb)

-- a command, after the stages
unfoldable pub served_by : Command → Request → Store → Call → Served
served_by k q s c = serves (first (command_rows k q s c)) (command_data k q s) (command_store k q s c) s c.data_in
