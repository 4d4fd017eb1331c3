-- The conflict table as those put it who hold it beside the source's: of any build, so that wrong ones can be put in; proofs/Conflicts proves it of `step`.
-- Assumes nothing.
use Rattle.std.specs.Prelude.{◌≡◌, ◌↔◌, not, ℕ, T}
use Rattle.answers.specs.declared.Answer.TheVariants.{Good, Conflict}
use Rattle.rights.specs.declared.Rights.{Rights}
use Rattle.forms.specs.declared.Command.{Command}
use Rattle.store.specs.Store.{Store, Call, usable}
use Rattle.store.specs.Conflict.{conflict, ruled}
use Rattle.demands.specs.History.{Build, is_out}
use Rattle.demands.specs.Contents.{AsksFor, by_itself, Quiet}

-- Q-5: "Not one answer changes": the table says what the rule says, of every rights, nexus and command
abbrev pub TableIsRule : Type 0
TableIsRule = (r : Rights) (n : ℕ) (k : Command) → conflict r n k ≡ ruled r n k

-- a call that comes as far as the reservation is answered 10 exactly where the row of its command has a conflict in the column of its sender, whatever
-- the command; only PERSISTENT RESERVE OUT, whose row has none, has conflicts of its own
abbrev pub CellsDecide : Build → Type 0
CellsDecide f =
    (k : Command) (s : Store) (c : Call) → AsksFor k c → T (not (is_out c)) → T (usable s) → by_itself s.format c ≡ Good → Quiet s c
    → (f s c).seen.answer ≡ Conflict ↔ T (conflict s.unit.rights c.nexus k)
