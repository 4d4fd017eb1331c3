-- `attentions::notices::send` meets its contract. Assumes nothing.
use mathlib.Core.Path.{◌≡◌}
use Rattle.attentions.proofs.SendingLaws.{told}
use Rattle.attentions.proofs.notices.send.Given as goal

abbrev pub invariant-loop-nexus : goal.invariant-loop-nexus
invariant-loop-nexus l = l.all ≡ told l.fn.action l.fn.before l.fn.after l.fn.sender l.nexus l.initial.all
