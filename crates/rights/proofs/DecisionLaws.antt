-- What an action decides, by the parts of its order: the flags, then the keys and the action's own.
-- Assumes nothing.
use mathlib.Core.Path.{◌≡◌, sym, ◌∙◌}
use mathlib.Core.List.{List, ◌∷◌}
use Prim.Native.Nat.{ℕ}
use lib.Dec.{T}
use Rattle.answers.specs.declared.Answer.TheVariants.{Good, Conflict}
use Rattle.answers.specs.Order.{Row, ◌if◌, first, next, refuses, refusing, refusing_by}
use Rattle.answers.proofs.OrderLaws.{first_append, next_good, next_refuses, next_second}
use Rattle.rights.specs.declared.Rights.{Rights}
use Rattle.rights.specs.declared.Parameters.{Parameters}
use Rattle.rights.specs.declared.Action.{Action}
use Rattle.rights.specs.declared.Action.TheVariants.{Register, Reserve, Release, Clear, Preempt, RegisterIgnoring}
use Rattle.rights.specs.Actions.{register_flags, flag_rows, key_wrong, action_rows, decision_rows}

flags_refusing : (a : Action) (o : Parameters) → T (refusing (flag_rows a o))
unfolding flag_rows register_flags refusing_by refuses
flags_refusing Register o = tt
flags_refusing Reserve o = tt
flags_refusing Release o = tt
flags_refusing Clear o = tt
flags_refusing Preempt o = tt
flags_refusing RegisterIgnoring o = tt

module _ (a : Action) (r : Rights) (n : ℕ) (o : Parameters) where
  -- the keys, and the action's own
  abbrev later : List Row
  later = Conflict if key_wrong a r n o ∷ action_rows a r n o

  by_parts : first (decision_rows a r n o) ≡ next (first (flag_rows a o)) (first later)
  unfolding decision_rows
  by_parts = first_append (flag_rows a o) later (flags_refusing a o)

  -- a flag that is refused answers alone
  pub flags_refused : T (refuses (first (flag_rows a o))) → first (decision_rows a r n o) ≡ first (flag_rows a o)
  flags_refused t = by_parts ∙ next_refuses _ (first later) t

  pub flags_passed : first (flag_rows a o) ≡ Good → first (decision_rows a r n o) ≡ first (Conflict if key_wrong a r n o ∷ action_rows a r n o)
  flags_passed e = by_parts ∙ rw e (next_good (first later))

  -- where nothing refuses, neither does what comes after the flags
  pub later_good : first (decision_rows a r n o) ≡ Good → first (Conflict if key_wrong a r n o ∷ action_rows a r n o) ≡ Good
  later_good e = next_second (first (flag_rows a o)) (first later) (sym by_parts ∙ e)
