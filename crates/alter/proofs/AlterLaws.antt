-- PERSISTENT RESERVE OUT by the ways through its rows.
-- Assumes nothing.
use mathlib.Core.Path.{◌≡◌, ◌∙◌}
use mathlib.Core.List.{List}
use Prim.Native.Nat.{ℕ, ◌≤◌, ◌<◌}
use lib.ListN.{length}
use borrow.Author.Tests.{lt-ltb, le-ltb, eq-eqb, ne_eqb}
use Rattle.std.specs.Prelude.{Err}
use Rattle.answers.specs.declared.Answer.{Answer}
use Rattle.answers.specs.declared.Answer.TheVariants.{Short}
use Rattle.answers.specs.Answers.{list_length}
use Rattle.answers.specs.Order.{first, if_good_by, refuses}
use Rattle.answers.proofs.OrderLaws.{row_pass, row_stop}
use Rattle.rights.specs.declared.Rights.{Rights}
use Rattle.rights.specs.declared.Action.{Action}
use Rattle.rights.specs.Actions.{decision_rows, decided}
use Rattle.forms.specs.declared.Request.{Request}
use Rattle.store.specs.Alter.{parameters_of, alter_rows}
use Rattle.alter.specs.Altered.{altered}

module _ (a : Action) (q : Request) (r : Rights) (nexus : ℕ) (out : List ℕ) where
  length_row : (q.size ≡ 24 → ⊥) → first (alter_rows a q r nexus out) ≡ list_length
  unfolding alter_rows
  length_row h = row_stop list_length _ _ (rw (ne_eqb q.size 24 h))

  short_row : q.size ≡ 24 → length out < 24 → first (alter_rows a q r nexus out) ≡ Short
  unfolding alter_rows
  short_row e h = row_pass list_length _ _ (rw (eq-eqb q.size 24 e)) ∙ row_stop Short _ _ (lt-ltb (length out) 24 h)

  decision_row : q.size ≡ 24 → 24 ≤ length out → first (alter_rows a q r nexus out) ≡ first (decision_rows a r nexus (parameters_of q out))
  unfolding alter_rows
  decision_row e h = row_pass list_length _ _ (rw (eq-eqb q.size 24 e)) ∙ row_pass Short _ _ (le-ltb (length out) 24 h)

  pub alter_length : (x : Answer) → x ≡ list_length → (q.size ≡ 24 → ⊥) → Err x ≡ altered a q r nexus out
  unfolding altered if_good_by refuses
  alter_length x e h = rw (e, length_row h)

  pub alter_short : q.size ≡ 24 → length out < 24 → Err Short ≡ altered a q r nexus out
  unfolding altered if_good_by refuses
  alter_short e h = rw (short_row e h)

  pub alter_decided : q.size ≡ 24 → 24 ≤ length out → decided a r nexus (parameters_of q out) ≡ altered a q r nexus out
  unfolding altered decided
  alter_decided e h = rw (decision_row e h)
