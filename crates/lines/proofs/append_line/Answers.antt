-- `append_line`: the line stands at the front of the bytes that it was put into.
-- Assumes nothing.
use mathlib.Core.Path.{ap, ◌∙◌}
use mathlib.Core.List.{List, ◌++◌}
use Prim.Native.Nat.{ℕ}
use native.Mathlib.Omega.{arith}
use lib.ListN.{length, length-append, length-take}
use Rattle.text.proofs.PutsLaws.{puts_front}
use Rattle.lines.proofs.append_line.Goals as goal

pub returns : goal.returns
returns g c = (
  c.append.ensures ∙ ap (λ (t : List ℕ). c.args.page.now ++ t) (puts_front c.put_line-end.ensures.0 (omega (arith, c.put_line-end.ensures.1))),
  omega (arith, simp (length-append, length-take) at (ap length c.append.ensures), c.put_line-end.ensures.1),
)
