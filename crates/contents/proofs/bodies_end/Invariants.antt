-- `bodies_end`: the bodies that are passed and those to come end where all end.
-- Assumes nothing.
use mathlib.Core.Path.{◌≡◌}
use Prim.Native.Nat.{◌+◌, ◌-◌, ◌*◌, ◌≤◌}
use Rattle.contents.specs.Contents.{calls, bodies_begin, bodies_end}
use Rattle.contents.proofs.bodies_end.Given as goal

abbrev pub invariant-loop-i : goal.invariant-loop-i
invariant-loop-i l = (l.at ≤ 1100 + l.i * 65790) × (bodies_end l.sheet l.i (calls l.sheet - l.i) l.at ≡ bodies_end l.sheet 0 (calls l.sheet) (bodies_begin l.sheet))
