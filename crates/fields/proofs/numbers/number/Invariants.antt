-- `number`: the number of the bytes passed.
-- Assumes nothing.
use mathlib.Core.Path.{◌≡◌}
use Prim.Native.Nat.{◌^◌, ◌<◌}
use Rattle.fields.specs.Field.{field}
use Rattle.fields.proofs.numbers.number.Given as goal

abbrev pub invariant-loop-i : goal.invariant-loop-i
invariant-loop-i l = record { value : l.number ≡ field l.at l.i l.s; below : l.number < 256 ^ l.i }
