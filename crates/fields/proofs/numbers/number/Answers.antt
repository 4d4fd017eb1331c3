-- `number`: the number of the bytes passed.
-- Assumes nothing.
use Prim.Native.Nat.{◌+◌, ◌*◌}
use native.Mathlib.Omega.{arith}
use borrow.Author.Rules.{rules}
use Rattle.fields.specs.Field.{field}
use Rattle.fields.proofs.FieldLaws.{field_next, below_more, below_64}
use Rattle.fields.proofs.numbers.number.Goals as goal

pub loop-i-init : goal.loop-i-init
unfolding field
loop-i-init c = search rules

pub overflow_mul-number : goal.overflow_mul-number
overflow_mul-number c =
    let l = c.loop-i in
    omega (arith, below_64 (l.i + 1) (l.number * 256 + 0) (omega arith) (below_more l.i l.number 0 l.invariant.below (omega arith)))

pub overflow_add-number : goal.overflow_add-number
overflow_add-number c =
    let l = c.loop-i in
    record { fits = below_64 (l.i + 1) _ (omega arith) (below_more l.i l.number c.from.result l.invariant.below (omega arith)) }

pub loop-i-preserved : goal.loop-i-preserved
loop-i-preserved c =
    let l = c.loop-i in
    record {
      value = simp (field_next, l.invariant.value, c.from.ensures, c.byte.ensures);
      below = below_more l.i l.number c.from.result l.invariant.below (omega arith);
    }
