-- `copy`: the bytes passed are those of the source.
-- Assumes nothing.
use mathlib.Core.Path.{◌∙◌}
use native.Mathlib.Omega.{arith}
use lib.ListN.{length-set}
use borrow.Author.Rules.{rules}
use Rattle.fields.proofs.BytesTurns.{copy_turn, copy_done}
use Rattle.fields.proofs.bytes.copy.Goals as goal

pub loop-i-preserved : goal.loop-i-preserved
loop-i-preserved c =
    let l = c.loop-i in
    (search rules, l.invariant.1, simp length-set l.invariant.2, copy_turn l.dst c.args.src.now l.i (omega arith) (omega arith) l.invariant.3)

pub returns : goal.returns
returns c =
    let l = c.loop-i in
    copy_done _ c.args.src.now l.i (l.invariant.2 ∙ c.requires) (omega arith) l.invariant.3
