use mathlib.Core.Path.{sym}
use native.Mathlib.Omega.{arith}
use borrow.Author.Tests.{le-ltb}
use Rattle.fields.proofs.BytesLaws.{zeros_replicate}
use Rattle.blocks.proofs.SameLaws.{same_zeros, same_block}
use Rattle.blocks.proofs.same.write_same.Goals as goal

pub returns-then-bit : goal.returns-then-bit
returns-then-bit c =
    let r = c.in-Some.ensures in
    record { leaves = same_zeros _ _ _ _ _ _ (le-ltb _ _ (omega (arith, r.0))) _ _ _ _ c.bit-may_unmap.ensures c.bit.ensures c.if-bit.true (sym (zeros_replicate 512)) (rw (r.1, r.2) at c.spread.ensures.leaves); refusing = c.spread.ensures.refusing }

pub returns : goal.returns
returns c =
    let r = c.in-Some.ensures in
    record { leaves = same_block _ _ _ _ _ _ (le-ltb _ _ (omega (arith, r.0))) _ _ _ c.bit-may_unmap.ensures c.bit.ensures c.if-bit.false c.if-data_out-lt-BLOCK_BYTES.false (rw (r.1, r.2) at c.spread-2.ensures.leaves); refusing = c.spread-2.ensures.refusing }
