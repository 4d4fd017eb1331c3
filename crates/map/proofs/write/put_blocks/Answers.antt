-- `put_blocks`: the bytes of the blocks passed are at their places, those left are to be put.
-- Assumes nothing.
use Rattle.std.proofs.Common.{◌≡◌, ◌+◌, ◌*◌, ◌≤◌, length, get_or, sym, ap, ◌∙◌, arith, rules}
use Rattle.fields.specs.Bytes.{part}
use Rattle.fields.proofs.BytesLaws.{length_part}
use Rattle.pool.specs.Bounds.{block_bytes}
use Rattle.map.proofs.Blocks.{part_is, put_turn, put_end}
use Rattle.map.proofs.write.put_blocks.Goals as goal

pub loop-k-preserved : goal.loop-k-preserved
loop-k-preserved c =
    let a = c.args in
    let l = c.loop-k in
    let h = c.loop-k-test.true in
    let b : block_bytes * get_or a.index.now l.k 0 + block_bytes ≤ length a.medium.now = c.requires.3 l.k h in
    let w = c.requires.5 l.k h in
    let e : c.copy.new.dst ≡ part a.bytes.now (a.step * l.k) block_bytes = c.copy.ensures ∙ part_is (a.step * l.k) block_bytes a.bytes.now in
    let s = ap length e ∙ length_part a.bytes.now (a.step * l.k) block_bytes (omega arith) in
    (search rules, λ source x. put_turn a.index.now l.medium source a.count l.k c.requires.1 _ h (omega arith) s (e ∙ sym (x.each l.k h)) ∙ l.invariant.1 source x)

pub returns : goal.returns
returns c source x =
    let a = c.args in
    let l = c.loop-k in
    sym (put_end a.index.now l.medium source a.count l.k c.requires.1 (omega arith)) ∙ l.invariant.1 source x
