-- `sound`: no slot passed is beyond the capacity, no two name the same block, each is in the chain of its bucket, and the marks are those
-- of the slots passed. Assumes nothing.
use mathlib.Core.Path.{◌∙◌, sym}
use Rattle.audit.proofs.Chains.{passed_none, passed_free, passed_beyond, passed_chain, passed_named, passed_new, passed_all}
use Rattle.audit.proofs.Words.{made_none, made_free, made_used, made_all, made_passed, agreed_none, agreed_more, agreed_all, agreed_not, other_words, both_right, map_wrong, marks_wrong}
use borrow.Author.Rules.{rules}
use native.Mathlib.Omega.{arith}
use Rattle.audit.proofs.sound.Goals as goal
use Rattle.audit.proofs.sound.Goals.{then-x-ne0+else-x-capacity+else-named_before, else-x-ne0}

pub returns-then-marks-ne-MARK_WORDS : goal.returns-then-marks-ne-MARK_WORDS
returns-then-marks-ne-MARK_WORDS c = marks_wrong _ _ _ (other_words _ _ c.if-marks-ne-MARK_WORDS.true)

pub loop-word-init : goal.loop-word-init
loop-word-init c = (search rules, passed_none, agreed_none)

pub loop-i-init : goal.loop-i-init
loop-i-init c = (c.loop-word.invariant.1, made_none)

pub returns-then-x-capacity : goal.returns-then-x-capacity
returns-then-x-capacity c = map_wrong _ _ _ (passed_beyond c.loop-i.invariant.0 (search rules) c.if-x-capacity.true)

pub named_before-requires : goal.named_before-requires
named_before-requires c = passed_chain c.loop-i.invariant.0 (search rules) c.if-x-ne0.true c.bucket_of-bucket.ensures.number c.requires

pub returns-then-named_before : goal.returns-then-named_before
returns-then-named_before c = map_wrong _ _ _ (passed_named c.loop-i.invariant.0 (search rules) c.if-x-ne0.true (sym c.named_before.ensures ∙ c.if-named_before.true))

pub loop-i-preserved : goal.loop-i-preserved
loop-i-preserved c =
    let p = c.loop-i.invariant in
    let ends = c.min-end.ensures in
    let below = c.loop-i-test.true in
    elim c.if-x-ne0.branch [
      | then-x-ne0+else-x-capacity+else-named_before w ↦ rw (w.last-is, w.earlier-is, w.made-is) (
        passed_new p.0 (search rules) w.if-x-ne0.true w.bucket_of-bucket.ensures.number c.requires w.if-x-capacity.false (rw w.named_before.ensures at w.if-named_before.false),
        rw w.with_bit-made.ensures (made_used p.1 ends below w.if-x-ne0.true),
      )
      | else-x-ne0 w ↦ rw (w.last-is, w.earlier-is, w.made-is) (passed_free p.0 w.if-x-ne0.false, made_free p.1 ends below w.if-x-ne0.false)
    ]

pub returns-then-made-marks : goal.returns-then-made-marks
returns-then-made-marks c =
    marks_wrong _ _ _ (agreed_not c.loop-word.invariant.2 c.requires (omega arith) (λ e. c.if-made-marks.true (made_all c.loop-i.invariant.1 c.min-end.ensures c.loop-i-test.false ∙ sym e)))

pub loop-word-preserved : goal.loop-word-preserved
loop-word-preserved c = (
  search rules,
  made_passed c.loop-i.invariant.1 c.min-end.ensures c.loop-i-test.false c.loop-i.invariant.0,
  agreed_more c.loop-word.invariant.2 (sym c.if-made-marks.false ∙ made_all c.loop-i.invariant.1 c.min-end.ensures c.loop-i-test.false),
)

pub returns : goal.returns
returns c =
    both_right _ _ _ (passed_all c.loop-word.invariant.1 (search rules)) (agreed_all c.loop-word.invariant.2 c.requires c.loop-word-test.false c.if-marks-ne-MARK_WORDS.false)
