-- `attentions::notices::send` meets its contract. Assumes nothing.
use Rattle.std.proofs.Common.{◌≡◌, ◌∙◌, arith, rules}
use Rattle.attentions.proofs.SendingLaws.{told_none, told_at, told_more, told_all}
use Rattle.attentions.proofs.notices.send.Goals as goal

pub loop-nexus-init : goal.loop-nexus-init
loop-nexus-init c = told_none _ _ _ _ _

pub loop-nexus-preserved : goal.loop-nexus-preserved
loop-nexus-preserved c =
    let a = c.args in
    let l = c.loop-nexus in
    simp (c.renewed.ensures, l.invariant, told_at) (told_more a.action a.before.now a.after.now a.sender l.nexus a.attentions _ (search rules))

pub returns : goal.returns
returns c =
    let l = c.loop-nexus in
    let e : l.nexus ≡ 16 = omega arith in
    l.invariant ∙ rw e (told_all _ _ _ _ 16 _ (search rules))
