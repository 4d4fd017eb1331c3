-- `decoder::tested` meets its contract. Assumes nothing.
use mathlib.Core.Path.{refl, sym, ◌∙◌}
use borrow.Author.Rules.{rules}
use Rattle.decoder.proofs.DecodingLaws.{tested_stops, tested_goes_on, tested_passes, size_is}
use Rattle.decoder.proofs.tested.Goals as goal
use Rattle.forms.specs.Tests.{test_checks}

pub is_wrong-requires : goal.is_wrong-requires
is_wrong-requires c = size_is _ _ _ c.request_of-request.ensures

pub loop-test-init : goal.loop-test-init
unfolding test_checks
loop-test-init c = refl

pub loop-test-preserved : goal.loop-test-preserved
loop-test-preserved c = tested_goes_on _ _ _ _ (search rules) c.loop-test.invariant (sym c.is_wrong.ensures ∙ c.if-is_wrong.false)

pub returns-then-is_wrong : goal.returns-then-is_wrong
returns-then-is_wrong c = rw c.refusal.ensures (tested_stops _ _ _ _ (search rules) c.loop-test.invariant (sym c.is_wrong.ensures ∙ c.if-is_wrong.true))

pub returns : goal.returns
returns c = tested_passes _ _ _ c.request_of-request.ensures _ (search rules) c.loop-test.invariant
