-- The tests so far have passed, so the others decide.
use Rattle.decoder.proofs.DecodingLaws.{Passed}
use Rattle.decoder.proofs.tested.Given as goal

abbrev pub invariant-loop-test : goal.invariant-loop-test
invariant-loop-test l = Passed l.form l.cdb l.test-index
