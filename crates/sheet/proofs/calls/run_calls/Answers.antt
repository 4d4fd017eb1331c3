use mathlib.Core.Path.{refl, ◌∙◌}
use Prim.Native.Nat.{◌≤◌}
use native.Mathlib.Omega.{arith}
use Rattle.contents.specs.Contents.{most_calls}
use Rattle.contents.proofs.Bodies.{good_calls, good_length, body_begins, body_ends, bodies_begin_law}
use Rattle.contents.proofs.Turns.{bodies_turn}
use Rattle.sheet.proofs.CallLaws.{fresh_store_law, come_begin, come_turn, come_done}
use borrow.Author.Rules.{rules}
use Rattle.sheet.proofs.calls.run_calls.Goals as goal

pub loop-i-init : goal.loop-i-init
loop-i-init c = record {
  owners = search rules;
  marks = search rules;
  medium = refl;
  most = omega arith;
  bodies = bodies_begin_law _ _ _ c.requires.0 c.calls_in-n.ensures c.bodies_begin-at.ensures.0;
  lines = come_begin _ _ _ _ _ c.calls_in-n.ensures c.bodies_begin-at.ensures.0 (fresh_store_law _ _ _ _ c.fresh_unit-unit.ensures.0 c.fresh_unit-unit.ensures.1 c.fresh_unit-unit.ensures.2 refl);
}

pub serve-requires : goal.serve-requires
serve-requires c =
    let n : c.calls_in-n.result ≤ most_calls = omega (arith, good_calls _ c.requires.0, c.calls_in-n.ensures) in (
      omega (arith, n, c.loop-i-test.true),
      body_ends _ _ _ _ c.loop-i.invariant.bodies c.loop-i-test.true,
      good_length _ c.requires.0,
      omega (arith, n, c.loop-i-test.true, c.loop-i.invariant.most, c.requires.1),
    )

pub body_end-at-requires : goal.body_end-at-requires
body_end-at-requires c = omega (arith, good_length _ c.requires.0, body_begins _ _ _ _ c.loop-i.invariant.bodies)

pub loop-i-preserved : goal.loop-i-preserved
loop-i-preserved c = record {
  owners = search rules;
  marks = search rules;
  medium = search rules;
  most = omega (arith, c.loop-i.invariant.most, c.serve.ensures.most);
  bodies = bodies_turn _ _ _ _ _ c.loop-i-test.true c.body_end-at.ensures.0 ∙ c.loop-i.invariant.bodies;
  lines = come_turn _ _ _ _ _ _ _ _ _ _ c.loop-i-test.true c.body_end-at.ensures.0 c.serve.ensures.left c.serve.ensures.line c.loop-i.invariant.lines;
}

pub returns : goal.returns
returns c = record {
  lines = come_done _ _ _ _ _ _ _ c.loop-i-test.false c.loop-i.invariant.lines;
  most = omega (arith, good_calls _ c.requires.0, c.calls_in-n.ensures, c.loop-i.auto, c.loop-i.invariant.most);
}
