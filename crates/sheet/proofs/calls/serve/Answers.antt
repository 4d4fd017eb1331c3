use mathlib.Core.Path.{ap, ◌∙◌}
use mathlib.Core.List.{List, ◌++◌}
use Prim.Native.Nat.{ℕ}
use native.Mathlib.Omega.{arith}
use Rattle.sheet.specs.Printed.{seen_line}
use Rattle.contents.specs.Contents.{body_end}
use Rattle.sheet.proofs.CallLaws.{call_is, served_store, served_line, returned_most}
use Rattle.sheet.proofs.calls.serve.Goals as goal

pub overflow_add-middle : goal.overflow_add-middle
unfolding body_end
overflow_add-middle c = omega (arith, (c.requires.1), (c.requires.2), c.cdb_length.ensures.0)

pub overflow_add-last : goal.overflow_add-last
unfolding body_end
overflow_add-last c = omega (arith, c.requires.1, c.requires.2, c.cdb_length.ensures.0, c.out_length.ensures.0)

pub slice_bounds-execute-end : goal.slice_bounds-execute-end
unfolding body_end
slice_bounds-execute-end c = omega (arith, c.requires.1, c.cdb_length.ensures.0)

pub slice_bounds-execute-end-2 : goal.slice_bounds-execute-end-2
unfolding body_end
slice_bounds-execute-end-2 c =
    omega (arith, c.requires.1, c.cdb_length.ensures.0, c.out_length.ensures.0)

pub overflow_add-i : goal.overflow_add-i
overflow_add-i c = omega (arith, c.requires.0)

pub append_line-requires : goal.append_line-requires
append_line-requires c =
    let r = returned_most _ _ _ _ _ _ (c.execute-outcome.ensures) in
    (omega arith, (omega (arith, c.requires.0), omega (arith, r), omega (arith, r), omega (arith, c.requires.3)))

pub returns : goal.returns
unfolding seen_line
returns c =
    let q = call_is _ _ (c.args.at) _ _ _ (c.nexus_of-nexus.ensures) c.cdb_length.ensures.0 c.out_length.ensures.0 in
    record {
      left = served_store _ _ _ _ (c.execute-outcome.ensures) q;
      line = c.append_line.ensures.0 ∙ ap (λ (l : List ℕ). c.args.page.now ++ l) (served_line _ _ _ _ (c.execute-outcome.ensures) q _);
      most = omega (arith, c.append_line.ensures.1);
    }
