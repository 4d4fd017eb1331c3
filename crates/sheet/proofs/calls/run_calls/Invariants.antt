use mathlib.Core.Path.{◌≡◌}
use mathlib.Core.List.{◌++◌}
use Prim.Native.Nat.{◌+◌, ◌-◌, ◌*◌, ◌≤◌}
use lib.ListN.{length}
use Rattle.answers.specs.Sense.{fixed}
use Rattle.pool.specs.Bounds.{mark_words}
use Rattle.reply.specs.Contract.{store_of}
use Rattle.sheet.specs.Printed.{slots, lines_from, lines_of}
use Rattle.contents.specs.Contents.{bodies_end}
use Rattle.lines.specs.Most.{line_most}
use Rattle.sheet.proofs.calls.run_calls.Given as goal

abbrev pub invariant-loop-i : goal.invariant-loop-i
invariant-loop-i l = record {
  owners : length l.owners ≡ slots;
  marks : length l.marks ≡ mark_words;
  medium : length l.medium ≡ 512 * slots;
  most : length l.page ≤ length l.initial.page + line_most * l.i;
  bodies : bodies_end l.sheet l.i (l.n - l.i) l.at ≡ length l.sheet;
  lines : l.page ++ lines_from (store_of fixed l.unit l.owners l.marks l.medium) l.sheet l.i (l.n - l.i) l.at ≡ l.initial.page ++ lines_of l.sheet;
}
