-- `put_line`: the fields one behind the other.
-- Assumes nothing.
use borrow.Author.Rules.{rules}
use Rattle.text.proofs.PutsLaws.{puts_then}
use Rattle.lines.specs.Line.{line_of}
use Rattle.lines.proofs.put_line.Goals as goal

pub returns : goal.returns
unfolding line_of
returns c = (
  rw (← c.number_of.ensures)
      (puts_then c.put_number-a.ensures.0
      (puts_then c.put_next_number-b.ensures.0
      (puts_then c.put_status-c.ensures.0
      (puts_then c.put_sense-d.ensures.0
      (puts_then c.put_next_number-e.ensures.0 (puts_then c.put_data-f.ensures.0 c.put_line_feed.ensures.0)))))),
  search rules,
)
