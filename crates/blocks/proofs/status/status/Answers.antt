use Rattle.blocks.proofs.StatusLaws.{page_cut, status_given}
use borrow.Author.Rules.{rules}
use Rattle.blocks.proofs.status.status.Goals as goal

pub slice_bounds-give-end : goal.slice_bounds-give-end
slice_bounds-give-end c = page_cut _ _ _ _ _ _ c.put_status-n.ensures.0 (search rules) c.put_status-n.ensures.1

pub returns : goal.returns
returns c = record { leaves = status_given _ _ _ _ _ _ c.put_status-n.ensures.0 (search rules) c.put_status-n.ensures.1 _ _ _ c.if-capacity-lba.false c.give.ensures.leaves; refusing = c.give.ensures.refusing }
