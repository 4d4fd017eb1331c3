use Rattle.std.proofs.Common.{arith}
use Rattle.fields.proofs.PageLaws.{page_appended}
use Rattle.fields.proofs.page.Page.append.Goals as goal

pub invariant_of-self : goal.invariant_of-self
invariant_of-self g c = page_appended _ c.self.inside _ _ _ _ c.self.invariant c.self.view_is c.copy_from_slice.ensures.after c.requires (omega arith)
