use Rattle.fields.proofs.PageLaws.{page_pushed}
use Rattle.fields.proofs.page.Page.push.Goals as goal

pub invariant_of-self : goal.invariant_of-self
invariant_of-self g c = page_pushed _ c.self.inside _ _ c.self.invariant c.self.view_is c.requires
