use Rattle.std.proofs.Common.{arith}
use Rattle.fields.proofs.PageLaws.{page_begun}
use Rattle.fields.proofs.page.Page.new.Goals as goal

pub invariant_of-result : goal.invariant_of-result
invariant_of-result g c = page_begun _ _ _ (omega arith) (omega arith)
