-- `free_all`: as many zeros as there are slots.
-- Assumes nothing.
use Rattle.std.proofs.Common.{◌∙◌, sym, length, rules}
use Rattle.fields.proofs.BytesLaws.{zeros_replicate}
use Rattle.map.proofs.slots.free_all.Goals as goal

pub returns : goal.returns
returns c = c.fill.ensures.after (λ y e. search rules) ∙ sym (zeros_replicate (length c.args.owners.now))
