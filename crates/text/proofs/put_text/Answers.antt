-- `put_text`: the part that is lent comes back as the text.
-- Assumes nothing.
use mathlib.Core.Path.{refl}
use Rattle.text.proofs.PutsLaws.{part_put}
use Rattle.text.proofs.put_text.Goals as goal

pub returns : goal.returns
returns c = record {
  bytes = part_put _ _ _ _ c.requires c.copy.ensures;
  behind = refl;
}
