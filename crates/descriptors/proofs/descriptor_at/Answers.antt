-- `descriptor_at`: its two fields are numbers of the list.
-- Assumes nothing.
use Rattle.descriptors.specs.Descriptors.{descriptor_at}
use Rattle.descriptors.proofs.descriptor_at.Goals as goal

pub returns : goal.returns
unfolding descriptor_at
returns c = λ i. record { address = record { 0 = c.number.ensures.0 i }; count = c.number-2.ensures.0 i }
