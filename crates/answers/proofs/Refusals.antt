-- What the code learns where an answer is not the first of its cases: it refuses.
-- Assumes nothing.
use Rattle.std.proofs.Common.{◌≢◌, refl}
use mathlib.Core.Logic.{inl, inr}
use mathlib.Core.List.{[], ◌∷◌}
use native.Mathlib.Omega.{arith}
use lib.Dec.{T}
use types.Run.{OneOf}
use denote.Enum.Declared.{tag_of}
use Rattle.answers.specs.contracts.Answer.{the_type}
use Rattle.answers.specs.declared.Answer.{Answer}
use Rattle.answers.specs.declared.Answer.TheVariants.{Good, Refused, Conflict, Unusable, Short}
use Rattle.answers.specs.Order.{refuses}

pub tag_refuses : (a : Answer) → OneOf (1 ∷ 2 ∷ 3 ∷ 4 ∷ []) (tag_of the_type a) → T (refuses a)
unfolding refuses
tag_refuses Good (inl e) = absurd (omega arith)
tag_refuses Good (inr (inl e)) = absurd (omega arith)
tag_refuses Good (inr (inr (inl e))) = absurd (omega arith)
tag_refuses Good (inr (inr (inr e))) = absurd (omega arith)
tag_refuses (Refused s) k = tt
tag_refuses Conflict k = tt
tag_refuses Unusable k = tt
tag_refuses Short k = tt

pub refuses_but_good : (a : Answer) → a ≢ Good → T (refuses a)
unfolding refuses
refuses_but_good Good k = absurd (k refl)
refuses_but_good (Refused s) k = tt
refuses_but_good Conflict k = tt
refuses_but_good Unusable k = tt
refuses_but_good Short k = tt
