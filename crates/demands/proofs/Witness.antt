-- Demand 3 is about something, by computation: two stores and histories that differ and of which it speaks.
-- Assumes nothing.
use mathlib.Core.Path.{◌≡◌, refl, sym, ◌∙◌}
use mathlib.Core.Bool.{not, ◌&&◌}
use mathlib.Core.List.{[], ◌∷◌}
use lib.Dec.{T}
use Rattle.store.specs.Store.{usable}
use Rattle.store.specs.Step.{step}
use Rattle.demands.specs.History.{watched, heard}
use Rattle.demands.specs.Checker.{same}
use Rattle.demands.specs.Witness.{left, right, left_calls, right_calls, kept_calls, numbers, lengths}
use Rattle.demands.proofs.Computing.{meaning}

-- the premises of demand 3 hold of them
pub witness_usable : T (usable left && usable right)
unfolding meaning left right
witness_usable = tt

pub witness_unit : left.unit ≡ right.unit
unfolding meaning left right
witness_unit = refl

watched_left : watched step left left_calls ≡ kept_calls
unfolding meaning left left_calls kept_calls
watched_left = refl

watched_right : watched step right right_calls ≡ kept_calls
unfolding meaning right right_calls kept_calls
watched_right = refl

pub witness_watched : watched step left left_calls ≡ watched step right right_calls
witness_watched = watched_left ∙ sym watched_right

-- and what is heard is something: a conflict, GOOD, the two keys, a registration, a conflict
pub witness_heard : numbers (heard step left left_calls) ≡ 10 ∷ 0 ∷ 0 ∷ 0 ∷ 10 ∷ []
unfolding meaning left right left_calls right_calls numbers
witness_heard = refl

pub witness_returned : lengths (heard step left left_calls) ≡ 0 ∷ 0 ∷ 24 ∷ 0 ∷ 0 ∷ []
unfolding meaning left right left_calls right_calls lengths
witness_returned = refl

-- the stores differ
pub witness_pools : T (not (same left.pool.owners right.pool.owners))
unfolding meaning left right
witness_pools = tt
