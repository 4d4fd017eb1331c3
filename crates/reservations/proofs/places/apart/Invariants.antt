-- `reservations::places::apart` meets its contract. Assumes nothing.
use Rattle.std.proofs.Common.{◌≡◌, ◌&&◌, length}
use Rattle.rights.specs.Rights.{places_apart}
use Rattle.reservations.proofs.places.apart.Given as goal

abbrev pub invariant-loop-place : goal.invariant-loop-place
invariant-loop-place l = (l.all && places_apart l.rest) ≡ places_apart l.fn.places

abbrev pub decreases-loop-place : goal.decreases-loop-place
decreases-loop-place l = length l.rest
