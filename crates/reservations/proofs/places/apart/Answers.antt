-- `reservations::places::apart` meets its contract. Assumes nothing.
use Rattle.std.proofs.Common.{◌≡◌, ◌∷◌, length, rules}
use Rattle.reservations.proofs.SearchLaws.{apart_on, apart_end}
use Rattle.reservations.proofs.places.apart.Goals as goal

pub loop-place-preserved : goal.loop-place-preserved
loop-place-preserved c =
    let l = c.loop-place in
    let e : l.rest.now ≡ c.in-Some.place.now ∷ c.in-Some.later.now = search rules in
    rw c.is_sound-all.ensures (apart_on l.all _ _ _ _ e l.invariant)

pub returns : goal.returns
returns c =
    let l = c.loop-place in
    let e : length l.rest.now ≡ 0 = search rules in
    apart_end l.all _ _ e l.invariant
