-- `keys`: the keys of the places that are passed.
use mathlib.Core.Path.{◌≡◌}
use lib.ListN.{take}
use Rattle.rights.specs.Told.{keys}
use Rattle.told.proofs.keys.Given as goal

abbrev pub invariant-loop-place : goal.invariant-loop-place
invariant-loop-place l = l.page ≡ keys (take l.place-index l.places)
