-- What the test of the places asks of each.
-- Assumes nothing.
use Rattle.std.specs.Prelude.{Bool, not, ◌&&◌, List}
use Rattle.rights.specs.declared.Place.{Place}
use Rattle.rights.specs.Rights.{place_ok}
use Rattle.rights.specs.Places.{used, registered}

-- a place that holds what it may, and whose nexus no later place has
unfoldable pub sound_before : Place → List Place → Bool
sound_before p ps = place_ok p && not (used p && registered p.nexus ps)
