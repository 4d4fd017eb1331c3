-- When the generation rises, as a call shows it.
-- Assumes nothing.
use Rattle.std.specs.Prelude.{Bool, not, ◌&&◌, [], ◌∷◌, ℕ, eqb}
use Rattle.fields.specs.Field.{field}
use Rattle.rights.specs.Places.{registered}
use Rattle.rights.specs.Rights.{is_one_of}
use Rattle.forms.specs.Forms.{action}
use Rattle.store.specs.Store.{Store, Call}
use Rattle.demands.specs.History.{is_out}

unfoldable pub generation : Store → ℕ
generation s = s.unit.rights.generation

-- "service action key 8-15"
unfoldable pub service_key : Call → ℕ
service_key c = field 8 8 c.data_out

-- "actions 0, 3, 4, 6, save where an unregistered nexus sends service action key 0 in 0 or 6"
unfoldable pub action_raises : ℕ → Bool → Bool → Bool
action_raises number is_registered is_zero =
    is_one_of number (0 ∷ 3 ∷ 4 ∷ 6 ∷ []) && not (is_one_of number (0 ∷ 6 ∷ []) && not is_registered && is_zero)

-- a reservation-out call that raises the generation where it is GOOD
unfoldable pub raising : Store → Call → Bool
raising s c = is_out c && action_raises (action c.cdb) (registered c.nexus s.unit.rights.places) (eqb (service_key c) 0)
