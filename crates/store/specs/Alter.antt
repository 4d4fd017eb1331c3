-- PERSISTENT RESERVE OUT: its tests see the rights alone.
-- Assumes nothing.
use Rattle.std.specs.Prelude.{not, List, ◌∷◌, ℕ, eqb, ltb, length}
use Rattle.fields.specs.Field.{field, byte}
use Rattle.fields.specs.Bits.{number_in}
use Rattle.answers.specs.declared.Answer.TheVariants.{Short}
use Rattle.answers.specs.Answers.{list_length}
use Rattle.answers.specs.Order.{Row, ◌if◌}
use Rattle.rights.specs.declared.Rights.{Rights}
use Rattle.rights.specs.declared.Action.{Action}
use Rattle.rights.specs.declared.Parameters.{Parameters}
use Rattle.rights.specs.Actions.{service_key_bits, flags_byte, decision_rows}
use Rattle.forms.specs.declared.Request.{Request}
use Rattle.forms.specs.Forms.{list_length_in}

-- "List: key 0-7, service action key 8-15, byte 20 bits 3, 2, 0"; the type stands in the CDB
unfoldable pub parameters_of : Request → List ℕ → Parameters
parameters_of q list = record { kind = q.kind; key = field 0 8 list; service = number_in service_key_bits list; flags = byte flags_byte list }

-- "4 unless the length is 24; 12; 5 for flags; 10 for keys; then the action's own"
unfoldable pub alter_rows : Action → Request → Rights → ℕ → List ℕ → List Row
alter_rows a q r nexus data_out =
    list_length if not (eqb (list_length_in q) 24)
    ∷ Short if ltb (length data_out) 24
    ∷ decision_rows a r nexus (parameters_of q data_out)
