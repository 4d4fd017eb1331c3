-- Words of the contracts: where each command's row stands in the code's table, and whether a row has a conflict at all.
-- Assumes nothing.
use Rattle.std.specs.Prelude.{Bool, ◌||◌, List, ℕ, get_or}
use Rattle.forms.specs.declared.Tell.TheVariants.{Ready, Inquiry, VitalData, Capacity10, Capacity16, Keys, Reservation}
use Rattle.forms.specs.declared.Move.TheVariants.{Read, Write, WriteSame, Unmap, Status}
use Rattle.forms.specs.declared.Command.{Command}
use Rattle.forms.specs.declared.Command.TheVariants.{Tells, Moves, Alters}
use Rattle.store.specs.Conflict.{Allowed}

unfoldable pub number_of : Command → ℕ
number_of (Moves Status) = 0
number_of (Tells Inquiry) = 1
number_of (Tells VitalData) = 1
number_of (Tells Keys) = 2
number_of (Tells Reservation) = 3
number_of (Alters action) = 4
number_of (Moves Read) = 5
number_of (Tells Capacity10) = 6
number_of (Tells Capacity16) = 7
number_of (Tells Ready) = 8
number_of (Moves Unmap) = 9
number_of (Moves Write) = 10
number_of (Moves WriteSame) = 11

-- is there a conflict in a row
unfoldable pub somewhere : List Bool → Bool
somewhere cells =
    get_or cells 0 Allowed || get_or cells 1 Allowed || get_or cells 2 Allowed || get_or cells 3 Allowed || get_or cells 4 Allowed
