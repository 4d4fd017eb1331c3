-- The conflict rule as a table: a row for each command, a column for each reservation and sender. The rule in its own words stands below it.
-- Assumes nothing.
use Rattle.std.specs.Prelude.{Bool, true, false, not, ◌&&◌, ◌||◌, cond, List, [], ◌∷◌, ℕ, eqb, get_or, Option, Some, None}
use Rattle.rights.specs.declared.Rights.{Rights}
use Rattle.rights.specs.Places.{registered}
use Rattle.rights.specs.Rights.{is_one_of, is_type, holds}
use Rattle.forms.specs.declared.Tell.TheVariants.{Ready, Inquiry, VitalData, Capacity10, Capacity16, Keys, Reservation}
use Rattle.forms.specs.declared.Move.TheVariants.{Read, Write, WriteSame, Unmap, Status}
use Rattle.forms.specs.declared.Command.{Command}
use Rattle.forms.specs.declared.Command.TheVariants.{Tells, Moves, Alters}

-- ---- the columns, from the left

-- where a call falls in the table, by the reservation and its sender: in a column, counted from the left, or in none
abbrev pub Column : Type 0
Column = Option ℕ

-- Q-5: "columns per reservation and sender", in the words of the source's table: "From any I_T nexus": "Write Exclusive", "Exclusive Access"
abbrev pub any_write_exclusive : Column
any_write_exclusive = Some 0

abbrev pub any_exclusive_access : Column
any_exclusive_access = Some 1

-- "From registered I_T nexus (RR all types)"
abbrev pub registered_nexus : Column
registered_nexus = Some 2

-- "From I_T nexus not registered": "Write Exclusive - RR", "Exclusive Access - RR"
abbrev pub other_write_exclusive : Column
other_write_exclusive = Some 3

abbrev pub other_exclusive_access : Column
other_exclusive_access = Some 4

-- the column by the reservation's type and whether the sender is registered; where there is no reservation there is no column
unfoldable pub column_under : ℕ → Bool → Column
column_under kind known =
    cond (eqb kind 1) any_write_exclusive
    (cond (eqb kind 3) any_exclusive_access
    (cond (is_one_of kind (5 ∷ 7 ∷ [])) (cond known registered_nexus other_write_exclusive)
    (cond (is_one_of kind (6 ∷ 8 ∷ [])) (cond known registered_nexus other_exclusive_access) None)))

-- "A holder is never blocked": it has no column
unfoldable pub column_of : Rights → ℕ → Column
column_of r n = cond (holds r n) None (column_under r.kind (registered n r.places))

-- ---- the rows

abbrev pub Allowed : Bool
Allowed = false

abbrev pub Conflict : Bool
Conflict = true

abbrev pub cells : Bool → Bool → Bool → Bool → Bool → List Bool
cells a b c d e = a ∷ b ∷ c ∷ d ∷ e ∷ []

-- Q-5: "rows per command"; from any nexus: Write Exclusive, Exclusive Access; from a registered nexus: RR; from a nexus not registered:
-- Write Exclusive - RR, Exclusive Access - RR
unfoldable pub row : Command → List Bool
row (Moves Status) = cells Allowed Conflict Allowed Allowed Conflict  -- GET LBA STATUS
row (Tells Inquiry) = cells Allowed Allowed Allowed Allowed Allowed  -- INQUIRY
row (Tells VitalData) = cells Allowed Allowed Allowed Allowed Allowed  -- the same, of a page
row (Tells Keys) = cells Allowed Allowed Allowed Allowed Allowed  -- PERSISTENT RESERVE IN, READ KEYS
row (Tells Reservation) = cells Allowed Allowed Allowed Allowed Allowed  -- PERSISTENT RESERVE IN, READ RESERVATION
row (Alters action) = cells Allowed Allowed Allowed Allowed Allowed  -- PERSISTENT RESERVE OUT
row (Moves Read) = cells Allowed Conflict Allowed Allowed Conflict  -- READ
row (Tells Capacity10) = cells Allowed Allowed Allowed Allowed Allowed  -- READ CAPACITY (10)
row (Tells Capacity16) = cells Allowed Allowed Allowed Allowed Allowed  -- READ CAPACITY (16)
row (Tells Ready) = cells Allowed Allowed Allowed Allowed Allowed  -- TEST UNIT READY
row (Moves Unmap) = cells Conflict Conflict Allowed Conflict Conflict  -- UNMAP
row (Moves Write) = cells Conflict Conflict Allowed Conflict Conflict  -- WRITE
row (Moves WriteSame) = cells Conflict Conflict Allowed Conflict Conflict  -- WRITE SAME

-- what a row says in a column; without one, the command passes
unfoldable pub says : Column → List Bool → Bool
says None line = Allowed
says (Some column) line = get_or line column Allowed

unfoldable pub conflict : Rights → ℕ → Command → Bool
conflict r n k = says (column_of r n) (row k)

-- "A nexus for which READ conflicts is shut out."
unfoldable pub shut_out : Rights → ℕ → Bool
shut_out r n = conflict r n (Moves Read)

-- ---- the rule in 01's words; proofs/ConflictLaws: the table says the same of every rights, nexus and command

-- "A holder is never blocked; under 5 and 6 nor is a registered nexus."
unfoldable pub passes : Rights → ℕ → Bool
passes r n = holds r n || (is_one_of r.kind (5 ∷ 6 ∷ []) && registered n r.places)

-- "For all others: WRITE and UNMAP conflict under every type, READ under 3, 6, 8. … All other commands pass."
unfoldable pub stops : ℕ → Command → Bool
stops kind (Tells t) = false
stops kind (Moves Read) = is_one_of kind (3 ∷ 6 ∷ 8 ∷ [])
stops kind (Moves Write) = is_type kind
stops kind (Moves Unmap) = is_type kind
-- Q-1: "Conflicts: as WRITE and as READ."
stops kind (Moves WriteSame) = is_type kind
stops kind (Moves Status) = is_one_of kind (3 ∷ 6 ∷ 8 ∷ [])
stops kind (Alters a) = false

unfoldable pub ruled : Rights → ℕ → Command → Bool
ruled r n k = stops r.kind k && not (passes r n)
