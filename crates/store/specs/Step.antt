-- One call: the one order of tests, and what comes of it.
-- Assumes nothing.
use Rattle.std.specs.Prelude.{Bool, not, ◌&&◌, List, [], ◌∷◌, ◌++◌, ℕ, eqb, ltb, length}
use Rattle.fields.specs.Field.{byte}
use Rattle.answers.specs.declared.Answer.{Answer}
use Rattle.answers.specs.declared.Answer.TheVariants.{Refused, Conflict, Unusable}
use Rattle.answers.specs.Sense.{sense_bytes}
use Rattle.answers.specs.Order.{Row, ◌if◌, first}
use Rattle.rights.specs.declared.Rights.{Rights}
use Rattle.rights.specs.Bounds.{last_nexus}
use Rattle.rights.specs.Actions.{acted}
use Rattle.rights.specs.Attentions.{no_attention, refusal_of}
use Rattle.forms.specs.declared.Command.{Command}
use Rattle.forms.specs.declared.Command.TheVariants.{Tells, Moves, Alters}
use Rattle.forms.specs.declared.Request.{Request}
use Rattle.forms.specs.Forms.{Entry, entry_of, Asked, nothing, asks, asked_in}
use Rattle.forms.specs.Tests.{code_rows, length_rows, field_rows}
use Rattle.store.specs.declared.Unit.{Unit}
use Rattle.store.specs.Store.{Store, Call, Result, with_unit, with_pool, usable, waiting, enacted, refused_unit, leaves, seen_of}
use Rattle.store.specs.Tell.{told, tell_rows}
use Rattle.store.specs.Move.{move_rows, moved, fetched}
use Rattle.store.specs.Alter.{parameters_of, alter_rows}
use Rattle.store.specs.Conflict.{conflict}

-- ---- the order, stage by stage

-- "First 11: nexus above 15, empty CDB, sense buffer under 18 bytes"; Q-8: "sense needs 20 bytes … a shorter sense buffer there gives 11"
unfoldable pub call_rows : ℕ → Call → List Row
call_rows format c =
    Unusable if ltb last_nexus c.nexus
    ∷ Unusable if eqb (length c.cdb) 0
    ∷ Unusable if ltb (length c.sense) (sense_bytes format)
    ∷ []

-- "slots or capacity out of bounds, medium not 512 x slots bytes, invalid state"
unfoldable pub store_rows : Store → List Row
store_rows s = Unusable if not (usable s) ∷ []

-- Q-6: "The next command other than INQUIRY from that nexus": by its operation code, 12h, whatever else the CDB says
unfoldable pub is_inquiry : List ℕ → Bool
is_inquiry cdb = eqb (byte 0 cdb) 0x12

-- is what waits for a nexus due with this CDB
unfoldable pub due : Unit → ℕ → List ℕ → Bool
due u n cdb = not (eqb (waiting u n) no_attention) && not (is_inquiry cdb)

-- "Refusals: 13, …, after the CDB length test and before 2."
unfoldable pub attention_rows : Unit → ℕ → List ℕ → List Row
attention_rows u n cdb = Refused (refusal_of (waiting u n)) if due u n cdb ∷ []

-- "READ: 10, … WRITE: 10, … UNMAP: 10; …": the row of the command decides
unfoldable pub guard_rows : Asked → Rights → ℕ → List Row
guard_rows nothing r n = []
guard_rows (asks q) r n = Conflict if conflict r n q.command ∷ []

-- "Then 1. Then 11 again …. Then 2: …", with Q-6's 13 between, and the 10 of the conflict table
unfoldable pub stage_rows : Entry → Unit → ℕ → List ℕ → List Row
stage_rows e u n cdb =
    code_rows e ++ (length_rows e cdb ++ (attention_rows u n cdb ++ (field_rows e cdb ++ guard_rows (asked_in e cdb) u.rights n)))

-- "Then:" each command's own
unfoldable pub command_rows : Command → Request → Store → Call → List Row
command_rows (Tells t) q s c = tell_rows t q s.unit c.data_in
command_rows (Moves m) q s c = move_rows m q s.unit.capacity s.pool c
command_rows (Alters a) q s c = alter_rows a q s.unit.rights c.nexus c.data_out

unfoldable pub own_rows : Asked → Store → Call → List Row
own_rows nothing s c = []
own_rows (asks q) s c = command_rows q.command q s c

unfoldable pub answer_by : Entry → Store → Call → Answer
answer_by e s c =
    first (call_rows s.format c ++ (store_rows s ++ (stage_rows e s.unit c.nexus c.cdb ++ own_rows (asked_in e c.cdb) s c)))

-- ---- what comes of a call that nothing refuses

-- the bytes returned
unfoldable pub command_data : Command → Request → Store → List ℕ
command_data (Tells t) q s = told t q s.unit
command_data (Moves m) q s = fetched m q s.unit.capacity s.pool
command_data (Alters a) q s = []

unfoldable pub data_by : Asked → Store → List ℕ
data_by nothing s = []
data_by (asks q) s = command_data q.command q s

-- the store: a command that tells changes nothing, one that moves changes the pool alone, one that alters changes the rights, and what waits for others
unfoldable pub command_store : Command → Request → Store → Call → Store
command_store (Tells t) q s c = s
command_store (Moves m) q s c = with_pool s (moved m q s.pool c)
command_store (Alters a) q s c =
    with_unit s (enacted a c.nexus s.unit (acted a s.unit.rights c.nexus (parameters_of q c.data_out)))

unfoldable pub store_by : Asked → Store → Call → Store
store_by nothing s c = s
store_by (asks q) s c = command_store q.command q s c

-- ---- the step

unfoldable pub step_by : Entry → Store → Call → Result
step_by e s c = record {
  seen = seen_of s.format (answer_by e s c) (data_by (asked_in e c.cdb) s) c;
  store = leaves (answer_by e s c) (store_by (asked_in e c.cdb) s c) (with_unit s (refused_unit (answer_by e s c) c.nexus s.unit));
}

unfoldable pub step : Store → Call → Result
step s c = step_by (entry_of c.cdb) s c

-- the answer alone
unfoldable pub answer_to : Store → Call → Answer
answer_to s c = answer_by (entry_of c.cdb) s c
