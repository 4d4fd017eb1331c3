-- Histories: what happens to a machine, one thing after another, and what is heard of it by those who are shut out from reading. Of any machine,
-- so that another engine, and useless builds, can be put in.
-- Assumes nothing.
use Rattle.std.specs.Prelude.{Bool, true, false, not, ◌&&◌, ◌||◌, List, [], ◌∷◌, map, ℕ, eqb, leb}
use Rattle.fields.specs.Field.{byte}
use Rattle.rights.specs.Bounds.{last_nexus}
use Rattle.store.specs.declared.Unit.{Unit}
use Rattle.store.specs.Store.{Store, Call, Seen, Result, usable, waiting}
use Rattle.store.specs.Conflict.{shut_out}

-- ---- machines

-- what can happen to a machine: somebody calls
pub data Event : Type 0 where
  call : Call → Event

pub record Machine : Type 1 where
  -- its states; what everybody may know of one, the format of its sense and the unit's record; and whether it can be used
  pub State : Type 0
  pub format : State → ℕ
  pub unit : State → Unit
  pub usable : State → Bool
  -- what the caller sees of a call
  pub Sight : Type 0
  pub seen : State → Call → Sight
  -- the state after an event
  pub next : State → Event → State

-- a build: what it makes of each call on each store
abbrev pub Build : Type 0
Build = Store → Call → Result

-- the store after a call
unfoldable pub after : Build → Store → Call → Store
after f s c = (f s c).store

-- and after an event
unfoldable pub after_event : Build → Store → Event → Store
after_event f s (call c) = after f s c

-- a build is a machine whose states are stores
abbrev pub machine : Build → Machine
machine f = record {
  State = Store;
  format = λ s. s.format;
  unit = λ s. s.unit;
  usable = usable;
  Sight = Seen;
  seen = λ s c. (f s c).seen;
  next = after_event f;
}

-- ---- which calls two histories must share

-- a reservation-out call: by its operation code, 5Fh, whatever its action
unfoldable pub is_out : Call → Bool
is_out c = eqb (byte 0 c.cdb) 0x5F

-- may its caller not read
unfoldable pub is_shut_out : Store → Call → Bool
is_shut_out s c = shut_out s.unit.rights c.nexus

-- "nexus numbers | 0 to 15": a caller above that is nobody, and histories need not share its calls
unfoldable pub is_somebody : Call → Bool
is_somebody c = leb c.nexus last_nexus

-- Q-6: "calls by a nexus with one waiting"
unfoldable pub is_waited_for : Unit → Call → Bool
is_waited_for u c = not (eqb (waiting u c.nexus) 0)

-- "reservation-out calls and … calls by nexuses then shut out from reading"; Q-6: "and asks that calls by a nexus with one waiting agree too"
unfoldable pub is_kept : Unit → Call → Bool
is_kept u c = is_somebody c && (is_out c || (shut_out u.rights c.nexus || is_waited_for u c))

abbrev pub kept : Store → Call → Bool
kept s c = is_kept s.unit c

-- ---- histories

-- the state after all of them
unfoldable pub after_all : (m : Machine) → m.State → List Event → m.State
after_all m s [] = s
after_all m s (e ∷ es) = after_all m (m.next s e) es

-- all that the callers see, call by call
unfoldable pub seen_all : (m : Machine) → m.State → List Event → List m.Sight
seen_all m s [] = []
seen_all m s (call c ∷ es) = m.seen s c ∷ seen_all m (m.next s (call c)) es

-- a list with one more in front, if so
unfoldable pub add : {A : Type 0} → Bool → A → List A → List A
add true x xs = x ∷ xs
add false x xs = xs

-- of a history from s on, the calls that are kept, whole: who, CDB, data-out, and the buffers lent
unfoldable pub watched_on : (m : Machine) → m.State → List Event → List Call
watched_on m s [] = []
watched_on m s (call c ∷ es) = add (is_kept (m.unit s) c) c (watched_on m (m.next s (call c)) es)

-- and what their callers see: answer, returned bytes, data and sense buffers
unfoldable pub heard_on : (m : Machine) → m.State → List Event → List m.Sight
heard_on m s [] = []
heard_on m s (call c ∷ es) = add (is_kept (m.unit s) c) (m.seen s c) (heard_on m (m.next s (call c)) es)

-- what is heard of calls one after another, each on a state of which nothing is taken but what everybody may know: `plain` makes one of it
unfoldable pub replay : (m : Machine) → (ℕ → Unit → m.State) → ℕ → Unit → List Call → List m.Sight
replay m plain format u [] = []
replay m plain format u (c ∷ cs) = m.seen (plain format u) c ∷ replay m plain format (m.unit (m.next (plain format u) (call c))) cs

-- ---- the same of a build, where nothing happens but calls

unfoldable pub watched : Build → Store → List Call → List Call
unfolding after_event is_somebody is_waited_for is_kept watched_on
watched f s cs = watched_on (machine f) s (map call cs)

unfoldable pub heard : Build → Store → List Call → List Seen
unfolding after_event is_somebody is_waited_for is_kept heard_on
heard f s cs = heard_on (machine f) s (map call cs)
