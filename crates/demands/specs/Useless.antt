-- Useless builds: "one that refuses everything, one with a constant answer, one that leaves the state alone and says GOOD"; and builds that tell
-- too much. Assumes nothing.
use Rattle.std.specs.Prelude.{◌≡◌, ◌≢◌, Bool, true, false, not, ◌&&◌, cond, List, ℕ, eqb}
use Rattle.answers.specs.declared.Answer.{Answer}
use Rattle.answers.specs.declared.Answer.TheVariants.{Good, Unusable}
use Rattle.answers.specs.Answers.{no_room, number_of}
use Rattle.answers.specs.Sense.{sense_after}
use Rattle.pool.specs.Pool.{room_for}
use Rattle.forms.specs.declared.Command.{Command}
use Rattle.forms.specs.declared.Command.TheVariants.{Tells, Moves, Alters}
use Rattle.forms.specs.declared.Move.TheVariants.{Read, Write, WriteSame, Unmap, Status}
use Rattle.forms.specs.Forms.{Asked, nothing, asks, asked_of, count_in}
use Rattle.store.specs.Store.{Store, Call, Seen}
use Rattle.store.specs.Step.{step}
use Rattle.demands.specs.History.{Build}

-- ---- useless by what they do, whatever else they do

-- "one that refuses everything"
pub record Refusing (f : Build) : Type 0 where
  pub refuses : (s : Store) (c : Call) → (f s c).seen.answer ≢ Good

-- "one with a constant answer"
pub record Constant (a : Answer) (f : Build) : Type 0 where
  pub answers : (s : Store) (c : Call) → (f s c).seen.answer ≡ a

-- "one that leaves the state alone"
pub record Leaving (f : Build) : Type 0 where
  pub stays : (s : Store) (c : Call) → (f s c).store ≡ s

-- ---- one of each

-- a build that looks at nothing of the store but the format of its sense and leaves it alone: what is seen is a function of that and of the call
unfoldable pub blind : (ℕ → Call → Seen) → Build
blind g s c = record { seen = g s.format c; store = s }

-- one answer for all, with its sense
unfoldable pub unmoved : Answer → ℕ → Call → Seen
unmoved a format c = record { answer = a; returned = 0; data_in = c.data_in; sense = sense_after format a c.sense }

unfoldable pub constant : Answer → Build
constant a = blind (unmoved a)

unfoldable pub refusing : Build
refusing = constant Unusable

-- "one that leaves the state alone and says GOOD"
unfoldable pub leaving : Build
leaving = constant Good

-- ---- and one of each that comes as far as it can

-- what `step` shows, but always with this answer
unfoldable pub says : Answer → Build
says a s c =
    let x = (step s c).seen in
    record { seen = record { answer = a; returned = x.returned; data_in = x.data_in; sense = x.sense }; store = s }

-- what `step` shows, and nothing is stored
unfoldable pub pretends : Build
pretends s c = record { seen = (step s c).seen; store = s }

-- ---- a build that is not useless but tells too much

-- of a command, whether it is a WRITE
unfoldable pub is_write : Command → Bool
is_write (Tells t) = false
is_write (Moves Read) = false
is_write (Moves Write) = true
is_write (Moves WriteSame) = false
is_write (Moves Unmap) = false
is_write (Moves Status) = false
is_write (Alters a) = false

-- of what is asked for, whether it is a WRITE of "more unmapped blocks … than free slots"
unfoldable pub lacks_room : Asked → List ℕ → Bool
lacks_room nothing owners = false
lacks_room (asks q) owners = is_write q.command && not (room_for owners q.address.0 (count_in q))

-- the first block that is asked for
unfoldable pub start_of : Asked → ℕ
start_of nothing = 0
start_of (asks q) = q.address.0

-- slip 4, "Testing room before the conflict, which tells an outsider how full the pool is": a WRITE that lacks room gets 8 where `step` has the
-- conflict, and nothing else is otherwise
unfoldable pub room_first : Build
room_first s c =
    cond (eqb (number_of (step s c).seen.answer) 10 && lacks_room (asked_of c.cdb) s.pool.owners)
    (blind (unmoved (no_room (start_of (asked_of c.cdb)))) s c)
    (step s c)
