-- What the three functions of the C interface leave, by `step`, `fresh` and `room_of`.
-- Assumes nothing.
use Rattle.std.specs.Prelude.{List, ℕ}
use Rattle.answers.specs.Answers.{number_of}
use Rattle.answers.specs.Order.{if_good}
use Rattle.store.specs.declared.Unit.{Unit}
use Rattle.store.specs.Store.{Store, Call, Result}
use Rattle.store.specs.Step.{step}
use Rattle.store.specs.Fresh.{fresh, FreshResult}
use Rattle.store.specs.Room.{Room, room_of}

-- all that a call leaves: document 01's answer number, the returned length, the unit, and every lent word and byte
pub record Left : Type 0 where
  pub answer : ℕ
  pub returned : ℕ
  pub unit : Unit
  pub owners : List ℕ
  pub marks : List ℕ
  pub medium : List ℕ
  pub data_in : List ℕ
  pub sense : List ℕ

unfoldable pub left_by : Result → Left
left_by r = record {
  answer = number_of r.seen.answer;
  returned = r.seen.returned;
  unit = r.store.unit;
  owners = r.store.pool.owners;
  marks = r.store.pool.marks;
  medium = r.store.pool.medium;
  data_in = r.seen.data_in;
  sense = r.seen.sense;
}

unfoldable pub executed : Store → Call → Left
executed s c = left_by (step s c)

-- ---- making a fresh store

pub record FreshLeft : Type 0 where
  pub answer : ℕ
  pub unit : Unit
  pub owners : List ℕ
  pub marks : List ℕ

-- "bad bounds give 11 and leave all": the unit too. The format is given, and kept by the caller
unfoldable pub fresh_by : Unit → FreshResult → FreshLeft
fresh_by u f = record {
  answer = number_of f.answer;
  unit = if_good f.answer f.unit u;
  owners = f.owners;
  marks = f.marks;
}

unfoldable pub freshened : ℕ → ℕ → Unit → List ℕ → List ℕ → FreshLeft
freshened capacity format u owners marks = fresh_by u (fresh capacity format owners marks)

-- ---- telling the room

pub record RoomLeft : Type 0 where
  pub answer : ℕ
  pub free : ℕ
  pub lowest : ℕ

-- 11 and nothing else: what was lent for the two numbers stays
unfoldable pub room_by : Room → ℕ → ℕ → RoomLeft
room_by r free lowest = record {
  answer = number_of r.answer;
  free = if_good r.answer r.free free;
  lowest = if_good r.answer r.lowest lowest;
}

unfoldable pub roomed : Store → ℕ → ℕ → RoomLeft
roomed s free lowest = room_by (room_of s) free lowest

-- ---- what a promise speaks of: the values and lists that a call leaves

abbrev pub leaves : ℕ → ℕ → Unit → List ℕ → List ℕ → List ℕ → List ℕ → List ℕ → Left
leaves answer returned unit owners marks medium data_in sense =
    record { answer = answer; returned = returned; unit = unit; owners = owners; marks = marks; medium = medium; data_in = data_in; sense = sense }

abbrev pub leaves_fresh : ℕ → Unit → List ℕ → List ℕ → FreshLeft
leaves_fresh answer unit owners marks = record { answer = answer; unit = unit; owners = owners; marks = marks }

abbrev pub leaves_room : ℕ → ℕ → ℕ → RoomLeft
leaves_room answer free lowest = record { answer = answer; free = free; lowest = lowest }
