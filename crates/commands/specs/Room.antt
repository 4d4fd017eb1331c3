-- What the contract of `room` speaks of: the room that is told, or the answer that refuses it, as the meaning has them.
-- Assumes nothing.
use Rattle.std.specs.Prelude.{Result, Ok, Err}
use Rattle.answers.specs.declared.Answer.{Answer}
use Rattle.answers.specs.declared.Answer.TheVariants.{Good}
use Rattle.marks.specs.declared.FreeRoom.{FreeRoom}
use Rattle.store.specs.Room.{Room}

-- both numbers with GOOD, and with a refusal none, which the meaning has as 0 and 0
abbrev pub room_told : Result FreeRoom Answer → Room
room_told (Ok room) = record { answer = Good; free = room.free; lowest = room.lowest }
room_told (Err answer) = record { answer = answer; free = 0; lowest = 0 }
