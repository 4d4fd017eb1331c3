-- `room`: a usable store has two words of marks, with no more marked than there are slots.
-- Assumes nothing.
use mathlib.Core.Path.{◌∙◌, sym}
use Rattle.commands.proofs.RoomLaws.{marks_two, marked_most}
use Rattle.commands.proofs.room.Goals as goal

pub of-requires : goal.of-requires
of-requires c = marks_two _ (sym c.usable.ensures ∙ c.if-not-usable.false)

pub room-requires : goal.room-requires
room-requires c = rw c.of.ensures (marked_most _ (sym c.usable.ensures ∙ c.if-not-usable.false))
