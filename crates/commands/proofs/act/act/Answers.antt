use Rattle.commands.proofs.ServedLaws.{tells_served, alters_served, moves_served, moves_fit}
use Rattle.commands.proofs.act.act.Goals as goal

pub move_blocks-reply-requires : goal.move_blocks-reply-requires
move_blocks-reply-requires c = (c.requires.0, moves_fit c.args.request _ c.in-Moves.is c.requires.1)

pub returns-in-Tells : goal.returns-in-Tells
returns-in-Tells c = rw c.replied.ensures (λ format. tells_served format _ _ _ _ _ _ _ _ _ _ c.in-Tells.is c.tell.ensures.leaves)

pub returns-in-Alters : goal.returns-in-Alters
returns-in-Alters c format = alters_served format _ _ _ _ _ _ _ _ _ c.in-Alters.is c.alters.ensures

pub returns-in-Moves : goal.returns-in-Moves
returns-in-Moves c = rw c.replied-in-Moves.ensures (λ format. moves_served format _ _ _ _ _ _ _ _ _ _ _ _ _ c.in-Moves.is c.move_blocks-reply.ensures.leaves)
