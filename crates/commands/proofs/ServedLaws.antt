-- What a served command leaves is what its part leaves: commands that tell, alter, or move blocks.
-- Assumes nothing.
use mathlib.Core.Path.{◌≡◌, refl, ap, ◌∙◌}
use mathlib.Core.List.{List}
use Prim.Native.Nat.{ℕ, ◌≤◌}
use lib.Dec.{T}
use Rattle.std.specs.Prelude.{Result, Ok, Err}
use Rattle.answers.specs.declared.Answer.{Answer}
use Rattle.answers.specs.declared.Answer.TheVariants.{Good, Refused, Conflict, Unusable, Short}
use Rattle.answers.specs.Order.{first, if_good, if_good_by, refuses}
use Rattle.pool.specs.Bounds.{most_transfer}
use Rattle.pool.specs.Pool.{Pool, pool}
use Rattle.rights.specs.declared.Rights.{Rights}
use Rattle.rights.specs.declared.Action.{Action}
use Rattle.rights.specs.Actions.{acted, unless_refused}
use Rattle.forms.specs.declared.Tell.{Tell}
use Rattle.forms.specs.declared.Move.{Move}
use Rattle.forms.specs.declared.Move.TheVariants.{Read, Write, WriteSame, Unmap, Status}
use Rattle.forms.specs.declared.Command.{Command}
use Rattle.forms.specs.declared.Command.TheVariants.{Tells, Moves, Alters}
use Rattle.forms.specs.declared.Request.{Request}
use Rattle.forms.proofs.Fields.{is_counted, Fits}
use Rattle.store.specs.declared.Unit.{Unit}
use Rattle.store.specs.Store.{Call, enacted, leaves}
use Rattle.store.specs.Alter.{parameters_of, alter_rows}
use Rattle.store.specs.Move.{move_rows, moved, fetched}
use Rattle.store.specs.Step.{command_rows, command_data, command_store}
use Rattle.reply.specs.declared.Outcome.{Outcome}
use Rattle.reply.specs.Contract.{store_of}
use Rattle.reply.specs.Reply.{reply_of, replied, served, serves}
use Rattle.reply.proofs.ReplyLaws.{serving, serves_reply, serves_part}
use Rattle.tell.specs.Telling.{tells}
use Rattle.alter.specs.Altered.{altered}
use Rattle.blocks.specs.Moved.{Moved, moving, moves}
use Rattle.commands.specs.Served.{bare, replying, alters_to, served_by}

-- a command on the blocks sees nothing of a call but the data
unseen : (m : Move) (q : Request) (capacity : ℕ) (p : Pool) (c : Call)
    → moves m q capacity p c.data_out c.data_in
    ≡ record {
      reply = reply_of (first (move_rows m q capacity p c)) (fetched m q capacity p) c.data_in;
      after = if_good (first (move_rows m q capacity p c)) (moved m q p c) p;
    }
unfolding moves move_rows moved
unseen Read q capacity p c = refl
unseen Write q capacity p c = refl
unseen WriteSame q capacity p c = refl
unseen Unmap q capacity p c = refl
unseen Status q capacity p c = refl

-- and changes the pool alone
whole_pool : (a : Answer) (bs : List ℕ) (format : ℕ) (u : Unit) (done kept : Pool) (data_in : List ℕ)
    → serving (reply_of a bs data_in) (record { format = format; unit = u; pool = if_good a done kept })
    ≡ serves a bs (record { format = format; unit = u; pool = done }) (record { format = format; unit = u; pool = kept }) data_in
unfolding serves leaves if_good_by refuses
whole_pool Good bs format u done kept data_in = refl
whole_pool (Refused x) bs format u done kept data_in = refl
whole_pool Conflict bs format u done kept data_in = refl
whole_pool Unusable bs format u done kept data_in = refl
whole_pool Short bs format u done kept data_in = refl

-- the outcome of an action: a refusal leaves the unit
decided_outcome : (a : Action) (n : ℕ) (u : Unit) (x : Answer) (made : Rights) → alters_to a n u (unless_refused x made) ≡ bare x (if_good x (enacted a n u made) u)
unfolding if_good_by refuses
decided_outcome a n u Good made = refl
decided_outcome a n u (Refused x) made = refl
decided_outcome a n u Conflict made = refl
decided_outcome a n u Unusable made = refl
decided_outcome a n u Short made = refl

-- the outcome of a reply: its unit is left
reply_served : (r : Result ℕ Answer) (format : ℕ) (u : Unit) (owners marks medium data_in : List ℕ)
    → served format (replying r u) owners marks medium data_in ≡ serving (replied r data_in) (store_of format u owners marks medium)
reply_served (Ok n) format u owners marks medium data_in = refl
reply_served (Err a) format u owners marks medium data_in = refl

module _ (format : ℕ) (k : Command) (q : Request) (u : Unit) (owners marks medium : List ℕ) (c : Call) where
  pub tells_served : (t : Tell) (r : Result ℕ Answer) (data_in : List ℕ) → k ≡ Tells t → replied r data_in ≡ tells t q u c.data_in
      → served format (replying r u) owners marks medium data_in ≡ served_by k q (store_of format u owners marks medium) c
  unfolding served_by command_rows command_data command_store
  tells_served t r data_in e h =
      reply_served r format u owners marks medium data_in ∙ rw e (serves_reply _ _ (store_of format u owners marks medium) c.data_in _ h)

  pub alters_served : (a : Action) (r : Outcome) → k ≡ Alters a → r ≡ alters_to a c.nexus u (altered a q u.rights c.nexus c.data_out)
      → served format r owners marks medium c.data_in ≡ served_by k q (store_of format u owners marks medium) c
  unfolding served_by command_rows command_data command_store altered
  alters_served a r e h =
      rw (e, h, decided_outcome a c.nexus u (first (alter_rows a q u.rights c.nexus c.data_out)) (acted a u.rights c.nexus (parameters_of q c.data_out)))
      (serves_part (λ (x : Unit). store_of format x owners marks medium) _ _ u c.data_in)

  pub moves_served : (m : Move) (r : Result ℕ Answer) (owners' marks' medium' data_in : List ℕ) → k ≡ Moves m
      → moving (replied r data_in) owners' marks' medium' ≡ moves m q u.capacity (pool owners marks medium) c.data_out c.data_in
      → served format (replying r u) owners' marks' medium' data_in ≡ served_by k q (store_of format u owners marks medium) c
  unfolding served_by command_rows command_data command_store
  moves_served m r owners' marks' medium' data_in e h =
      reply_served r format u owners' marks' medium' data_in
      ∙ rw e
      (ap (λ (w : Moved). serving w.reply (record { format = format; unit = u; pool = w.after })) (h ∙ unseen m q u.capacity (pool owners marks medium) c)
      ∙ whole_pool _ _ format u _ (pool owners marks medium) c.data_in)

-- ---- a command that counts blocks counts at most 128

pub moves_fit : (q : Request) (m : Move) → q.command ≡ Moves m → Fits q → T (is_counted (Moves m)) → q.size ≤ most_transfer
moves_fit q m e f t = f (rw e t)
