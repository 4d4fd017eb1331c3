-- How the functions of the C interface meet their promises: by the promises of `execute`, `fresh` and `room`.
-- Assumes nothing.
use mathlib.Core.Path.{◌≡◌, ap}
use mathlib.Core.List.{List}
use Prim.Native.Nat.{ℕ}
use Rattle.std.specs.Prelude.{Ok, Err}
use Rattle.answers.specs.Answers.{number_of}
use Rattle.answers.specs.declared.Answer.{Answer}
use Rattle.answers.specs.declared.Answer.TheVariants.{Good}
use Rattle.answers.specs.Order.{if_good_by, refuses}
use Rattle.answers.proofs.OrderLaws.{if_refused}
use Rattle.store.specs.declared.Unit.{Unit}
use Rattle.store.specs.Store.{Store, Call}
use Rattle.store.specs.Step.{step}
use Rattle.store.specs.Fresh.{fresh_unit, fresh}
use Rattle.store.specs.Room.{Room, room_of}
use Rattle.reply.specs.declared.Outcome.{Outcome}
use Rattle.reply.specs.Contract.{left, made}
use Rattle.commands.specs.Room.{room_told}
use Rattle.commands.proofs.FreshLaws.{unmade_refuses}
use Rattle.commands.proofs.RoomLaws.{untold_refuses}
use Rattle.ridge.specs.Interface.{left_by, executed, fresh_by, freshened, room_by, roomed, leaves, leaves_fresh, leaves_room}

pub executes : (s : Store) (c : Call) (o : Outcome) (owners marks medium into sense : List ℕ)
    → left s.format o owners marks medium into sense ≡ step s c
    → leaves (number_of o.answer) o.returned o.unit owners marks medium into sense ≡ executed s c
unfolding executed left_by
executes s c o owners marks medium into sense h = ap left_by h

module _ (capacity format : ℕ) (unit : Unit) (owners marks owners' marks' : List ℕ) where
  pub freshens_good : (u : Unit) → made (Ok u) owners' marks' ≡ fresh capacity format owners marks
      → leaves_fresh (number_of Good) u owners' marks' ≡ freshened capacity format unit owners marks
  unfolding freshened fresh_by if_good_by refuses
  freshens_good u h = ap (fresh_by unit) h

  pub freshens_refused : (a : Answer) → made (Err a) owners' marks' ≡ fresh capacity format owners marks
      → leaves_fresh (number_of a) unit owners' marks' ≡ freshened capacity format unit owners marks
  unfolding freshened fresh_by
  freshens_refused a h = rw (← h, if_refused a (fresh_unit 0) unit (unmade_refuses capacity format owners marks a owners' marks' h))

module _ (s : Store) (free lowest : ℕ) where
  pub rooms_good : (slots place : ℕ) → record { answer = Good; free = slots; lowest = place } ≡ room_of s
      → leaves_room (number_of Good) slots place ≡ roomed s free lowest
  unfolding roomed room_by if_good_by refuses
  rooms_good slots place h = ap (λ (r : Room). room_by r free lowest) h

  pub rooms_refused : (a : Answer) → room_told (Err a) ≡ room_of s → leaves_room (number_of a) free lowest ≡ roomed s free lowest
  unfolding roomed room_by
  rooms_refused a h = rw (← h, if_refused a 0 free (untold_refuses s a h), if_refused a 0 lowest (untold_refuses s a h))
