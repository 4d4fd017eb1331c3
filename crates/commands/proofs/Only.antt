-- The promises of the entry points admit no second outcome: they determine the answer, the length, the unit and every lent byte, and the room.
-- Assumes nothing.
use mathlib.Core.Path.{◌≡◌, sym, ap, ◌∙◌}
use mathlib.Core.List.{List}
use Prim.Native.Nat.{ℕ}
use lib.Dec.{T}
use Rattle.std.specs.Prelude.{Result as Either, Ok, Err}
use Rattle.answers.specs.declared.Answer.{Answer}
use Rattle.answers.specs.declared.Answer.TheVariants.{Good}
use Rattle.answers.specs.Order.{refuses}
use Rattle.marks.specs.declared.FreeRoom.{FreeRoom}
use Rattle.store.specs.declared.Unit.{Unit}
use Rattle.reply.specs.declared.Outcome.{Outcome}
use Rattle.store.specs.Store.{Store, Call, Result}
use Rattle.store.specs.Step.{step}
use Rattle.store.specs.Fresh.{FreshResult, fresh}
use Rattle.store.specs.Room.{Room, room_of}
use Rattle.reply.specs.Contract.{left, made}
use Rattle.commands.specs.Room.{room_told}
use Rattle.commands.proofs.FreshLaws.{unmade_refuses}
use Rattle.commands.proofs.RoomLaws.{untold_refuses}

pub execute_only : (format : ℕ) (s : Store) (c : Call) (r q : Outcome) (owners owners' marks marks' medium medium' data_in dataIn' sense sense' : List ℕ)
    → left format r owners marks medium data_in sense ≡ step s c → left format q owners' marks' medium' dataIn' sense' ≡ step s c
    → (r ≡ q) × (owners ≡ owners') × (marks ≡ marks') × (medium ≡ medium') × (data_in ≡ dataIn') × (sense ≡ sense')
execute_only format s c r q owners owners' marks marks' medium medium' data_in dataIn' sense sense' e h =
    let same : left format r owners marks medium data_in sense ≡ left format q owners' marks' medium' dataIn' sense' = e ∙ sym h in (
      ap (λ (x : Result). record { answer = x.seen.answer; returned = x.seen.returned; unit = x.store.unit }) same,
      ap (λ (x : Result). x.store.pool.owners) same,
      ap (λ (x : Result). x.store.pool.marks) same,
      ap (λ (x : Result). x.store.pool.medium) same,
      ap (λ (x : Result). x.seen.data_in) same,
      ap (λ (x : Result). x.seen.sense) same,
    )

-- what is made is no refusal: the one has a unit, the other an answer that is not GOOD
not_both : (capacity format : ℕ) (before marked : List ℕ) (u : Unit) (a : Answer) (owners owners' marks marks' : List ℕ)
    → made (Ok u) owners marks ≡ fresh capacity format before marked → made (Err a) owners' marks' ≡ fresh capacity format before marked → ⊥
unfolding refuses
not_both capacity format before marked u a owners owners' marks marks' e h =
    let t : T (refuses a) = unmade_refuses capacity format before marked a owners' marks' h in
    let good : a ≡ Good = ap (λ (x : FreshResult). x.answer) (h ∙ sym e) in
    rw good at t

pub fresh_only : (capacity format : ℕ) (before marked : List ℕ) (r q : Either Unit Answer) (owners owners' marks marks' : List ℕ)
    → made r owners marks ≡ fresh capacity format before marked → made q owners' marks' ≡ fresh capacity format before marked
    → (r ≡ q) × (owners ≡ owners') × (marks ≡ marks')
fresh_only capacity format before marked (Ok u) (Ok v) owners owners' marks marks' e h =
    let same : made (Ok u) owners marks ≡ made (Ok v) owners' marks' = e ∙ sym h in (
      ap (λ (x : FreshResult). Ok x.unit) same,
      ap (λ (x : FreshResult). x.owners) same,
      ap (λ (x : FreshResult). x.marks) same,
    )
fresh_only capacity format before marked (Ok u) (Err a) owners owners' marks marks' e h =
    absurd (not_both capacity format before marked u a owners owners' marks marks' e h)
fresh_only capacity format before marked (Err a) (Ok u) owners owners' marks marks' e h =
    absurd (not_both capacity format before marked u a owners' owners marks' marks h e)
fresh_only capacity format before marked (Err a) (Err b) owners owners' marks marks' e h =
    let same : made (Err a) owners marks ≡ made (Err b) owners' marks' = e ∙ sym h in (
      ap (λ (x : FreshResult). Err x.answer) same,
      ap (λ (x : FreshResult). x.owners) same,
      ap (λ (x : FreshResult). x.marks) same,
    )

-- nor is a room that is told a refusal
untold : (s : Store) (r : FreeRoom) (a : Answer) → room_told (Ok r) ≡ room_of s → room_told (Err a) ≡ room_of s → ⊥
unfolding refuses
untold s r a e h =
    let t : T (refuses a) = untold_refuses s a h in
    let good : a ≡ Good = ap (λ (x : Room). x.answer) (h ∙ sym e) in
    rw good at t

pub room_only : (s : Store) (r q : Either FreeRoom Answer) → room_told r ≡ room_of s → room_told q ≡ room_of s → r ≡ q
room_only s (Ok r) (Ok q) e h =
    let same : room_told (Ok r) ≡ room_told (Ok q) = e ∙ sym h in
    ap (λ (x : Room). Ok (record { free = x.free; lowest = x.lowest })) same
room_only s (Ok r) (Err a) e h = absurd (untold s r a e h)
room_only s (Err a) (Ok q) e h = absurd (untold s q a h e)
room_only s (Err a) (Err b) e h =
    let same : room_told (Err a) ≡ room_told (Err b) = e ∙ sym h in
    ap (λ (x : Room). Err x.answer) same
