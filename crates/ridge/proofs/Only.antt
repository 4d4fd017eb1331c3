-- The promises of the C interface admit no second outcome: they determine the answer, the length, the unit's record and every lent word and byte.
-- Assumes nothing.
use mathlib.Core.Path.{◌≡◌, sym, ap, ◌∙◌}
use mathlib.Core.List.{List}
use Prim.Native.Nat.{ℕ}
use Rattle.store.specs.declared.Unit.{Unit}
use Rattle.store.specs.Store.{Store, Call}
use Rattle.ridge.specs.Interface.{Left, FreshLeft, RoomLeft, executed, freshened, roomed, leaves, leaves_fresh, leaves_room}

pub ridge_execute_only : (s : Store) (c : Call) (answer answer' returned returned' : ℕ) (unit unit' : Unit)
    (owners owners' marks marks' medium medium' data_in dataIn' sense sense' : List ℕ)
    → leaves answer returned unit owners marks medium data_in sense ≡ executed s c → leaves answer' returned' unit' owners' marks' medium' dataIn' sense' ≡ executed s c
    → (answer ≡ answer') × (returned ≡ returned') × (unit ≡ unit') × (owners ≡ owners') × (marks ≡ marks') × (medium ≡ medium') × (data_in ≡ dataIn') × (sense ≡ sense')
ridge_execute_only s c answer answer' returned returned' unit unit' owners owners' marks marks' medium medium' data_in dataIn' sense sense' e h =
    let same : leaves answer returned unit owners marks medium data_in sense ≡ leaves answer' returned' unit' owners' marks' medium' dataIn' sense' = e ∙ sym h in (
      ap (λ (x : Left). x.answer) same,
      ap (λ (x : Left). x.returned) same,
      ap (λ (x : Left). x.unit) same,
      ap (λ (x : Left). x.owners) same,
      ap (λ (x : Left). x.marks) same,
      ap (λ (x : Left). x.medium) same,
      ap (λ (x : Left). x.data_in) same,
      ap (λ (x : Left). x.sense) same,
    )

pub ridge_fresh_only : (capacity format : ℕ) (u : Unit) (before marked : List ℕ) (answer answer' : ℕ) (unit unit' : Unit)
    (owners owners' marks marks' : List ℕ) → leaves_fresh answer unit owners marks ≡ freshened capacity format u before marked
    → leaves_fresh answer' unit' owners' marks' ≡ freshened capacity format u before marked
    → (answer ≡ answer') × (unit ≡ unit') × (owners ≡ owners') × (marks ≡ marks')
ridge_fresh_only capacity format u before marked answer answer' unit unit' owners owners' marks marks' e h =
    let same : leaves_fresh answer unit owners marks ≡ leaves_fresh answer' unit' owners' marks' = e ∙ sym h in (
      ap (λ (x : FreshLeft). x.answer) same,
      ap (λ (x : FreshLeft). x.unit) same,
      ap (λ (x : FreshLeft). x.owners) same,
      ap (λ (x : FreshLeft). x.marks) same,
    )

pub ridge_room_only : (s : Store) (before lower answer answer' free free' lowest lowest' : ℕ)
    → leaves_room answer free lowest ≡ roomed s before lower → leaves_room answer' free' lowest' ≡ roomed s before lower
    → (answer ≡ answer') × (free ≡ free') × (lowest ≡ lowest')
ridge_room_only s before lower answer answer' free free' lowest lowest' e h =
    let same : leaves_room answer free lowest ≡ leaves_room answer' free' lowest' = e ∙ sym h in
    (ap (λ (x : RoomLeft). x.answer) same, ap (λ (x : RoomLeft). x.free) same, ap (λ (x : RoomLeft). x.lowest) same)
