-- The promises of the volume's entry points admit no second outcome: they determine the answer and every word and byte that is lent to be changed.
-- Assumes nothing.
use mathlib.Core.Path.{◌≡◌, sym, ap, ◌∙◌}
use mathlib.Core.List.{List}
use Prim.Native.Nat.{ℕ}
use Rattle.pool.specs.Pool.{Pool}
use Rattle.marks.specs.declared.FreeRoom.{FreeRoom}
use Rattle.volume.specs.declared.Trouble.{Trouble}
use Rattle.std.specs.Prelude.{Result}
use Rattle.volume.specs.Volume.{Answer, Read, read, read_of, Wrote, wrote, write_of, Left, left, unmap_of, fresh_of, room_of}

pub read_only : (capacity : ℕ) (p : Pool) (a n : ℕ) (before : List ℕ) (r q : Answer) (out out' : List ℕ)
    → read r out ≡ read_of capacity p a n before → read q out' ≡ read_of capacity p a n before → (r ≡ q) × (out ≡ out')
read_only capacity p a n before r q out out' e h =
    let same : read r out ≡ read q out' = e ∙ sym h in (ap (λ (x : Read). x.answer) same, ap (λ (x : Read). x.out) same)

pub write_only : (capacity : ℕ) (p : Pool) (a n : ℕ) (bytes : List ℕ) (r q : Answer) (owners owners' marks marks' medium medium' : List ℕ)
    → wrote r owners marks medium ≡ write_of capacity p a n bytes → wrote q owners' marks' medium' ≡ write_of capacity p a n bytes
    → (r ≡ q) × (owners ≡ owners') × (marks ≡ marks') × (medium ≡ medium')
write_only capacity p a n bytes r q owners owners' marks marks' medium medium' e h =
    let same : wrote r owners marks medium ≡ wrote q owners' marks' medium' = e ∙ sym h in (
      ap (λ (x : Wrote). x.answer) same,
      ap (λ (x : Wrote). x.after.owners) same,
      ap (λ (x : Wrote). x.after.marks) same,
      ap (λ (x : Wrote). x.after.medium) same,
    )

-- what leaves an answer, owners and marks
left_only : (x : Left) (r q : Answer) (owners owners' marks marks' : List ℕ) → left r owners marks ≡ x → left q owners' marks' ≡ x
    → (r ≡ q) × (owners ≡ owners') × (marks ≡ marks')
left_only x r q owners owners' marks marks' e h =
    let same : left r owners marks ≡ left q owners' marks' = e ∙ sym h in
    (ap (λ (y : Left). y.answer) same, ap (λ (y : Left). y.owners) same, ap (λ (y : Left). y.marks) same)

pub unmap_only : (capacity : ℕ) (p : Pool) (a n : ℕ) (r q : Answer) (owners owners' marks marks' : List ℕ)
    → left r owners marks ≡ unmap_of capacity p a n → left q owners' marks' ≡ unmap_of capacity p a n
    → (r ≡ q) × (owners ≡ owners') × (marks ≡ marks')
unmap_only capacity p a n = left_only (unmap_of capacity p a n)

pub fresh_only : (capacity : ℕ) (before words : List ℕ) (r q : Answer) (owners owners' marks marks' : List ℕ)
    → left r owners marks ≡ fresh_of capacity before words → left q owners' marks' ≡ fresh_of capacity before words
    → (r ≡ q) × (owners ≡ owners') × (marks ≡ marks')
fresh_only capacity before words = left_only (fresh_of capacity before words)

pub room_only : (capacity : ℕ) (p : Pool) (r q : Result FreeRoom Trouble) → r ≡ room_of capacity p → q ≡ room_of capacity p → r ≡ q
room_only capacity p r q e h = e ∙ sym h
