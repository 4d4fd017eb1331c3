-- Slots do not matter: pools that read alike, with the same blocks mapped and as many free slots, stay so under the same writes and unmappings.
-- They may differ in their slots, and in how many there are. Assumes nothing.
use mathlib.Core.Path.{◌≡◌, refl, sym, ap₂, ◌∙◌, subst}
use mathlib.Core.Bool.{Bool, cond}
use mathlib.Core.List.{List}
use Prim.Native.Nat.{ℕ, zero, suc, ◌+◌, ◌*◌, ◌≤◌, ◌<◌}
use native.Mathlib.Omega.{arith}
use lib.Dec.{T}
use lib.ListN.{length}
use Rattle.pool.specs.Bounds.{block_bytes}
use Rattle.pool.specs.Pool.{Pool, mapped, free, unmapped, read_block, read_blocks, assign_blocks, write_blocks, unmap_owners, unmap_blocks}
use Rattle.pool.specs.Valid.{distinct}
use Rattle.pool.specs.Alike.{Alike}
use Rattle.pool.proofs.Writing.{in_or_out, mapped_write_in, mapped_write_out, free_write}
use Rattle.pool.proofs.Unmapping.{mapped_unmap_in, mapped_unmap_out, free_unmap}
use Rattle.pool.proofs.Reading.{write_in, write_out, unmap_in, unmap_out, reads_same}

pub alike_self : (p : Pool) → Alike p p
alike_self p = record { frees = refl; maps = λ b. refl; reads = λ b. refl }

pub alike_back : (p q : Pool) → Alike p q → Alike q p
alike_back p q l = record { frees = sym l.frees; maps = λ b. sym (l.maps b); reads = λ b. sym (l.reads b) }

pub alike_through : (p q r : Pool) → Alike p q → Alike q r → Alike p r
alike_through p q r l k =
    record { frees = l.frees ∙ k.frees; maps = λ b. l.maps b ∙ k.maps b; reads = λ b. l.reads b ∙ k.reads b }

-- what agrees on the n blocks from a on and on those outside agrees on all
agrees : {X : Type 0} (f g : ℕ → X) (a n : ℕ) → ((i : ℕ) → i < n → f (a + i) ≡ g (a + i)) → ((b : ℕ) → (a ≤ b → a + n ≤ b) → f b ≡ g b)
    → (b : ℕ) → f b ≡ g b
agrees f g a n within outside b =
    in_or_out a n b (λ i h e. subst (λ (c : ℕ). f c ≡ g c) (sym e) (within i h)) (λ out. outside b out)

module _ (p q : Pool) (l : Alike p q) where
  pub alike_unmapped : (a n : ℕ) → unmapped p.owners a n ≡ unmapped q.owners a n
  unfolding unmapped
  alike_unmapped a zero = refl
  alike_unmapped a (suc n) = ap₂ (λ (b : Bool) (m : ℕ). cond b 0 1 + m) (l.maps a) (alike_unmapped (suc a) n)

  pub alike_reads : (a n : ℕ) → read_blocks p a n ≡ read_blocks q a n
  alike_reads a n = reads_same p q a n (λ i h. l.reads (a + i))

  pub alike_write : (a n : ℕ) (bs : List ℕ) → length p.medium ≡ block_bytes * length p.owners → length q.medium ≡ block_bytes * length q.owners
      → block_bytes * n ≤ length bs → unmapped p.owners a n ≤ free p.owners → Alike (write_blocks p a n bs) (write_blocks q a n bs)
  unfolding write_blocks
  alike_write a n bs w v long room =
      let e = alike_unmapped a n in
      let f = l.frees in
      let room' : unmapped q.owners a n ≤ free q.owners = omega arith in
      let x = free_write p.owners a n room in
      let y = free_write q.owners a n room' in
      record {
        frees = omega arith;
        maps = agrees (mapped (assign_blocks p.owners a n)) (mapped (assign_blocks q.owners a n)) a n
            (λ i h. mapped_write_in p.owners a n room i h ∙ sym (mapped_write_in q.owners a n room' i h))
            (λ b out. mapped_write_out p.owners a n b out ∙ l.maps b ∙ sym (mapped_write_out q.owners a n b out));
        reads = agrees (read_block (write_blocks p a n bs)) (read_block (write_blocks q a n bs)) a n
            (λ i h. write_in p a n bs w long room i h ∙ sym (write_in q a n bs v long room' i h))
            (λ b out. write_out p a n bs b out ∙ l.reads b ∙ sym (write_out q a n bs b out));
      }

  pub alike_unmap : (a n : ℕ) → T (distinct p.owners) → T (distinct q.owners) → Alike (unmap_blocks p a n) (unmap_blocks q a n)
  unfolding unmap_blocks
  alike_unmap a n s t =
      let e = alike_unmapped a n in
      let f = l.frees in
      let x = free_unmap p.owners a n s in
      let y = free_unmap q.owners a n t in
      record {
        frees = omega arith;
        maps = agrees (mapped (unmap_owners p.owners a n)) (mapped (unmap_owners q.owners a n)) a n
            (λ i h. mapped_unmap_in p.owners a n i h ∙ sym (mapped_unmap_in q.owners a n i h))
            (λ b out. mapped_unmap_out p.owners a n b out ∙ l.maps b ∙ sym (mapped_unmap_out q.owners a n b out));
        reads = agrees (read_block (unmap_blocks p a n)) (read_block (unmap_blocks q a n)) a n
            (λ i h. unmap_in p a n i h ∙ sym (unmap_in q a n i h))
            (λ b out. unmap_out p a n b out ∙ l.reads b ∙ sym (unmap_out q a n b out));
      }
