-- WRITE SAME: its two ways, the block that it sends, and what every block reads after it.
-- Assumes nothing.
use mathlib.Core.Path.{◌≡◌, refl, sym, ap, ◌∙◌}
use mathlib.Core.Bool.{Bool, true, false, cond}
use mathlib.Core.List.{List}
use Prim.Native.Nat.{ℕ, ◌+◌, ◌*◌, ◌≤◌, ◌<◌}
use native.Mathlib.Omega.{arith}
use lib.Dec.{T}
use lib.ListN.{length, take, length-take}
use Rattle.fields.specs.Bytes.{zeros, are_zeros}
use Rattle.fields.proofs.BytesLaws.{length_zeros, are_zeros_is}
use Rattle.fields.proofs.Tests.{and_r, true→T, T_true}
use Rattle.pool.specs.Bounds.{block_bytes}
use Rattle.pool.specs.Pool.{Pool, free, unmapped, read_block, copies, write_blocks, unmap_blocks}
use Rattle.pool.specs.Valid.{distinct}
use Rattle.pool.specs.Alike.{Alike}
use Rattle.pool.proofs.Alike.{alike_write, alike_unmap}
use Rattle.pool.proofs.Reading.{write_out, unmap_in, unmap_out}
use Rattle.pool.proofs.Copies.{length_copies, copies_in}
use Rattle.store.specs.Same.{may_unmap, has_no_data, block_sent, unmaps_same, same_blocks}

-- ---- the block that is sent

module _ (options : ℕ) (out : List ℕ) (there : has_no_data options ≡ false → block_bytes ≤ length out) where
  pub sent_length : length (block_sent options out) ≡ block_bytes
  unfolding block_sent
  sent_length = go (has_no_data options) there
    where
      go : (b : Bool) → (b ≡ false → block_bytes ≤ length out) → length (cond b (zeros block_bytes) (take block_bytes out)) ≡ block_bytes
      go true h = length_zeros block_bytes
      go false h = length-take block_bytes out ∙ (let k = h refl in omega arith)

  pub sent_zeros : unmaps_same options out ≡ true → block_sent options out ≡ zeros block_bytes
  unfolding unmaps_same
  sent_zeros e =
      are_zeros_is (block_sent options out)
      (T_true _ (and_r (may_unmap options) (are_zeros (block_sent options out)) (true→T _ e)))
      ∙ ap zeros sent_length

  pub copies_long : (n : ℕ) → block_bytes * n ≤ length (copies n (block_sent options out))
  copies_long n = let e = length_copies n (block_sent options out) sent_length in omega arith

-- ---- the pool after it

module _ (p : Pool) (a n options : ℕ) (out : List ℕ) where
  -- unmapped, or written
  pub same_ways : (P : Pool → Type 0) → (unmaps_same options out ≡ true → P (unmap_blocks p a n))
      → (unmaps_same options out ≡ false → P (write_blocks p a n (copies n (block_sent options out)))) → P (same_blocks p a n options out)
  unfolding same_blocks
  same_ways P f g = go (unmaps_same options out) f g
    where
      go : (b : Bool) → (b ≡ true → P (unmap_blocks p a n)) → (b ≡ false → P (write_blocks p a n (copies n (block_sent options out))))
          → P (cond b (unmap_blocks p a n) (write_blocks p a n (copies n (block_sent options out))))
      go true f g = f refl
      go false f g = g refl

  -- each block of the range reads the block sent
  pub same_in : length p.medium ≡ block_bytes * length p.owners → (has_no_data options ≡ false → block_bytes ≤ length out)
      → (unmaps_same options out ≡ false → unmapped p.owners a n ≤ free p.owners) → (i : ℕ) → i < n
      → read_block (same_blocks p a n options out) (a + i) ≡ block_sent options out
  same_in whole there room i h =
      same_ways (λ x. read_block x (a + i) ≡ block_sent options out)
      (λ e. unmap_in p a n i h ∙ sym (sent_zeros options out there e))
      (λ e. copies_in p a n (block_sent options out) whole (sent_length options out there) (room e) i h)

  -- all others as before
  pub same_out : (b : ℕ) → (a ≤ b → a + n ≤ b) → read_block (same_blocks p a n options out) b ≡ read_block p b
  same_out b outside =
      same_ways (λ x. read_block x b ≡ read_block p b) (λ e. unmap_out p a n b outside) (λ e. write_out p a n _ b outside)

-- ---- pools that differ only in what no answer tells stay so

pub same_alike : (p q : Pool) → Alike p q → (a n options : ℕ) (out : List ℕ)
    → length p.medium ≡ block_bytes * length p.owners → length q.medium ≡ block_bytes * length q.owners
    → T (distinct p.owners) → T (distinct q.owners) → (has_no_data options ≡ false → block_bytes ≤ length out)
    → (unmaps_same options out ≡ false → unmapped p.owners a n ≤ free p.owners)
    → Alike (same_blocks p a n options out) (same_blocks q a n options out)
unfolding same_blocks
same_alike p q l a n options out w v s t there room = go (unmaps_same options out) room
  where
    go : (b : Bool) → (b ≡ false → unmapped p.owners a n ≤ free p.owners)
        → Alike (cond b (unmap_blocks p a n) (write_blocks p a n (copies n (block_sent options out))))
        (cond b (unmap_blocks q a n) (write_blocks q a n (copies n (block_sent options out))))
    go true room = alike_unmap p q l a n s t
    go false room = alike_write p q l a n _ w v (copies_long options out there n) (room refl)
