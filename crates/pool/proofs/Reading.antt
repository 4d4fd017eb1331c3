-- Reads against writes and unmappings: a read after a write gives the data, block by block; what lies outside keeps what it reads;
-- unmapped blocks, and all of a fresh pool, read as zeros.
-- Assumes nothing.
use mathlib.Core.Path.{◌≡◌, refl, sym, ap, ap₂, ◌∙◌, subst}
use mathlib.Core.Bool.{true, false}
use mathlib.Core.List.{List, ◌++◌, append_assoc}
use Prim.Native.Nat.{ℕ, zero, suc, ◌+◌, ◌*◌, ◌≤◌, ◌<◌}
use native.Mathlib.Omega.{arith}
use native.Mathlib.Nat.{add-zero, add-suc, suc-add}
use lib.ListN.{length, take, drop, length-append}
use lib.Seq.{take-add, take_at, drop-drop, drop-append-add}
use Rattle.fields.specs.Bytes.{part, zeros}
use Rattle.fields.proofs.BytesLaws.{length_part, length_zeros, zeros_add}
use Rattle.fields.proofs.Tests.{test, true→T, T_true, T_false}
use Rattle.pool.specs.Bounds.{block_bytes}
use Rattle.pool.specs.Pool.{Pool, pool, place, mapped, free, unmapped, read_block, read_blocks, assign_blocks, write_blocks, unmap_blocks}
use Rattle.pool.proofs.Held.{place_below, places_apart_law, all_free, free_zeros}
use Rattle.pool.proofs.Keeping.{length_assign_blocks}
use Rattle.pool.proofs.Writing.{mapped_write_in, mapped_write_out, place_write_out, put_in, put_out, next_block}
use Rattle.pool.proofs.Unmapping.{mapped_unmap_in, mapped_unmap_out, place_unmapped_out}

-- ---- one block

module _ (p : Pool) (b : ℕ) where
  pub read_mapped : mapped p.owners b ≡ true → read_block p b ≡ part p.medium (block_bytes * place (suc b) p.owners) block_bytes
  unfolding read_block
  read_mapped e = rw e

  pub read_unmapped : mapped p.owners b ≡ false → read_block p b ≡ zeros block_bytes
  unfolding read_block
  read_unmapped e = rw e

  pub length_read_block : length p.medium ≡ block_bytes * length p.owners → length (read_block p b) ≡ block_bytes
  unfolding mapped
  length_read_block w =
      test (mapped p.owners b)
      (λ t. let h = place_below (suc b) p.owners t in
      ap length (read_mapped (T_true (mapped p.owners b) t)) ∙ length_part p.medium (block_bytes * place (suc b) p.owners) block_bytes (omega arith))
      (λ t. ap length (read_unmapped (T_false (mapped p.owners b) t)) ∙ length_zeros block_bytes)

-- a fresh pool, whatever its medium holds
pub fresh_mapped : (slots b : ℕ) → mapped (zeros slots) b ≡ false
unfolding mapped
fresh_mapped slots b = all_free (suc b) (zeros slots) (omega arith) (free_zeros slots ∙ sym (length_zeros slots))

pub fresh_read : (slots : ℕ) (marks medium : List ℕ) (b : ℕ) → read_block (pool (zeros slots) marks medium) b ≡ zeros block_bytes
fresh_read slots marks medium b = read_unmapped (pool (zeros slots) marks medium) b (fresh_mapped slots b)

-- ---- after a write

-- block i of the range reads as its own 512 bytes
pub write_in : (p : Pool) (a n : ℕ) (bs : List ℕ) → length p.medium ≡ block_bytes * length p.owners → block_bytes * n ≤ length bs
    → unmapped p.owners a n ≤ free p.owners → (i : ℕ) → i < n
    → read_block (write_blocks p a n bs) (a + i) ≡ take block_bytes (drop (block_bytes * i) bs)
unfolding write_blocks
write_in p a n bs w l room i h =
    let e = mapped_write_in p.owners a n room i h in
    read_mapped (write_blocks p a n bs) (a + i) e
    ∙ put_in (assign_blocks p.owners a n) p.medium a n bs (w ∙ ap (λ (k : ℕ). block_bytes * k) (sym (length_assign_blocks p.owners a n))) l i (a + i) refl h (true→T _ e)

-- a block outside the range reads as before
pub write_out : (p : Pool) (a n : ℕ) (bs : List ℕ) (b : ℕ) → (a ≤ b → a + n ≤ b) → read_block (write_blocks p a n bs) b ≡ read_block p b
unfolding write_blocks mapped
write_out p a n bs b out =
    let e = mapped_write_out p.owners a n b out in
    test (mapped p.owners b)
    (λ t. let m = T_true (mapped p.owners b) t in
    read_mapped (write_blocks p a n bs) b (e ∙ m)
    ∙ put_out (assign_blocks p.owners a n) p.medium a n bs (place (suc b) (assign_blocks p.owners a n))
    (λ c h k. places_apart_law (suc b) (suc c) (assign_blocks p.owners a n) (λ d. let z = out (omega arith) in absurd (omega arith)) (true→T _ (e ∙ m)))
    ∙ ap (λ (k : ℕ). part p.medium (block_bytes * k) block_bytes) (place_write_out p.owners a n b out) ∙ sym (read_mapped p b m))
    (λ t. let m = T_false (mapped p.owners b) t in read_unmapped (write_blocks p a n bs) b (e ∙ m) ∙ sym (read_unmapped p b m))

-- ---- after an unmapping

pub unmap_in : (p : Pool) (a n i : ℕ) → i < n → read_block (unmap_blocks p a n) (a + i) ≡ zeros block_bytes
unfolding unmap_blocks
unmap_in p a n i h = read_unmapped (unmap_blocks p a n) (a + i) (mapped_unmap_in p.owners a n i h)

pub unmap_out : (p : Pool) (a n b : ℕ) → (a ≤ b → a + n ≤ b) → read_block (unmap_blocks p a n) b ≡ read_block p b
unfolding unmap_blocks read_block
unmap_out p a n b out = rw (mapped_unmap_out p.owners a n b out, place_unmapped_out p.owners a n b out)

-- ---- many blocks

-- what reads as the blocks of bs do reads as bs
pub reads_blocks : (p : Pool) (a n : ℕ) (bs : List ℕ) → ((i : ℕ) → i < n → read_block p (a + i) ≡ take block_bytes (drop (block_bytes * i) bs))
    → read_blocks p a n ≡ take (block_bytes * n) bs
unfolding read_blocks
reads_blocks p a zero bs each = refl
reads_blocks p a (suc n) bs each =
    ap₂ (λ (x y : List ℕ). x ++ y) (ap (read_block p) (sym (add-zero a)) ∙ each 0 (omega arith))
    (reads_blocks p (suc a) n (drop block_bytes bs) (λ i h. ap (read_block p) (suc-add a i ∙ sym (add-suc a i)) ∙ each (suc i) (omega arith)
    ∙ ap (take block_bytes) (ap (λ (k : ℕ). drop k bs) (sym (next_block i)) ∙ sym (drop-drop (block_bytes * i) block_bytes bs))))
    ∙ sym (take-add block_bytes (block_bytes * n) bs) ∙ ap (λ (k : ℕ). take k bs) (next_block n)

-- pools that read alike in a range
pub reads_same : (p q : Pool) (a n : ℕ) → ((i : ℕ) → i < n → read_block p (a + i) ≡ read_block q (a + i)) → read_blocks p a n ≡ read_blocks q a n
unfolding read_blocks
reads_same p q a zero each = refl
reads_same p q a (suc n) each =
    ap₂ (λ (x y : List ℕ). x ++ y) (subst (λ (b : ℕ). read_block p b ≡ read_block q b) (add-zero a) (each 0 (omega arith)))
    (reads_same p q (suc a) n (λ i h. subst (λ (b : ℕ). read_block p b ≡ read_block q b) (add-suc a i ∙ sym (suc-add a i)) (each (suc i) (omega arith))))

pub reads_zeros : (p : Pool) (a n : ℕ) → ((i : ℕ) → i < n → read_block p (a + i) ≡ zeros block_bytes) → read_blocks p a n ≡ zeros (block_bytes * n)
unfolding read_blocks zeros
reads_zeros p a zero each = refl
reads_zeros p a (suc n) each =
    ap₂ (λ (x y : List ℕ). x ++ y) (ap (read_block p) (sym (add-zero a)) ∙ each 0 (omega arith))
    (reads_zeros p (suc a) n (λ i h. ap (read_block p) (suc-add a i ∙ sym (add-suc a i)) ∙ each (suc i) (omega arith)))
    ∙ zeros_add block_bytes (block_bytes * n) ∙ ap zeros (next_block n)

pub length_read_blocks : (p : Pool) (a n : ℕ) → length p.medium ≡ block_bytes * length p.owners → length (read_blocks p a n) ≡ block_bytes * n
unfolding read_blocks
length_read_blocks p a zero w = refl
length_read_blocks p a (suc n) w =
    let e = length-append (read_block p a) (read_blocks p (suc a) n) in
    let f = length_read_block p a w in
    let ih = length_read_blocks p (suc a) n w in omega arith

-- block i of those read one after another, whatever stands behind them
pub block_read : (p : Pool) → length p.medium ≡ block_bytes * length p.owners → (a n i : ℕ) (rest : List ℕ) → i < n
    → part (read_blocks p a n ++ rest) (block_bytes * i) block_bytes ≡ read_block p (a + i)
unfolding read_blocks part
block_read p w a zero i rest h = absurd (omega arith)
block_read p w a (suc n) zero rest h =
    ap (take block_bytes) (append_assoc (read_block p a) (read_blocks p (suc a) n) rest)
    ∙ take_at (read_block p a) (read_blocks p (suc a) n ++ rest) block_bytes (length_read_block p a w)
    ∙ ap (read_block p) (sym (add-zero a))
block_read p w a (suc n) (suc i) rest h =
    let next : block_bytes * suc i ≡ length (read_block p a) + block_bytes * i = omega (arith, length_read_block p a w) in
    ap₂ (λ (l : List ℕ) (k : ℕ). part l k block_bytes) (append_assoc (read_block p a) (read_blocks p (suc a) n) rest) next
    ∙ ap (take block_bytes) (drop-append-add (read_block p a) (read_blocks p (suc a) n ++ rest) (block_bytes * i))
    ∙ block_read p w (suc a) n i rest (omega arith)
    ∙ ap (read_block p) (suc-add a i ∙ sym (add-suc a i))

pub read_after_write : (p : Pool) (a n : ℕ) (bs : List ℕ) → length p.medium ≡ block_bytes * length p.owners → block_bytes * n ≤ length bs
    → unmapped p.owners a n ≤ free p.owners → read_blocks (write_blocks p a n bs) a n ≡ take (block_bytes * n) bs
read_after_write p a n bs w l room = reads_blocks (write_blocks p a n bs) a n bs (λ i h. write_in p a n bs w l room i h)

pub read_after_unmap : (p : Pool) (a n : ℕ) → read_blocks (unmap_blocks p a n) a n ≡ zeros (block_bytes * n)
read_after_unmap p a n = reads_zeros (unmap_blocks p a n) a n (λ i h. unmap_in p a n i h)

pub read_fresh : (slots : ℕ) (marks medium : List ℕ) (a n : ℕ) → read_blocks (pool (zeros slots) marks medium) a n ≡ zeros (block_bytes * n)
read_fresh slots marks medium a n = reads_zeros (pool (zeros slots) marks medium) a n (λ i h. fresh_read slots marks medium (a + i))
