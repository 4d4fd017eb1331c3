-- WRITE SAME where the block is there: what its part leaves is what the whole leaves.
-- Assumes nothing.
use mathlib.Core.Path.{◌≡◌, refl, sym, ap, ◌∙◌}
use mathlib.Core.Bool.{Bool, true, false, not, ◌&&◌, cond}
use mathlib.Core.List.{List, [], ◌∷◌}
use Prim.Native.Nat.{ℕ, ◌+◌, ◌≤◌}
use lib.Dec.{ltb}
use lib.ListN.{length, take}
use borrow.Author.Tests.{le-ltb}
use Rattle.fields.specs.Bytes.{zeros, are_zeros}
use Rattle.fields.specs.Field.{bit}
use Rattle.answers.specs.declared.Answer.{Answer}
use Rattle.answers.specs.declared.Answer.TheVariants.{Good, Short}
use Rattle.answers.specs.Answers.{out_of_range, no_room}
use Rattle.answers.specs.Order.{◌if◌, first}
use Rattle.answers.proofs.OrderLaws.{row_pass, row_end}
use Rattle.pool.specs.Pool.{Pool, copies, write_blocks, room_for, unmap_blocks}
use Rattle.store.specs.Same.{may_unmap, has_no_data, block_sent, unmaps_same, same_blocks}
use Rattle.store.specs.Move.{past_end, same_rows}
use Rattle.reply.specs.Reply.{Left, leaving, settles}
use Rattle.reply.proofs.ReplyLaws.{settles_done}
use Rattle.blocks.specs.Moved.{spreads, writes_same}

-- ---- the whole: to the n blocks from x on

module _ (capacity x n options : ℕ) (p : Pool) (out : List ℕ) (h : ltb capacity (x + n) ≡ false) where
  -- where the block is there, the whole is what its part leaves
  part_is : (u : Bool) (short : Bool) → short ≡ false
      → cond u (leaving Good (unmap_blocks p x n))
      (settles (first (no_room x if not (room_for p.owners x n) ∷ [])) (write_blocks p x n (copies n (block_sent options out))) p)
      ≡ settles (first (out_of_range x if ltb capacity (x + n) ∷ Short if short ∷ no_room x if (not u && not (room_for p.owners x n)) ∷ []))
      (cond u (unmap_blocks p x n) (write_blocks p x n (copies n (block_sent options out)))) p
  part_is true short k =
      settles_done _ _ p _ (row_pass (out_of_range _) _ _ h ∙ row_pass Short _ _ k ∙ row_pass (no_room _) _ _ refl ∙ row_end) refl
  part_is false short k =
      ap (λ (a : Answer). settles a (write_blocks p x n (copies n (block_sent options out))) p) (sym (row_pass (out_of_range _) _ _ h ∙ row_pass Short _ _ k))

  whole : (v : Left Pool) (may : Bool) (block : List ℕ) → may ≡ bit 3 options → block ≡ block_sent options out
      → (not (has_no_data options) && ltb (length out) 512) ≡ false → v ≡ spreads p x n may block → v ≡ writes_same capacity p x n options out
  unfolding spreads same_rows past_end same_blocks unmaps_same may_unmap
  whole v may block e d k g = g ∙ rw (e, d) (part_is (may_unmap options && are_zeros (block_sent options out)) _ k)

  -- NDOB: the block is zeros
  pub same_zeros : (v : Left Pool) (none may : Bool) (block : List ℕ) → may ≡ bit 3 options → none ≡ bit 0 options → none ≡ true
      → block ≡ zeros 512 → v ≡ spreads p x n may block → v ≡ writes_same capacity p x n options out
  unfolding block_sent has_no_data
  same_zeros v none may block e b t z g = whole v may block e (rw (← b, t) z) (rw (← b, t)) g

  -- without it, the first of data-out
  pub same_block : (v : Left Pool) (none may : Bool) → may ≡ bit 3 options → none ≡ bit 0 options → none ≡ false
      → 512 ≤ length out → v ≡ spreads p x n may (take 512 out) → v ≡ writes_same capacity p x n options out
  unfolding block_sent has_no_data
  same_block v none may e b t k g = whole v may (take 512 out) e (rw (← b, t)) (rw (← b, t) (le-ltb (length out) 512 k)) g
