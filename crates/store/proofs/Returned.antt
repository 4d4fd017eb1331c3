-- What a call returns fits the buffer that is lent for it: "12 … data-in [shorter] than the bytes returned".
-- Assumes nothing.
use mathlib.Core.Path.{◌≡◌, refl}
use mathlib.Core.Bool.{Bool, true, false, cond}
use mathlib.Core.List.{List}
use Prim.Native.Nat.{ℕ, zero, suc, ◌*◌, ◌≤◌}
use native.Mathlib.Omega.{arith}
use lib.ListN.{length, length-append, length-take}
use borrow.Author.Tests.{ltb-false}
use Rattle.fields.specs.Bytes.{part, zeros}
use Rattle.fields.proofs.BytesLaws.{length_zeros}
use Rattle.answers.specs.declared.Answer.{Answer}
use Rattle.answers.specs.declared.Answer.TheVariants.{Good, Refused, Conflict, Unusable, Short}
use Rattle.answers.specs.Order.{first, if_good, if_good_by, refuses}
use Rattle.answers.proofs.OrderLaws.{row_fails, rows_after}
use Rattle.pool.specs.Pool.{Pool, mapped, place, read_block, read_blocks}
use Rattle.forms.specs.declared.Move.TheVariants.{Read, Write, WriteSame, Unmap, Status}
use Rattle.forms.specs.declared.Command.{Command}
use Rattle.forms.specs.declared.Command.TheVariants.{Tells, Moves, Alters}
use Rattle.forms.specs.declared.Request.{Request}
use Rattle.forms.specs.Forms.{Asked, nothing, asks, asked_of}
use Rattle.store.specs.Store.{Store, Call, seen_of}
use Rattle.store.specs.Tell.{tell_rows}
use Rattle.store.specs.Move.{read_rows, status_rows, move_rows, fetched}
use Rattle.store.specs.Step.{command_rows, own_rows, command_data, data_by, answer_to, step_by, step}
use Rattle.store.proofs.Parts.{good_own}

-- ---- a block is read as at most 512 bytes

block_most : (b : Bool) (l : List ℕ) (i : ℕ) → length (cond b (part l i 512) (zeros 512)) ≤ 512
unfolding part
block_most true l i = simp length-take (omega arith)
block_most false l i = omega (arith, length_zeros 512)

blocks_most : (p : Pool) (a n : ℕ) → length (read_blocks p a n) ≤ 512 * n
unfolding read_blocks read_block
blocks_most p a zero = omega arith
blocks_most p a (suc n) =
    simp length-append (omega (arith, block_most (mapped p.owners a) p.medium (512 * place (suc a) p.owners), blocks_most p (suc a) n))

-- ---- each command's own tests see to it

command_fits : (k : Command) (q : Request) (s : Store) (c : Call) → first (command_rows k q s c) ≡ Good → length (command_data k q s) ≤ length c.data_in
unfolding command_rows command_data tell_rows move_rows read_rows status_rows fetched refuses
command_fits (Tells t) q s c e = ltb-false _ _ (row_fails _ _ _ tt e)
command_fits (Moves Read) q s c e =
    omega (arith, blocks_most s.pool q.address.0 q.size, ltb-false (length c.data_in) (512 * q.size) (row_fails _ _ _ tt (rows_after _ _ _ tt e)))
command_fits (Moves Write) q s c e = omega arith
command_fits (Moves WriteSame) q s c e = omega arith
command_fits (Moves Unmap) q s c e = omega arith
command_fits (Moves Status) q s c e = ltb-false _ _ (row_fails _ _ _ tt (rows_after _ _ _ tt e))
command_fits (Alters a) q s c e = omega arith

own_fits : (x : Asked) (s : Store) (c : Call) → first (own_rows x s c) ≡ Good → length (data_by x s) ≤ length c.data_in
unfolding own_rows data_by
own_fits nothing s c e = omega arith
own_fits (asks q) s c e = command_fits q.command q s c e

good_fits : (a : Answer) (n m : ℕ) → (a ≡ Good → n ≤ m) → if_good a n 0 ≤ m
unfolding if_good_by refuses
good_fits Good n m h = h refl
good_fits (Refused s) n m h = omega arith
good_fits Conflict n m h = omega arith
good_fits Unusable n m h = omega arith
good_fits Short n m h = omega arith

pub returned_fits : (s : Store) (c : Call) → (step s c).seen.returned ≤ length c.data_in
unfolding step step_by seen_of answer_to asked_of
returned_fits s c =
    good_fits (answer_to s c) (length (data_by (asked_of c.cdb) s)) (length c.data_in) (λ e. own_fits (asked_of c.cdb) s c (good_own s c e))
