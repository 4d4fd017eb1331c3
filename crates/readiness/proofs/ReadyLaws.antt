-- What a call that nothing refuses at first may rely on.
-- Assumes nothing.
use mathlib.Core.Path.{◌≡◌}
use mathlib.Core.Bool.{Bool, true, false, not, ◌&&◌, false≢true}
use mathlib.Core.List.{List, []}
use Prim.Native.Nat.{ℕ, ◌^◌, ◌≤◌}
use lib.Dec.{T, eqb, leb, ltb, leb→le, nltb→le}
use lib.ListN.{length}
use Rattle.fields.proofs.Tests.{and_l, and_r, true→T}
use Rattle.answers.specs.Sense.{format_ok, sense_bytes}
use Rattle.pool.specs.Valid.{capacity_ok, slots_ok, pool_ok}
use Rattle.pool.specs.Pool.{pool}
use Rattle.pool.proofs.Keeping.{pool_ok_slots, pool_ok_whole, pool_ok_marks}
use Rattle.rights.specs.Rights.{rights_ok}
use Rattle.rights.specs.Attentions.{attentions_ok}
use Rattle.store.specs.declared.Unit.{Unit}
use Rattle.store.specs.Store.{unit_ok, usable}
use Rattle.reply.specs.Contract.{store_of, call_of}
use Rattle.reply.specs.Reply.{Bounded}
use Rattle.readiness.specs.Ready.{ready_for}

module _ (format : ℕ) (u : Unit) (owners marks medium : List ℕ) (t : T (usable (store_of format u owners marks medium))) where
  rest_part : T (unit_ok u && pool_ok u.capacity (pool owners marks medium))
  unfolding usable
  rest_part = and_r (format_ok format) (unit_ok u && pool_ok u.capacity (pool owners marks medium)) t

  unit_part : T (unit_ok u)
  unit_part = and_l (unit_ok u) (pool_ok u.capacity (pool owners marks medium)) rest_part

  pool_part : T (pool_ok u.capacity (pool owners marks medium))
  pool_part = and_r (unit_ok u) (pool_ok u.capacity (pool owners marks medium)) rest_part

  capacity_part : T (capacity_ok u.capacity)
  unfolding unit_ok
  capacity_part = and_l (capacity_ok u.capacity) (rights_ok u.rights && attentions_ok u.attentions) unit_part

  slots_part : T (slots_ok (length owners))
  slots_part = pool_ok_slots u.capacity (pool owners marks medium) pool_part

  pub usable_bounded : Bounded u.capacity owners marks medium
  unfolding capacity_ok slots_ok
  usable_bounded = record {
    some = leb→le 1 u.capacity (and_l (leb 1 u.capacity) (leb u.capacity (2 ^ 40)) capacity_part);
    few = leb→le u.capacity (2 ^ 40) (and_r (leb 1 u.capacity) (leb u.capacity (2 ^ 40)) capacity_part);
    slots = leb→le (length owners) 128 (and_r (leb 1 (length owners)) (leb (length owners) 128) slots_part);
    whole = pool_ok_whole u.capacity (pool owners marks medium) pool_part;
    marked = pool_ok_marks u.capacity (pool owners marks medium) pool_part;
  }

last_part : (a b d u : Bool) → (not a && (not b && (not d && u))) ≡ true → T u
last_part true b d u e = absurd (false≢true e)
last_part false true d u e = absurd (false≢true e)
last_part false false true u e = absurd (false≢true e)
last_part false false false u e = true→T u e

third_part : (a b d u : Bool) → (not a && (not b && (not d && u))) ≡ true → T (not d)
third_part true b d u e = absurd (false≢true e)
third_part false true d u e = absurd (false≢true e)
third_part false false true u e = absurd (false≢true e)
third_part false false false u e = tt

module _ (format : ℕ) (u : Unit) (owners marks medium : List ℕ) (n : ℕ) (cdb sense : List ℕ) (e : ready_for (store_of format u owners marks medium) (call_of n cdb [] [] sense) ≡ true) where
  pub ready_bounded : Bounded u.capacity owners marks medium
  unfolding ready_for
  ready_bounded =
      usable_bounded format u owners marks medium
      (last_part (ltb 15 n) (eqb (length cdb) 0) (ltb (length sense) (sense_bytes format)) (usable (store_of format u owners marks medium)) e)

  pub ready_sense : sense_bytes format ≤ length sense
  unfolding ready_for
  ready_sense =
      nltb→le (length sense) (sense_bytes format)
      (third_part (ltb 15 n) (eqb (length cdb) 0) (ltb (length sense) (sense_bytes format)) (usable (store_of format u owners marks medium)) e)

pub slots_few : (n : ℕ) → slots_ok n ≡ true → n ≤ 128
unfolding slots_ok
slots_few n e = leb→le n 128 (and_r (leb 1 n) (leb n 128) (true→T (leb 1 n && leb n 128) e))
