-- Reads and writes against each other, of whole calls: a READ after a WRITE of the same blocks gives the data, in any mixture of their forms and
-- by any nexus; blocks outside keep what they read; a fresh store reads zeros. Assumes nothing.
use mathlib.Core.Path.{◌≡◌, refl, sym, ap, ap₂, ◌∙◌}
use mathlib.Core.List.{List}
use Prim.Native.Nat.{ℕ, ◌+◌, ◌*◌, ◌≤◌, ◌<◌}
use native.Mathlib.Omega.{arith}
use lib.Dec.{T}
use lib.ListN.{length, take, drop}
use Rattle.fields.specs.Bytes.{part, put, zeros}
use Rattle.fields.proofs.BytesLaws.{part_put_same}
use Rattle.answers.specs.declared.Answer.{Answer}
use Rattle.answers.specs.declared.Answer.TheVariants.{Good}
use Rattle.answers.specs.Order.{first, if_good_by, refuses}
use Rattle.pool.specs.Pool.{Pool, read_block, read_blocks, write_blocks}
use Rattle.pool.proofs.Keeping.{pool_ok_whole}
use Rattle.pool.proofs.Reading.{fresh_read, read_fresh, write_in, write_out, reads_same, read_after_write, length_read_blocks}
use Rattle.forms.specs.declared.Move.TheVariants.{Read, Write}
use Rattle.forms.specs.Forms.{count_in, asked_of}
use Rattle.store.specs.declared.Unit.{Unit}
use Rattle.store.specs.Store.{Store, Call, Seen, usable, seen_of}
use Rattle.store.specs.Move.{move_rows, moved, fetched}
use Rattle.store.specs.Fresh.{fresh_store}
use Rattle.store.specs.Step.{step, answer_to, data_by}
use Rattle.store.proofs.Parts.{answers_alike}
use Rattle.store.proofs.StoreLaws.{step_seen}
use Rattle.store.proofs.MoveLaws.{read_passes, write_passes}
use Rattle.demands.specs.History.{after}
use Rattle.demands.specs.Contents.{Asks, address_in, blocks_in, IsGood, Inside, Room, Outside, SameRange, Apart}
use Rattle.demands.proofs.Usable.{usable_pool, usable_stays, format_after}
use Rattle.demands.proofs.Moving.{good_usable, good_seen, good_pool, good_rows, after_ways, moves_unit, asks_rows, asks_data}
use Rattle.answers.specs.Answers.{number_of}
use mathlib.Core.Logic.{◌≢◌}

-- a usable store is lent 512 bytes for each slot
pub usable_whole : (s : Store) → T (usable s) → length s.pool.medium ≡ 512 * length s.pool.owners
usable_whole s u = pool_ok_whole s.unit.capacity s.pool (usable_pool s u)

-- ---- a READ that is GOOD

module _ (s : Store) (r : Call) (a : Asks Read r) (e : IsGood s r) where
  -- it returns the blocks named
  pub read_seen : (step s r).seen ≡ seen_of s.format Good (blocks_in s.pool a.request) r
  unfolding fetched
  read_seen = good_seen Read s r a e

  pub read_long : 512 * count_in a.request ≤ length r.data_in
  unfolding move_rows
  read_long = ((read_passes s.unit.capacity (address_in a.request) (count_in a.request) r.data_in).0 (good_rows Read s r a e)).1

  pub length_read : length (blocks_in s.pool a.request) ≡ 512 * count_in a.request
  length_read = length_read_blocks s.pool (address_in a.request) (count_in a.request) (usable_whole s (good_usable s r e))

  pub read_returned : (step s r).seen.returned ≡ 512 * count_in a.request
  unfolding seen_of if_good_by refuses
  read_returned = ap (λ (x : Seen). x.returned) read_seen ∙ length_read

  -- they are the first bytes of data-in
  pub read_data : take (512 * count_in a.request) (step s r).seen.data_in ≡ blocks_in s.pool a.request
  unfolding seen_of if_good_by part refuses
  read_data =
      ap (λ (x : Seen). take (512 * count_in a.request) x.data_in) read_seen
      ∙ ap (λ (n : ℕ). take n (put r.data_in 0 (blocks_in s.pool a.request))) (sym length_read)
      ∙ part_put_same r.data_in 0 (blocks_in s.pool a.request) (let l = length_read in let h = read_long in omega arith)

-- a READ sees the format, the unit's record and the blocks it names, and nothing else
module _ (s t : Store) (r : Call) (a : Asks Read r) (f : s.format ≡ t.format) (e : s.unit ≡ t.unit) where
  read_rows_law : first (move_rows Read a.request s.unit.capacity s.pool r) ≡ first (move_rows Read a.request t.unit.capacity t.pool r)
  unfolding move_rows
  read_rows_law = ap (λ (u : Unit). first (move_rows Read a.request u.capacity s.pool r)) e

  pub read_sees : T (usable s) → T (usable t) → blocks_in s.pool a.request ≡ blocks_in t.pool a.request → (step s r).seen ≡ (step t r).seen
  unfolding fetched
  read_sees u v d =
      step_seen s r
      ∙ ap₂ (λ (x : Answer) (bs : List ℕ). seen_of s.format x bs r)
      (answers_alike s t r u v f e (λ w g. ap first (asks_rows Read r a s) ∙ read_rows_law ∙ sym (ap first (asks_rows Read r a t))))
      (asks_data Read r a s ∙ d ∙ sym (asks_data Read r a t))
      ∙ ap (λ (x : ℕ). seen_of x (answer_to t r) (data_by (asked_of r.cdb) t) r) f
      ∙ sym (step_seen t r)

-- ---- a WRITE that is GOOD

module _ (s : Store) (w : Call) (a : Asks Write w) (e : IsGood s w) where
  pub write_pool : (after step s w).pool ≡ write_blocks s.pool (address_in a.request) (count_in a.request) w.data_out
  unfolding moved
  write_pool = good_pool Write s w a e

  write_tests : Inside s a.request × (512 * count_in a.request ≤ length w.data_out) × Room s a.request
  unfolding move_rows
  write_tests =
      (write_passes s.unit.capacity s.pool.owners (address_in a.request) (count_in a.request) w.data_out).0 (good_rows Write s w a e)

  pub write_inside : Inside s a.request
  write_inside = write_tests.0

  pub write_long : 512 * count_in a.request ≤ length w.data_out
  write_long = write_tests.1

  pub write_room : Room s a.request
  write_room = write_tests.2

  -- each block of the range reads as its own 512 bytes
  pub write_contents : (i : ℕ) → i < count_in a.request
      → read_block (after step s w).pool (address_in a.request + i) ≡ take 512 (drop (512 * i) w.data_out)
  write_contents i h =
      ap (λ (p : Pool). read_block p (address_in a.request + i)) write_pool
      ∙ write_in s.pool (address_in a.request) (count_in a.request) w.data_out (usable_whole s (good_usable s w e)) write_long write_room i h

-- a block outside a WRITE's range reads as before, whatever the answer
pub write_keeps : (s : Store) (w : Call) (a : Asks Write w) (b : ℕ) → Outside (address_in a.request) (count_in a.request) b
    → read_block (after step s w).pool b ≡ read_block s.pool b
write_keeps s w a b out =
    after_ways s w (λ t. read_block t.pool b ≡ read_block s.pool b)
    (λ e. ap (λ (p : Pool). read_block p b) (write_pool s w a e) ∙ write_out s.pool (address_in a.request) (count_in a.request) w.data_out b out) refl (λ _. refl)

-- ---- one after the other

module _ (s : Store) (w r : Call) (a : Asks Write w) (b : Asks Read r) where
  written : SameRange a.request b.request → IsGood s w
      → blocks_in (after step s w).pool b.request ≡ take (512 * count_in a.request) w.data_out
  written e g =
      ap₂ (λ (x n : ℕ). read_blocks (after step s w).pool x n) (sym e.address) (sym e.count)
      ∙ ap (λ (p : Pool). blocks_in p a.request) (write_pool s w a g)
      ∙ read_after_write s.pool (address_in a.request) (count_in a.request) w.data_out
      (usable_whole s (good_usable s w g)) (write_long s w a g) (write_room s w a g)

  -- the READ sees the data written, in place of the first bytes of its data-in
  pub write_then_read_seen : SameRange a.request b.request → IsGood s w → IsGood (after step s w) r
      → (step (after step s w) r).seen ≡ seen_of (after step s w).format Good (take (512 * count_in a.request) w.data_out) r
  write_then_read_seen e g h = read_seen (after step s w) r b h ∙ ap (λ (bs : List ℕ). seen_of (after step s w).format Good bs r) (written e g)

  pub write_then_read : SameRange a.request b.request → IsGood s w → IsGood (after step s w) r
      → take (512 * count_in a.request) (step (after step s w) r).seen.data_in ≡ take (512 * count_in a.request) w.data_out
  write_then_read e g h =
      ap (λ (n : ℕ). take (512 * n) (step (after step s w) r).seen.data_in) e.count ∙ read_data (after step s w) r b h ∙ written e g

  -- a READ of other blocks sees what it would have seen before, and so it is where the WRITE is refused, unless that told what waited
  pub write_keeps_others : Apart a.request b.request → number_of (step s w).seen.answer ≢ 13 → (step (after step s w) r).seen ≡ (step s r).seen
  write_keeps_others out n =
      after_ways s w (λ t. (step t r).seen ≡ (step s r).seen)
      (λ e. let u = good_usable s w e in read_sees (after step s w) s r b (format_after s w) (moves_unit Write s w a n) (usable_stays s w u) u
      (reads_same (after step s w).pool s.pool (address_in b.request) (count_in b.request)
      (λ i h. write_keeps s w a (address_in b.request + i) (out i h)))) refl (λ e. absurd (n e))

-- ---- a fresh store

-- it reads zeros everywhere, whatever bytes its medium holds
pub fresh_contents : (capacity format slots : ℕ) (medium : List ℕ) (b : ℕ) → read_block (fresh_store capacity format slots medium).pool b ≡ zeros 512
unfolding fresh_store
fresh_contents capacity format slots medium b = fresh_read slots _ medium b

pub fresh_reads_zeros : (capacity format slots : ℕ) (medium : List ℕ) (r : Call) (a : Asks Read r) → IsGood (fresh_store capacity format slots medium) r
    → (step (fresh_store capacity format slots medium) r).seen ≡ seen_of format Good (zeros (512 * count_in a.request)) r
unfolding fresh_store
fresh_reads_zeros capacity format slots medium r a e =
    read_seen (fresh_store capacity format slots medium) r a e ∙ ap (λ (bs : List ℕ). seen_of format Good bs r) (read_fresh slots _ medium _ _)
