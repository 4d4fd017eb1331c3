-- WRITE SAME(16), proved of `step`: what every block reads after it, what it unmaps, when it is GOOD, and that otherwise it is a WRITE of the block
-- as many times over.
-- Assumes nothing.
use mathlib.Core.Path.{◌≡◌, refl, sym, ap, ap₂, ◌∙◌, subst}
use mathlib.Core.Logic.{◌↔◌, ◌≢◌}
use mathlib.Core.Bool.{Bool, true, false, not, ◌&&◌, cond, and-false, and-true, true≢false}
use mathlib.Core.List.{List, []}
use Prim.Native.Nat.{ℕ, suc, ◌+◌, ◌*◌, ◌≤◌, ◌<◌}
use native.Mathlib.Omega.{arith}
use lib.Dec.{T, T_not, ltb, eqb}
use lib.ListN.{length}
use borrow.Author.Tests.{le-ltb}
use Rattle.fields.specs.Bytes.{zeros, are_zeros}
use Rattle.fields.proofs.BytesLaws.{are_zeros_zeros}
use Rattle.fields.proofs.Tests.{and_l, both, test, by_test, true→T, T_true, T_false, by_equal}
use Rattle.answers.specs.declared.Answer.{Answer}
use Rattle.answers.specs.declared.Answer.TheVariants.{Good, Refused}
use Rattle.answers.specs.Order.{first}
use Rattle.answers.proofs.OrderLaws.{good_cases}
use Rattle.pool.specs.Pool.{Pool, place, mapped, read_block, unmap_owners, unmap_blocks}
use Rattle.pool.proofs.Writing.{in_or_out}
use Rattle.pool.proofs.Unmapping.{mapped_unmap_in, mapped_unmap_out, place_unmapped_out}
use Rattle.forms.specs.declared.Move.{Move}
use Rattle.forms.specs.declared.Move.TheVariants.{Write, WriteSame}
use Rattle.forms.specs.declared.Command.TheVariants.{Moves}
use Rattle.forms.specs.Forms.{count_in}
use Rattle.store.specs.Store.{Store, Call, Seen, with_pool, usable, seen_of, with_unit, relieved, waiting}
use Rattle.store.specs.Same.{may_unmap, has_no_data, block_sent, unmaps_same, same_blocks}
use Rattle.store.specs.Conflict.{conflict, stops, ruled}
use Rattle.store.specs.Move.{write_rows, same_rows, move_rows, moved, fetched}
use Rattle.store.specs.Step.{step, answer_to, due}
use Rattle.store.proofs.ConflictLaws.{table_rule}
use Rattle.store.proofs.SameLaws.{sent_zeros, copies_long, same_in, same_out}
use Rattle.store.proofs.StoreLaws.{step_answer, step_seen}
use Rattle.store.proofs.MoveLaws.{same_passes}
use Rattle.demands.specs.History.{after}
use Rattle.demands.specs.Contents.{Asks, address_in, IsGood, by_itself, Reaches, Inside, Room, Outside, in_range}
use Rattle.demands.specs.WriteSame.{is_unmap, is_ndob, sent, Sends, covers, Clears, Writes, SameButUnmap, Repeats, WritesSame}
use Rattle.demands.proofs.Moving.{good_usable, good_pool, good_after, good_rows, refused_after, asks_data}
use Rattle.demands.proofs.Transfers.{usable_whole}
use Rattle.demands.proofs.WhenGood.{conflict_first, own_answers, rows_answer, decided_by_law}
use Rattle.demands.proofs.Unmaps.{in_range_law, range_in}
use Rattle.answers.specs.Answers.{number_of}
use Rattle.forms.proofs.Table.{is_inquiring}
use Rattle.rights.specs.Attentions.{refusal_of}
use Rattle.demands.proofs.Demand1.{told_store_law}
use Rattle.store.proofs.Parts.{asked_due, itself_righted}
use Rattle.demands.proofs.Answering.{due_answers, righted_reaches}

-- ---- ranges

-- two ways, with the test of the range
by_range : (a n b : ℕ) (P : Bool → Type 0) → ((i : ℕ) → i < n → b ≡ a + i → P true) → (Outside a n b → P false) → P (in_range a n b)
by_range a n b P f g =
    in_or_out a n b
    (λ i h e. subst P (sym (T_true (in_range a n b) (range_in a n b (omega arith) (omega arith)))) (f i h e))
    (λ out. by_test (in_range a n b) P (λ t. absurd (in_range_law a n b t out)) (λ t. g out))

-- which blocks are mapped after a range is unmapped
pub range_unmapped : (owners : List ℕ) (a n b : ℕ) → mapped (unmap_owners owners a n) b ≡ (mapped owners b && not (in_range a n b))
range_unmapped owners a n b =
    by_range a n b (λ q. mapped (unmap_owners owners a n) b ≡ (mapped owners b && not q))
    (λ i h e. ap (mapped (unmap_owners owners a n)) e ∙ mapped_unmap_in owners a n i h ∙ sym (and-false (mapped owners b)))
    (λ out. mapped_unmap_out owners a n b out ∙ sym (and-true (mapped owners b)))

range_out : (a n b : ℕ) → T (not (in_range a n b)) → Outside a n b
range_out a n b t = in_or_out a n b (λ i h e. absurd (T_not (in_range a n b) t (range_in a n b (omega arith) (omega arith)))) (λ out. out)

-- ---- whether it unmaps

module _ (c : Call) (a : Asks WriteSame c) where
  abbrev address : ℕ
  address = address_in a.request

  abbrev count : ℕ
  count = count_in a.request

  abbrev options : ℕ
  options = a.request.options

  sent_is : block_sent options c.data_out ≡ sent a.request c
  unfolding sent is_ndob block_sent has_no_data
  sent_is = refl

  clears_is : Clears a.request c → unmaps_same options c.data_out ≡ true
  unfolding is_unmap unmaps_same may_unmap
  clears_is k =
      T_true _ (both (may_unmap options) _ k.asked (true→T _ (ap are_zeros (sent_is ∙ k.zero) ∙ are_zeros_zeros 512)))

  writes_is : Sends a.request c → Writes a.request c → unmaps_same options c.data_out ≡ false
  unfolding is_unmap is_ndob unmaps_same may_unmap has_no_data
  writes_is there k =
      test (unmaps_same options c.data_out)
      (λ t. absurd (k (and_l (may_unmap options) _ t) (sym sent_is ∙ sent_zeros options c.data_out there (T_true _ t))))
      (λ t. T_false _ t)

  short : Sends a.request c → (not (has_no_data options) && ltb (length c.data_out) 512) ≡ false
  unfolding is_ndob has_no_data
  short there = go (has_no_data options) there
    where
      go : (b : Bool) → (b ≡ false → 512 ≤ length c.data_out) → (not b && ltb (length c.data_out) 512) ≡ false
      go true h = refl
      go false h = le-ltb (length c.data_out) 512 (h refl)

  writes_back : unmaps_same options c.data_out ≡ false → Writes a.request c
  writes_back e t z = absurd (true≢false (sym (clears_is (record { asked = t; zero = z })) ∙ e))

-- ---- one that is GOOD

module _ (s : Store) (c : Call) (a : Asks WriteSame c) (e : IsGood s c) where
  same_pool_law : (after step s c).pool ≡ same_blocks s.pool (address c a) (count c a) (options c a) c.data_out
  unfolding moved
  same_pool_law = good_pool WriteSame s c a e

  same_tests : Inside s a.request × Sends a.request c × (unmaps_same (options c a) c.data_out ≡ false → Room s a.request)
  unfolding move_rows is_ndob has_no_data
  same_tests =
      (same_passes s.unit.capacity s.pool.owners (address c a) (count c a) (options c a) c.data_out).0 (good_rows WriteSame s c a e)

  pub same_reads : (b : ℕ) → read_block (after step s c).pool b ≡ cond (covers a.request b) (sent a.request c) (read_block s.pool b)
  unfolding covers is_ndob has_no_data
  same_reads b =
      ap (λ (p : Pool). read_block p b) same_pool_law
      ∙ by_range (address c a) (count c a) b (λ q. read_block (same_blocks s.pool (address c a) (count c a) (options c a) c.data_out) b
      ≡ cond q (sent a.request c) (read_block s.pool b))
      (λ i h k. ap (read_block (same_blocks s.pool (address c a) (count c a) (options c a) c.data_out)) k
      ∙ same_in s.pool (address c a) (count c a) (options c a) c.data_out (usable_whole s (good_usable s c e)) same_tests.1 same_tests.2 i h
      ∙ sent_is c a)
      (λ out. same_out s.pool (address c a) (count c a) (options c a) c.data_out b out)

  module _ (k : Clears a.request c) where
    cleared_pool : (after step s c).pool ≡ unmap_blocks s.pool (address c a) (count c a)
    unfolding same_blocks
    cleared_pool = same_pool_law ∙ rw (clears_is c a k)

    cleared_map : (b : ℕ) → mapped (after step s c).pool.owners b ≡ (mapped s.pool.owners b && not (covers a.request b))
    unfolding covers unmap_blocks
    cleared_map b = ap (λ (p : Pool). mapped p.owners b) cleared_pool ∙ range_unmapped s.pool.owners (address c a) (count c a) b

    cleared_slots : (b : ℕ) → T (not (covers a.request b)) → place (suc b) (after step s c).pool.owners ≡ place (suc b) s.pool.owners
    unfolding covers unmap_blocks
    cleared_slots b t =
        ap (λ (p : Pool). place (suc b) p.owners) cleared_pool
        ∙ place_unmapped_out s.pool.owners (address c a) (count c a) b (range_out (address c a) (count c a) b t)

    cleared_bytes : (after step s c).pool.medium ≡ s.pool.medium
    unfolding unmap_blocks
    cleared_bytes = ap (λ (p : Pool). p.medium) cleared_pool

-- ---- when it is GOOD

same_good : (s : Store) (c : Call) (a : Asks WriteSame c) → Reaches s a
    → IsGood s c ↔ (Inside s a.request × Sends a.request c × (Writes a.request c → Room s a.request))
unfolding move_rows is_ndob has_no_data
same_good s c a r =
    let passes = same_passes s.unit.capacity s.pool.owners (address c a) (count c a) (options c a) c.data_out in
    decided_by_law (rows_answer WriteSame s c a r) (
      λ e. let h = passes.0 e in (h.0, h.1, λ w. h.2 (writes_is c a h.1 w)),
      λ h. passes.1 (h.0, h.1, λ e. h.2 (writes_back c a e)),
    )

-- ---- two calls on one store, both right by themselves

module _ (s : Store) (u : T (usable s)) (m n : Move) (c d : Call) (a : Asks m c) (b : Asks n d) (g : by_itself s.format c ≡ Good) (h : by_itself s.format d ≡ Good)
    (from : c.nexus ≡ d.nexus)
    (stop : conflict s.unit.rights c.nexus (Moves m) ≡ conflict s.unit.rights d.nexus (Moves n))
    (rows : first (move_rows m a.request s.unit.capacity s.pool c) ≡ first (move_rows n b.request s.unit.capacity s.pool d)) where
  -- what waits is due with both or with neither
  due_alike : due s.unit c.nexus c.cdb ≡ due s.unit d.nexus d.cdb
  unfolding is_inquiring
  due_alike =
      asked_due s.unit c.nexus c.cdb a.request a.is (rw a.command tt)
      ∙ ap (λ (x : ℕ). not (eqb (waiting s.unit x) 0)) from
      ∙ sym (asked_due s.unit d.nexus d.cdb b.request b.is (rw b.command tt))

  told_alike : T (due s.unit c.nexus c.cdb) → (step s c).seen.answer ≡ (step s d).seen.answer
  unfolding by_itself
  told_alike t =
      step_answer s c ∙ due_answers s c (righted_reaches s c u (itself_righted s.format c g)) t
      ∙ ap (λ (x : ℕ). Refused (refusal_of (waiting s.unit x))) from
      ∙ sym (step_answer s d ∙ due_answers s d (righted_reaches s d u (itself_righted s.format d h)) (rw (← due_alike) t))

  quiet_alike : T (not (due s.unit c.nexus c.cdb)) → (step s c).seen.answer ≡ (step s d).seen.answer
  quiet_alike q =
      let r : T (not (due s.unit d.nexus d.cdb)) = rw (← due_alike) q in
      test (conflict s.unit.rights c.nexus (Moves m))
      (λ t. conflict_first m s c a u g q (T_true _ t) ∙ sym (conflict_first n s d b u h r (sym stop ∙ T_true _ t)))
      (λ t. own_answers m s c a u g q (T_false _ t) ∙ rows ∙ sym (own_answers n s d b u h r (sym stop ∙ T_false _ t)))

  pub answered_alike : (step s c).seen.answer ≡ (step s d).seen.answer
  answered_alike = test (due s.unit c.nexus c.cdb) told_alike quiet_alike

  -- and leave the same pool, if that is what each leaves where it is done
  pub left_alike : moved m a.request s.pool c ≡ moved n b.request s.pool d → after step s c ≡ after step s d
  left_alike e =
      good_cases (step s c).seen.answer
      (λ k. good_after m s c a k ∙ ap (with_pool s) e ∙ sym (good_after n s d b (sym answered_alike ∙ k)))
      (λ t. by_equal (number_of (step s c).seen.answer) 13 (λ _. after step s c ≡ after step s d)
      (λ k. told_store_law s c k ∙ ap (λ (x : ℕ). with_unit s (relieved s.unit x)) from ∙ sym (told_store_law s d (ap number_of (sym answered_alike) ∙ k)))
      (λ k. refused_after s c t k ∙ sym (refused_after s d (rw answered_alike at t) (λ z. k (ap number_of answered_alike ∙ z)))))

-- ---- UNMAP with a block that is not zeros

module _ (s : Store) (u : T (usable s)) (c d : Call) (a : Asks WriteSame c) (b : Asks WriteSame d) (e : SameButUnmap s.format a b)
    (there : Sends a.request c) (other : sent a.request c ≢ zeros 512) where
  same_sent : sent a.request c ≡ sent b.request d
  unfolding sent
  same_sent = rw (e.ndob, e.data_out)

  first_writes : unmaps_same (options c a) c.data_out ≡ false
  first_writes = writes_is c a there (λ t z. absurd (other z))

  second_writes : unmaps_same (options d b) d.data_out ≡ false
  second_writes = writes_is d b (λ t. subst (λ (l : List ℕ). 512 ≤ length l) e.data_out (there (e.ndob ∙ t))) (λ t z. absurd (other (same_sent ∙ z)))

  rows_alike : move_rows WriteSame a.request s.unit.capacity s.pool c ≡ move_rows WriteSame b.request s.unit.capacity s.pool d
  unfolding move_rows same_rows is_ndob has_no_data
  rows_alike = rw (first_writes, second_writes, e.range.address, e.range.count, e.ndob, e.data_out)

  moved_alike : moved WriteSame a.request s.pool c ≡ moved WriteSame b.request s.pool d
  unfolding moved same_blocks
  moved_alike = rw (first_writes, second_writes, sent_is c a, sent_is d b, same_sent, e.range.address, e.range.count)

  stops_alike : conflict s.unit.rights c.nexus (Moves WriteSame) ≡ conflict s.unit.rights d.nexus (Moves WriteSame)
  stops_alike = ap (λ (n : ℕ). conflict s.unit.rights n (Moves WriteSame)) e.nexus

  answers : (step s c).seen.answer ≡ (step s d).seen.answer
  answers = answered_alike s u WriteSame WriteSame c d a b e.first_right e.second_right e.nexus stops_alike (ap first rows_alike)

  buffers : (x : Answer) → seen_of s.format x [] c ≡ seen_of s.format x [] d
  unfolding seen_of
  buffers x = rw (e.data_in, e.sense)

  sights : (step s c).seen ≡ (step s d).seen
  unfolding fetched
  sights =
      step_seen s c
      ∙ ap₂ (λ (x : Answer) (bs : List ℕ). seen_of s.format x bs c) (sym (step_answer s c) ∙ answers ∙ step_answer s d) (asks_data WriteSame c a s)
      ∙ buffers (answer_to s d)
      ∙ sym (ap (λ (bs : List ℕ). seen_of s.format (answer_to s d) bs d) (asks_data WriteSame d b s))
      ∙ sym (step_seen s d)

  unmap_or_not : step s c ≡ step s d
  unfolding after
  unmap_or_not =
      ap₂ (λ (x : Seen) (y : Store). record { seen = x; store = y }) sights
      (left_alike s u WriteSame WriteSame c d a b e.first_right e.second_right e.nexus stops_alike (ap first rows_alike) moved_alike)

-- ---- a WRITE of the block as many times over

module _ (s : Store) (u : T (usable s)) (c w : Call) (a : Asks WriteSame c) (b : Asks Write w) (e : Repeats s.format a b)
    (there : Sends a.request c) (writes : Writes a.request c) where
  long : 512 * count_in b.request ≤ length w.data_out
  unfolding is_ndob has_no_data
  long =
      rw (← e.range.count, e.bytes, ← sent_is c a) (copies_long (options c a) c.data_out there (count c a))

  rows_as_write : move_rows WriteSame a.request s.unit.capacity s.pool c ≡ move_rows Write b.request s.unit.capacity s.pool w
  unfolding move_rows same_rows write_rows
  rows_as_write =
      rw (writes_is c a there writes, short c a there, le-ltb (length w.data_out) (512 * count_in b.request) long, e.range.address, e.range.count)

  moved_as_write : moved WriteSame a.request s.pool c ≡ moved Write b.request s.pool w
  unfolding moved same_blocks
  moved_as_write = rw (writes_is c a there writes, sent_is c a, ← e.bytes, e.range.address, e.range.count)

  stops_as_write : conflict s.unit.rights c.nexus (Moves WriteSame) ≡ conflict s.unit.rights w.nexus (Moves Write)
  unfolding ruled stops
  stops_as_write =
      table_rule s.unit.rights c.nexus (Moves WriteSame)
      ∙ ap (λ (n : ℕ). ruled s.unit.rights n (Moves Write)) e.nexus
      ∙ sym (table_rule s.unit.rights w.nexus (Moves Write))

pub writes_same_law : WritesSame step
writes_same_law = record {
  reads = same_reads;
  clears_map = cleared_map;
  clears_slots = cleared_slots;
  clears_bytes = cleared_bytes;
  good_when = same_good;
  nonzero = λ s c d a b u e there other. unmap_or_not s u c d a b e there other;
  answered_as_write = λ s c w a b u e there writes.
      answered_alike s u WriteSame Write c w a b e.first_right e.second_right e.nexus (stops_as_write s u c w a b e there writes)
      (ap first (rows_as_write s u c w a b e there writes));
  leaves_as_write = λ s c w a b u e there writes.
      left_alike s u WriteSame Write c w a b e.first_right e.second_right e.nexus (stops_as_write s u c w a b e there writes)
      (ap first (rows_as_write s u c w a b e there writes)) (moved_as_write s u c w a b e there writes);
}
