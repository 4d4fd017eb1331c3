-- From a fresh store: the last GOOD write or unmapping of a block decides what it reads, and the reservation-out calls alone decide the rights.
-- Assumes nothing.
use mathlib.Core.Path.{◌≡◌, refl, sym, ap, ap₂, ◌∙◌}
use mathlib.Core.Bool.{Bool, true, false, cond, ◌||◌}
use mathlib.Core.List.{List, [], ◌∷◌, ◌++◌}
use Prim.Native.Nat.{ℕ, zero, suc, ◌-◌, ◌*◌}
use native.Mathlib.Omega.{arith}
use lib.Dec.{T}
use lib.ListN.{length}
use Rattle.fields.proofs.Tests.{by_test, true→T, false→T, T_true, or_other, nor_l, nor_r, test}
use Rattle.answers.specs.declared.Answer.TheVariants.{Good}
use Rattle.answers.proofs.OrderLaws.{if_good_law, if_refused, good_cases}
use Rattle.answers.specs.Sense.{format_ok}
use Rattle.pool.specs.Pool.{Pool, read_block, read_blocks}
use Rattle.pool.specs.Valid.{capacity_ok, slots_ok}
use Rattle.pool.proofs.Writing.{in_or_out}
use Rattle.forms.specs.declared.Move.TheVariants.{Read, Write, WriteSame, Unmap, Status}
use Rattle.forms.specs.declared.Command.{Command}
use Rattle.forms.specs.declared.Command.TheVariants.{Tells, Moves, Alters}
use Rattle.forms.specs.declared.Request.{Request}
use Rattle.forms.specs.Forms.{Asked, nothing, asks, asked_of, count_in}
use Rattle.store.specs.Store.{Store, Call, usable, seen_of}
use Rattle.store.specs.Same.{has_no_data, block_sent}
use Rattle.store.specs.Move.{moved}
use Rattle.store.specs.Fresh.{fresh_store}
use Rattle.store.specs.Step.{command_store, store_by, step}
use Rattle.demands.specs.History.{Event, call, after, after_event, machine, is_out, after_all, add}
use Rattle.demands.specs.Contents.{Asks, address_in, IsGood, in_range, plain}
use Rattle.demands.specs.WriteSame.{is_ndob, sent, covers}
use Rattle.demands.specs.FromFresh.{Answered, answered, outs, block_of, reads_after, reads_by, reads, recalled_from, recalled, recalled_blocks, FromFresh}
use Rattle.demands.proofs.Usable.{usable_stays, format_after}
use Rattle.demands.proofs.Fresh.{fresh_usable}
use Rattle.demands.proofs.Demand3.{other_unit, out_unit, event_usable, plain_usable, plain_unit, plain_format, told_waited, waited_unit}
use Rattle.demands.proofs.Moving.{done_after, refused_pool, good_any}
use Rattle.demands.proofs.Transfers.{read_seen, write_contents, write_keeps, fresh_contents}
use Rattle.demands.proofs.Unmaps.{in_range_law, range_in, unmap_contents}
use Rattle.demands.proofs.WriteSame.{same_reads}
use Rattle.answers.specs.Answers.{is_attention}
use Rattle.store.proofs.StoreLaws.{step_answer}

-- ---- one call

module _ (s : Store) (c : Call) (g : IsGood s c) (b : ℕ) where
  by_write : (a : Asks Write c) → read_block (after step s c).pool b ≡ reads_after (Moves Write) a.request c.data_out b (read_block s.pool b)
  unfolding reads_after block_of
  by_write a =
      let x = address_in a.request in
      let n = count_in a.request in
      in_or_out x n b
      (λ i h e. let d : i ≡ b - x = omega arith in ap (read_block (after step s c).pool) e ∙ write_contents s c a g i h
      ∙ ap (λ (k : ℕ). block_of k c.data_out) d
      ∙ sym (ap (λ (q : Bool). cond q (block_of (b - x) c.data_out) (read_block s.pool b)) (T_true (in_range x n b) (range_in x n b (omega arith) (omega arith)))))
      (λ out. by_test (in_range x n b) (λ q. read_block (after step s c).pool b ≡ cond q (block_of (b - x) c.data_out) (read_block s.pool b))
      (λ t. absurd (in_range_law x n b t out)) (λ t. write_keeps s c a b out))

  -- what is done, by what was asked
  done_reads : (k : Command) (q : Request) → asked_of c.cdb ≡ asks q → q.command ≡ k
      → read_block (command_store k q s c).pool b ≡ read_block (after step s c).pool b
      → read_block (after step s c).pool b ≡ reads_after k q c.data_out b (read_block s.pool b)
  unfolding reads_after command_store moved covers sent is_ndob block_sent has_no_data
  done_reads (Tells t) q a e d = sym d
  done_reads (Moves Read) q a e d = sym d
  done_reads (Moves Write) q a e d = by_write (record { request = q; is = a; command = e })
  done_reads (Moves WriteSame) q a e d = same_reads s c (record { request = q; is = a; command = e }) g b
  done_reads (Moves Unmap) q a e d = unmap_contents s c (record { request = q; is = a; command = e }) g b
  done_reads (Moves Status) q a e d = sym d
  done_reads (Alters x) q a e d = sym d

  good_reads : (x : Asked) → asked_of c.cdb ≡ x → read_block (store_by x s c).pool b ≡ read_block (after step s c).pool b
      → read_block (after step s c).pool b ≡ reads_by x c.data_out b (read_block s.pool b)
  unfolding reads_by store_by
  good_reads nothing a d = sym d
  good_reads (asks q) a d = done_reads q.command q a refl d

-- what a block reads after a call is determined by what it read, the call and its answer
pub step_reads : (s : Store) (c : Call) (b : ℕ)
    → read_block (after step s c).pool b ≡ reads (record { sent = c; answer = (step s c).seen.answer }) b (read_block s.pool b)
unfolding reads
step_reads s c b =
    good_cases (step s c).seen.answer
    (λ g. good_reads s c g b (asked_of c.cdb) refl (ap (λ (x : Store). read_block x.pool b) (sym (done_after s c g)))
    ∙ sym (if_good_law (step s c).seen.answer _ _ g))
    (λ r. ap (λ (p : Pool). read_block p b) (refused_pool s c r) ∙ sym (if_refused (step s c).seen.answer _ _ r))

-- ---- any history, from any store

pub history_usable : (s : Store) (es : List Event) → T (usable s) → T (usable (after_all (machine step) s es))
unfolding after_all
history_usable s [] u = u
history_usable s (e ∷ es) u = history_usable (after_event step s e) es (event_usable s e u)

pub history_reads : (s : Store) (es : List Event) (b : ℕ)
    → read_block (after_all (machine step) s es).pool b ≡ recalled_from (read_block s.pool b) (answered s es) b
unfolding after_all after_event answered recalled_from
history_reads s [] b = refl
history_reads s (call c ∷ es) b =
    history_reads (after step s c) es b
    ∙ ap (λ (old : List ℕ). recalled_from old (answered (after step s c) es) b) (step_reads s c b)

-- two stores that agree on the format and the unit's record, of which one has the reservation-out calls and those that are told what waits alone
pub unit_by_outs : (s t : Store) (es : List Event) → T (usable s) → T (usable t) → s.format ≡ t.format → s.unit ≡ t.unit
    → (after_all (machine step) s es).unit ≡ (after_all (machine step) t (outs (answered s es))).unit
unfolding after_all after_event answered outs add
unit_by_outs s t [] u v f e = e
unit_by_outs s t (call c ∷ es) u v f e =
    go (is_out c || is_attention (step s c).seen.answer) refl
    (λ w d. unit_by_outs (after step s c) (after step t c) es (usable_stays s c u) w (format_after s c ∙ f ∙ sym (format_after t c)) d)
    (λ d. unit_by_outs (after step s c) t es (usable_stays s c u) v (format_after s c ∙ f) d)
  where
    rest : List Event
    rest = outs (answered (after step s c) es)

    told : Bool
    told = is_attention (step s c).seen.answer

    same : T (is_out c || told) → (after step s c).unit ≡ (after step t c).unit
    same h =
        test (is_out c) (λ o. out_unit s t c u v f e o)
        (λ n. waited_unit s t c u v f e (told_waited s c (rw (step_answer s c) at (or_other (is_out c) told n h))))

    go : (b : Bool) → (is_out c || told) ≡ b
        → (T (usable (after step t c)) → (after step s c).unit ≡ (after step t c).unit
        → (after_all (machine step) (after step s c) es).unit ≡ (after_all (machine step) (after step t c) rest).unit)
        → ((after step s c).unit ≡ t.unit → (after_all (machine step) (after step s c) es).unit ≡ (after_all (machine step) t rest).unit)
        → (after_all (machine step) (after step s c) es).unit ≡ (after_all (machine step) t (add b (call c) rest)).unit
    go true h x y = x (usable_stays t c v) (same (true→T _ h))
    go false h x y =
        y (other_unit s c (nor_l (is_out c) told (false→T _ h)) (rw (step_answer s c) at (nor_r (is_out c) told (false→T _ h))) ∙ e)

-- ---- from a fresh store

blocks_recalled : (p : Pool) (xs : List Answered) → ((b : ℕ) → read_block p b ≡ recalled xs b) → (a n : ℕ) → read_blocks p a n ≡ recalled_blocks xs a n
unfolding read_blocks recalled_blocks
blocks_recalled p xs each a zero = refl
blocks_recalled p xs each a (suc n) = ap₂ (λ (x y : List ℕ). x ++ y) (each a) (blocks_recalled p xs each (suc a) n)

module _ (capacity format slots : ℕ) (medium : List ℕ) where
  pub fresh_blocks : (es : List Event) (b : ℕ)
      → read_block (after_all (machine step) (fresh_store capacity format slots medium) es).pool b ≡ recalled (answered (fresh_store capacity format slots medium) es) b
  unfolding recalled
  fresh_blocks es b =
      history_reads (fresh_store capacity format slots medium) es b
      ∙ ap (λ (old : List ℕ). recalled_from old (answered (fresh_store capacity format slots medium) es) b) (fresh_contents capacity format slots medium b)

  pub from_fresh : T (capacity_ok capacity) → T (format_ok format) → T (slots_ok slots) → length medium ≡ 512 * slots → FromFresh (fresh_store capacity format slots medium)
  from_fresh x f y e =
      let s = fresh_store capacity format slots medium in
      let u = fresh_usable capacity format slots medium x f y e in
      record {
        usable_ever = λ es. history_usable s es u;
        blocks = fresh_blocks;
        read_back = λ es r a g. read_seen (after_all (machine step) s es) r a g
            ∙ good_any (after_all (machine step) s es).format s.format _ r
            ∙ ap (λ (bs : List ℕ). seen_of s.format Good bs r)
            (blocks_recalled (after_all (machine step) s es).pool (answered s es) (fresh_blocks es) (address_in a.request) (count_in a.request));
        rights_by_outs = λ es. unit_by_outs s (plain s.format s.unit) es u (plain_usable s u) (sym (plain_format s.format s.unit)) (sym (plain_unit s.format s.unit));
      }
