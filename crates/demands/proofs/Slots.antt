-- Slots do not matter: two stores that agree on the unit's record, on what every block reads, on which blocks are mapped and on the number of free
-- slots answer every call alike, stay so, and therefore answer alike for ever. Which slot holds which block may differ, and all bytes of free slots.
-- Assumes nothing.
use mathlib.Core.Path.{◌≡◌, refl, sym, ap, ap₂, ◌∙◌, subst₂}
use mathlib.Core.Bool.{Bool, true, false, not, ◌&&◌}
use mathlib.Core.List.{List, [], ◌∷◌}
use Prim.Native.Nat.{ℕ, ◌*◌}
use lib.Dec.{T, leb, ltb}
use lib.ListN.{length, take}
use Rattle.answers.specs.declared.Answer.{Answer}
use Rattle.answers.specs.declared.Answer.TheVariants.{Good, Short}
use Rattle.answers.specs.Answers.{out_of_range, no_room, number_of}
use Rattle.answers.specs.Order.{Row, ◌if◌, first, first_of}
use Rattle.answers.proofs.OrderLaws.{good_cases}
use Rattle.answers.specs.Sense.{format_ok}
use Rattle.pool.specs.Pool.{Pool, room_for}
use Rattle.pool.specs.Valid.{capacity_ok, slots_ok, pool_ok}
use Rattle.pool.proofs.Keeping.{map_ok_distinct, pool_ok_whole, pool_ok_map, pool_ok_marks, pool_ok_unmap_blocks}
use Rattle.pool.specs.Alike.{Alike}
use Rattle.pool.proofs.Alike.{alike_self, alike_back, alike_through, alike_unmapped, alike_reads, alike_write, alike_unmap}
use Rattle.descriptors.specs.declared.Descriptor.{Descriptor}
use Rattle.runs.proofs.RunLaws.{status_same}
use Rattle.forms.specs.declared.Move.{Move}
use Rattle.forms.specs.declared.Move.TheVariants.{Read, Write, WriteSame, Unmap, Status}
use Rattle.forms.specs.declared.Command.{Command}
use Rattle.forms.specs.declared.Command.TheVariants.{Tells, Moves, Alters}
use Rattle.forms.specs.declared.Request.{Request}
use Rattle.forms.specs.Forms.{Asked, nothing, asks, asked_of, count_in, allocation_in}
use Rattle.forms.proofs.Table.{is_moves}
use Rattle.store.specs.declared.Unit.{Unit}
use Rattle.store.specs.Store.{Store, Call, Seen, usable, seen_of, relieved}
use Rattle.store.specs.Same.{unmaps_same}
use Rattle.store.specs.Move.{write_rows, same_rows, status_told, status_rows, move_rows, moved, fetched}
use Rattle.store.specs.Fresh.{fresh_store}
use Rattle.store.specs.Step.{command_rows, own_rows, command_data, data_by, command_store, store_by, step, answer_to}
use Rattle.store.proofs.Parts.{answers_alike, good_own}
use Rattle.store.proofs.StoreLaws.{step_answer, step_seen, command_rows_law, command_data_law, command_unit}
use Rattle.store.proofs.SameLaws.{same_alike}
use Rattle.store.proofs.MoveLaws.{write_passes, same_passes}
use Rattle.demands.specs.History.{Event, call, after, after_event, machine, seen_all}
use Rattle.demands.specs.Contents.{descriptors_of, unmap_each, Same}
use Rattle.demands.proofs.Usable.{usable_pool, usable_stays}
use Rattle.demands.proofs.Fresh.{fresh_usable}
use Rattle.demands.proofs.Moving.{done_after, refused_after}
use Rattle.demands.proofs.Transfers.{fresh_contents}
use Rattle.demands.proofs.Unmaps.{each_moved}
use Rattle.fields.proofs.Tests.{by_equal}
use Rattle.demands.proofs.Demand1.{told_store_law}

pub same_self : (s : Store) → Same s s
same_self s = record { format = refl; unit = refl; pool = alike_self s.pool }

pub same_back : (s t : Store) → Same s t → Same t s
same_back s t e = record { format = sym e.format; unit = sym e.unit; pool = alike_back s.pool t.pool e.pool }

pub same_through : (s t x : Store) → Same s t → Same t x → Same s x
same_through s t x e d = record { format = e.format ∙ d.format; unit = e.unit ∙ d.unit; pool = alike_through s.pool t.pool x.pool e.pool d.pool }

-- ---- what is seen

behind : (a : Answer) (b : Bool) (xs ys : List Row) → first xs ≡ first ys → first (a if b ∷ xs) ≡ first (a if b ∷ ys)
unfolding first_of
behind a true xs ys e = refl
behind a false xs ys e = e

rows_same : (m : Move) (q : Request) (capacity : ℕ) (x y : Pool) (c : Call) → Alike x y → first (move_rows m q capacity x c) ≡ first (move_rows m q capacity y c)
unfolding move_rows write_rows same_rows status_rows status_told room_for
rows_same Read q capacity x y c l = refl
rows_same Write q capacity x y c l =
    behind (out_of_range _) _ _ _ (behind Short _ _ _
    (ap₂ (λ (m n : ℕ). first (no_room q.address.0 if not (leb m n) ∷ [])) (alike_unmapped x y l q.address.0 (count_in q)) l.frees))
rows_same WriteSame q capacity x y c l =
    behind (out_of_range _) _ _ _ (behind Short _ _ _
    (ap₂ (λ (m n : ℕ). first (no_room q.address.0 if (not (unmaps_same q.options c.data_out) && not (leb m n)) ∷ []))
    (alike_unmapped x y l q.address.0 (count_in q)) l.frees))
rows_same Unmap q capacity x y c l = refl
rows_same Status q capacity x y c l =
    ap (λ (page : List ℕ). first (out_of_range q.address.0 if leb capacity q.address.0 ∷ Short if ltb (length c.data_in) (length (take (allocation_in q) page)) ∷ []))
    (status_same capacity q.address.0 x.owners y.owners l.maps)

fetched_same : (m : Move) (q : Request) (capacity : ℕ) (x y : Pool) → Alike x y → fetched m q capacity x ≡ fetched m q capacity y
unfolding fetched status_told
fetched_same Read q capacity x y l = alike_reads x y l q.address.0 (count_in q)
fetched_same Write q capacity x y l = refl
fetched_same WriteSame q capacity x y l = refl
fetched_same Unmap q capacity x y l = refl
fetched_same Status q capacity x y l = ap (take (allocation_in q)) (status_same capacity q.address.0 x.owners y.owners l.maps)

module _ (s t : Store) (c : Call) (e : Same s t) where
  command_same : (k : Command) (q : Request) → first (command_rows k q s c) ≡ first (command_rows k q t c)
  unfolding command_rows is_moves
  command_same (Tells x) q = ap first (command_rows_law (Tells x) q s t c tt e.unit)
  command_same (Moves m) q =
      ap (λ (u : Unit). first (move_rows m q u.capacity s.pool c)) e.unit ∙ rows_same m q t.unit.capacity s.pool t.pool c e.pool
  command_same (Alters a) q = ap first (command_rows_law (Alters a) q s t c tt e.unit)

  own_same : (x : Asked) → first (own_rows x s c) ≡ first (own_rows x t c)
  unfolding own_rows
  own_same nothing = refl
  own_same (asks q) = command_same q.command q

  returned_same : (k : Command) (q : Request) → command_data k q s ≡ command_data k q t
  unfolding command_data is_moves
  returned_same (Tells x) q = command_data_law (Tells x) q s t tt e.unit
  returned_same (Moves m) q =
      ap (λ (u : Unit). fetched m q u.capacity s.pool) e.unit ∙ fetched_same m q t.unit.capacity s.pool t.pool e.pool
  returned_same (Alters a) q = command_data_law (Alters a) q s t tt e.unit

  data_same : (x : Asked) → data_by x s ≡ data_by x t
  unfolding data_by
  data_same nothing = refl
  data_same (asks q) = returned_same q.command q

-- every call is answered alike: answer, returned length, data-in and sense
pub same_seen : (s t : Store) (c : Call) → T (usable s) → T (usable t) → Same s t → (step s c).seen ≡ (step t c).seen
same_seen s t c u v e =
    step_seen s c
    ∙ ap₂ (λ (a : Answer) (bs : List ℕ). seen_of s.format a bs c)
    (answers_alike s t c u v e.format e.unit (λ w g. own_same s t c e (asked_of c.cdb))) (data_same s t c e (asked_of c.cdb))
    ∙ ap (λ (f : ℕ). seen_of f (answer_to t c) (data_by (asked_of c.cdb) t) c) e.format
    ∙ sym (step_seen t c)

-- ---- what is left

each_same : (capacity : ℕ) (ds : List Descriptor) (p q : Pool) → T (pool_ok capacity p) → T (pool_ok capacity q) → Alike p q → Alike (unmap_each p ds) (unmap_each q ds)
unfolding unmap_each
each_same capacity [] p q u v l = l
each_same capacity (d ∷ ds) p q u v l =
    each_same capacity ds _ _ (pool_ok_unmap_blocks capacity p d.address.0 d.count u) (pool_ok_unmap_blocks capacity q d.address.0 d.count v)
    (alike_unmap p q l d.address.0 d.count
    (map_ok_distinct capacity p.owners (pool_ok_map capacity p u)) (map_ok_distinct capacity q.owners (pool_ok_map capacity q v)))

module _ (capacity : ℕ) (x y : Pool) (c : Call) (u : T (pool_ok capacity x)) (v : T (pool_ok capacity y)) (l : Alike x y) where
  moved_same : (m : Move) (q : Request) → first (move_rows m q capacity x c) ≡ Good → Alike (moved m q x c) (moved m q y c)
  unfolding move_rows moved
  moved_same Read q e = l
  moved_same Write q e =
      let h = (write_passes capacity x.owners q.address.0 (count_in q) c.data_out).0 e in
      alike_write x y l q.address.0 (count_in q) c.data_out (pool_ok_whole capacity x u) (pool_ok_whole capacity y v) h.1 h.2
  moved_same WriteSame q e =
      let h = (same_passes capacity x.owners q.address.0 (count_in q) q.options c.data_out).0 e in
      same_alike x y l q.address.0 (count_in q) q.options c.data_out (pool_ok_whole capacity x u) (pool_ok_whole capacity y v)
      (map_ok_distinct capacity x.owners (pool_ok_map capacity x u)) (map_ok_distinct capacity y.owners (pool_ok_map capacity y v)) h.1 h.2
  moved_same Unmap q e =
      subst₂ Alike (sym (each_moved q x c (pool_ok_marks capacity x u))) (sym (each_moved q y c (pool_ok_marks capacity y v)))
      (each_same capacity (descriptors_of q c.data_out) x y u v l)
  moved_same Status q e = l

module _ (s t : Store) (c : Call) (u : T (usable s)) (v : T (usable t)) (e : Same s t) where
  left_same : (k : Command) (q : Request) → first (command_rows k q s c) ≡ Good → Same (command_store k q s c) (command_store k q t c)
  unfolding command_rows command_store
  left_same (Tells x) q g = e
  left_same (Moves m) q g = record {
    format = e.format;
    unit = e.unit;
    pool = moved_same s.unit.capacity s.pool t.pool c (usable_pool s u) (rw e.unit (usable_pool t v)) e.pool m q g;
  }
  left_same (Alters a) q g = record { format = e.format; unit = command_unit (Alters a) q s t c e.unit; pool = e.pool }

  done_same : (x : Asked) → first (own_rows x s c) ≡ Good → Same (store_by x s c) (store_by x t c)
  unfolding own_rows store_by
  done_same nothing g = e
  done_same (asks q) g = left_same q.command q g

-- and they stay the same
pub same_after : (s t : Store) (c : Call) → T (usable s) → T (usable t) → Same s t → Same (after step s c) (after step t c)
same_after s t c u v e =
    let q : (step s c).seen.answer ≡ (step t c).seen.answer = ap (λ (x : Seen). x.answer) (same_seen s t c u v e) in
    good_cases (step s c).seen.answer
    (λ g. subst₂ Same (sym (done_after s c g)) (sym (done_after t c (sym q ∙ g)))
    (done_same s t c u v e (asked_of c.cdb) (good_own s c (sym (step_answer s c) ∙ g))))
    (λ r. by_equal (number_of (step s c).seen.answer) 13 (λ _. Same (after step s c) (after step t c))
    (λ k. subst₂ Same (sym (told_store_law s c k)) (sym (told_store_law t c (ap number_of (sym q) ∙ k)))
    (record { format = e.format; unit = ap (λ (x : Unit). relieved x c.nexus) e.unit; pool = e.pool }))
    (λ k. subst₂ Same (sym (refused_after s c r k)) (sym (refused_after t c (rw q at r) (λ z. k (ap number_of q ∙ z)))) e))

-- ---- for ever

pub same_answers : (s t : Store) → T (usable s) → T (usable t) → Same s t → (es : List Event) → seen_all (machine step) s es ≡ seen_all (machine step) t es
unfolding seen_all after_event
same_answers s t u v e [] = refl
same_answers s t u v e (call c ∷ es) =
    ap₂ (λ (x : Seen) (xs : List Seen). x ∷ xs) (same_seen s t c u v e)
    (same_answers (after step s c) (after step t c) (usable_stays s c u) (usable_stays t c v) (same_after s t c u v e) es)

-- ---- a fresh store

-- what the medium held before is never seen, by any history
pub fresh_same : (capacity format slots : ℕ) (medium medium' : List ℕ) → Same (fresh_store capacity format slots medium) (fresh_store capacity format slots medium')
unfolding fresh_store
fresh_same capacity format slots medium medium' = record {
  format = refl;
  unit = refl;
  pool = record { frees = refl; maps = λ b. refl; reads = λ b. fresh_contents capacity format slots medium b ∙ sym (fresh_contents capacity format slots medium' b) };
}

pub old_bytes_hidden : (capacity format slots : ℕ) (medium medium' : List ℕ) → T (capacity_ok capacity) → T (format_ok format) → T (slots_ok slots)
    → length medium ≡ 512 * slots → length medium' ≡ 512 * slots → (es : List Event)
    → seen_all (machine step) (fresh_store capacity format slots medium) es ≡ seen_all (machine step) (fresh_store capacity format slots medium') es
old_bytes_hidden capacity format slots medium medium' x f y e e' es =
    same_answers (fresh_store capacity format slots medium) (fresh_store capacity format slots medium') (fresh_usable capacity format slots medium x f y e)
    (fresh_usable capacity format slots medium' x f y e') (fresh_same capacity format slots medium medium') es
