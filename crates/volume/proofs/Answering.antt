-- What the answers of the volume's entry points say of the call, and what a refusal leaves; what is read off the marks is the room.
-- Assumes nothing.
use mathlib.Core.Path.{◌≡◌, refl, sym, ap, ◌∙◌}
use mathlib.Core.Bool.{Bool, true, false, not, ◌&&◌}
use mathlib.Core.List.{List, [], ◌∷◌}
use mathlib.Core.Logic.{◌↔◌, ◌≢◌}
use Prim.Native.Nat.{ℕ, ◌+◌, ◌*◌, ◌<◌, ◌≤◌}
use native.Mathlib.Omega.{arith}
use lib.Dec.{T, eqb, leb, ltb}
use lib.ListN.{length}
use borrow.Author.Tests.{eq-eqb, ne_eqb, le-leb, lt-leb, lt-ltb, le-ltb, leb-true, ltb-false, eqb-true, not-false}
use Rattle.fields.specs.Bytes.{put, zeros}
use Rattle.fields.proofs.Tests.{nand_rest, true→T, false→T, test, T_true, T_false}
use Rattle.order.specs.Order.{Row, ◌if◌, OneGood}
use Rattle.order.proofs.OrderLaws.{row_pass, row_stop, row_end, row_fails, rows_after, next_refuses, next_good, next_first, next_second, if_refused, if_good_law}
use Rattle.pool.specs.Bounds.{most_blocks, most_slots, most_transfer, block_bytes, mark_words}
use Rattle.pool.specs.Marks.{marks_of, marks_ok, marked}
use Rattle.pool.specs.Pool.{Pool, pool, read_blocks, write_blocks, room_for, unmap_owners, unmap_blocks}
use Rattle.pool.specs.Valid.{capacity_ok, slots_ok, map_ok, pool_ok, checked, Check}
use Rattle.pool.specs.declared.Flaw.{Flaw}
use Rattle.pool.proofs.Clashes.{checked_valid, valid_checked}
use Rattle.pool.proofs.Keeping.{pool_ok_slots, pool_ok_whole, pool_ok_map, pool_ok_marks, pool_ok_of}
use Rattle.pool.proofs.Marking.{marks_ok_is, is_marks_ok}
use Rattle.map.specs.Write.{written, try_write}
use Rattle.map.proofs.Trying.{tried, after}
use Rattle.volume.specs.Volume.{Answer, done, refuses, first, next, if_done, told, room_by, bounds, sound, usable, transfer, read, read_answer, read_of, Wrote, wrote, write_answer, write_of, left, left_of, unmap_answer, unmap_of, fresh_answer, fresh_of, room_of, RightOwners, WrongMarks}
use Rattle.marks.specs.Words.{room_in}
use Rattle.marks.proofs.Walked.{walked, two_marked, marked_at_most, room_in_walked}
use Rattle.volume.specs.declared.Trouble.{Trouble}
use Rattle.volume.specs.declared.Trouble.TheVariants.{BadBounds, Invalid, Mismarked, TooMany, OutOfRange, Short, NoRoom}
use Rattle.std.specs.Prelude.{Ok, Err}

-- ---- refusals, and rows of this type of answer

pub refused : (r : Answer) → r ≢ done → T (refuses r)
unfolding refuses
refused (Ok _) n = absurd (n refl)
refused (Err t) n = tt

pub one_done : OneGood done refuses
unfolding refuses
one_done = record { passes = refl; alone = alone }
  where
    alone : (r : Answer) → refuses r ≡ false → r ≡ done
    alone (Ok _) e = refl
    alone (Err t) e = cc

module _ (a : Answer) (b : Bool) (rows : List (Row Answer)) where
  holds : b ≡ true → first (a if b ∷ rows) ≡ a
  holds e = row_stop done a b rows e

  passes : b ≡ false → first (a if b ∷ rows) ≡ first rows
  passes e = row_pass done a b rows e

  -- a row of what has to hold
  unmet : T (not b) → first (a if not b ∷ rows) ≡ a
  unmet t = row_stop done a (not b) rows (T_true (not b) t)

  met : T b → first (a if not b ∷ rows) ≡ first rows
  met t = row_pass done a (not b) rows (ap not (T_true b t))

  first_has : T (refuses a) → first (a if b ∷ rows) ≡ done → (b ≡ false) × (first rows ≡ done)
  first_has t e = (row_fails one_done a b rows t e, rows_after one_done a b rows t e)

-- an answer that a row does not give is given behind it
passed : (x a : Answer) (b : Bool) (rows : List (Row Answer)) → a ≢ x → first (a if b ∷ rows) ≡ x → (b ≡ false) × (first rows ≡ x)
passed x a b rows d e =
    test b (λ t. absurd (d (sym (holds a b rows (T_true b t)) ∙ e)))
    (λ t. (T_false b t, sym (passes a b rows (T_false b t)) ∙ e))

first_none : first [] ≡ done
first_none = row_end done

next_done : (later : Answer) → next done later ≡ later
next_done later = next_good one_done later

stands : (r later : Answer) → T (refuses r) → r ≡ next r later
stands r later t = sym (next_refuses refuses r later t)

leaves : {X : Type 0} (r : Answer) (after kept : X) → T (refuses r) → kept ≡ if_done r after kept
leaves r after kept t = sym (if_refused refuses r after kept t)

is_done : {X : Type 0} (after kept : X) → after ≡ if_done done after kept
is_done after kept = sym (if_good_law one_done done after kept refl)

-- ---- the bounds

and_false : (a : Bool) → (a && false) ≡ false
and_false true = refl
and_false false = refl

and_true : (a b : Bool) → (a && b) ≡ true → (a ≡ true) × (b ≡ true)
and_true true b e = (refl, e)
and_true false b e = let z : ◌≡◌ {A = ℕ} 0 1 = cc in absurd (omega arith)

-- a number from 1 to a bound
module _ (bound x : ℕ) where
  low : x < 1 → (leb 1 x && leb x bound) ≡ false
  low h = rw (lt-leb 1 x h)

  high : bound < x → (leb 1 x && leb x bound) ≡ false
  high h = rw (lt-leb x bound h) (and_false (leb 1 x))

  between : 1 ≤ x → x ≤ bound → (leb 1 x && leb x bound) ≡ true
  between h k = rw (le-leb 1 x h, le-leb x bound k)

  pub is_between : (leb 1 x && leb x bound) ≡ true → (1 ≤ x) × (x ≤ bound)
  is_between e = let t = and_true (leb 1 x) (leb x bound) e in (leb-true 1 x t.0, leb-true x bound t.1)

module _ (capacity slots : ℕ) where
  pub capacity_low : capacity < 1 → Err BadBounds ≡ bounds capacity slots
  unfolding bounds capacity_ok
  capacity_low h = sym (holds _ _ _ (ap not (low most_blocks capacity h)))

  pub capacity_high : most_blocks < capacity → Err BadBounds ≡ bounds capacity slots
  unfolding bounds capacity_ok
  capacity_high h = sym (holds _ _ _ (ap not (high most_blocks capacity h)))

  module _ (l : 1 ≤ capacity) (h : capacity ≤ most_blocks) where
    capacity_good : bounds capacity slots ≡ first (Err BadBounds if not (slots_ok slots) ∷ [])
    unfolding bounds capacity_ok
    capacity_good = passes _ _ _ (ap not (between most_blocks capacity l h))

    pub slots_low : slots < 1 → Err BadBounds ≡ bounds capacity slots
    unfolding slots_ok
    slots_low k = sym (capacity_good ∙ holds _ _ _ (ap not (low most_slots slots k)))

    pub slots_high : most_slots < slots → Err BadBounds ≡ bounds capacity slots
    unfolding slots_ok
    slots_high k = sym (capacity_good ∙ holds _ _ _ (ap not (high most_slots slots k)))

    pub bounds_good : 1 ≤ slots → slots ≤ most_slots → done ≡ bounds capacity slots
    unfolding slots_ok
    bounds_good j k = sym (capacity_good ∙ passes _ _ _ (ap not (between most_slots slots j k)) ∙ first_none)

  pub bounds_has : bounds capacity slots ≡ done → (capacity ≤ most_blocks) × (slots ≤ most_slots)
  unfolding bounds capacity_ok slots_ok refuses
  bounds_has e =
      let f = first_has (Err BadBounds) (not (capacity_ok capacity)) (Err BadBounds if not (slots_ok slots) ∷ []) tt e in
      let g = first_has (Err BadBounds) (not (slots_ok slots)) [] tt f.1 in
      ((is_between most_blocks capacity (not-false _ f.0)).1, (is_between most_slots slots (not-false _ g.0)).1)

  bounds_right : T (capacity_ok capacity) → T (slots_ok slots) → bounds capacity slots ≡ done
  unfolding bounds
  bounds_right s t = met (Err BadBounds) (capacity_ok capacity) _ s ∙ met (Err BadBounds) (slots_ok slots) [] t ∙ first_none

  pub bounds_are : bounds capacity slots ≡ done → T (capacity_ok capacity) × T (slots_ok slots)
  unfolding bounds refuses
  bounds_are e =
      let f = first_has (Err BadBounds) (not (capacity_ok capacity)) (Err BadBounds if not (slots_ok slots) ∷ []) tt e in
      let g = first_has (Err BadBounds) (not (slots_ok slots)) [] tt f.1 in
      (true→T (capacity_ok capacity) (not-false _ f.0), true→T (slots_ok slots) (not-false _ g.0))

  -- the bounds have one answer that refuses
  bounds_else : bounds capacity slots ≢ Err BadBounds → bounds capacity slots ≡ done
  unfolding bounds
  bounds_else d =
      test (capacity_ok capacity)
      (λ s. test (slots_ok slots) (λ t. bounds_right s t)
      (λ t. absurd (d (met (Err BadBounds) (capacity_ok capacity) _ s ∙ unmet (Err BadBounds) (slots_ok slots) [] t))))
      (λ s. absurd (d (unmet (Err BadBounds) (capacity_ok capacity) _ s)))

-- ---- a pool

pub usable_bounds : (capacity : ℕ) (owners marks medium : List ℕ) (t : Trouble)
    → Err t ≡ bounds capacity (length owners) → Err t ≡ usable capacity (pool owners marks medium)
unfolding usable refuses
usable_bounds capacity owners marks medium t e =
    let p = pool owners marks medium in
    stands (Err t) (sound capacity p) tt ∙ ap (λ (z : Answer). next z (sound capacity p)) e

module _ (capacity : ℕ) (p : Pool) where
  -- behind the medium's row
  rest : Answer
  rest = next (told (checked capacity p.owners)) (first (Err Mismarked if not (marks_ok p.owners p.marks) ∷ []))

  module _ (b : bounds capacity (length p.owners) ≡ done) where
    pub usable_medium : (length p.medium ≡ block_bytes * length p.owners → ⊥) → Err BadBounds ≡ usable capacity p
    unfolding usable sound refuses rest
    usable_medium d = sym (rw b (next_done (sound capacity p) ∙ ap (λ (r : Answer). next r rest) (holds _ _ _ (ap not (ne_eqb _ _ d))) ∙ next_refuses refuses (Err BadBounds) rest tt))

    module _ (e : length p.medium ≡ block_bytes * length p.owners) where
      checks : usable capacity p ≡ rest
      unfolding usable sound rest
      checks = rw b (next_done (sound capacity p) ∙ ap (λ (r : Answer). next r rest) (passes _ _ _ (ap not (eq-eqb _ _ e)) ∙ first_none) ∙ next_done rest)

      -- the marks are looked at where the owners are right
      marks_next : checked capacity p.owners ≡ Ok tt → usable capacity p ≡ first (Err Mismarked if not (marks_ok p.owners p.marks) ∷ [])
      unfolding told rest
      marks_next k = checks ∙ rw k (next_done _)

      pub usable_sound : (map_ok capacity p.owners && marks_ok p.owners p.marks) ≡ true → done ≡ usable capacity p
      usable_sound k =
          let t = and_true (map_ok capacity p.owners) (marks_ok p.owners p.marks) k in
          sym (marks_next (valid_checked capacity p.owners (true→T _ t.0)) ∙ passes _ _ _ (ap not t.1) ∙ first_none)

      pub usable_mismarked : Ok tt ≡ checked capacity p.owners → (map_ok capacity p.owners && marks_ok p.owners p.marks) ≡ false
          → Err Mismarked ≡ usable capacity p
      usable_mismarked k n =
          let m = nand_rest (map_ok capacity p.owners) (marks_ok p.owners p.marks) (checked_valid capacity p.owners (sym k)) (false→T _ n) in
          sym (marks_next (sym k) ∙ unmet (Err Mismarked) (marks_ok p.owners p.marks) [] m)

      pub usable_invalid : (flaw : Flaw) → Err flaw ≡ checked capacity p.owners → Err (Invalid flaw) ≡ usable capacity p
      unfolding told refuses rest
      usable_invalid flaw k = sym (checks ∙ rw (sym k) (next_refuses refuses (Err (Invalid flaw)) _ tt))

  pub usable_has : usable capacity p ≡ done
      → (capacity ≤ most_blocks) × (length p.owners ≤ most_slots) × (length p.medium ≡ block_bytes * length p.owners)
  unfolding usable sound refuses
  usable_has e =
      let b = bounds_has capacity (length p.owners) (next_first one_done _ _ e) in
      let f = first_has (Err BadBounds) _ _ tt (next_first one_done _ _ (next_second one_done _ _ e)) in
      (b.0, b.1, eqb-true _ _ (not-false _ f.0))

  pub usable_capacity : usable capacity p ≡ done → capacity ≤ most_blocks
  usable_capacity e = (usable_has e).0

-- ---- what the pool's tests tell, exactly

-- an answer that a row does not give is given behind it
behind : (a : Answer) (b : Bool) (later x : Answer) → T (refuses a) → a ≢ x → next (first (a if b ∷ [])) later ≡ x → (b ≡ false) × (later ≡ x)
behind a b later x t d e =
    test b (λ h. absurd (d (stands a later t ∙ ap (λ (z : Answer). next z later) (sym (holds a b [] (T_true b h))) ∙ e)))
    (λ h. (T_false b h, sym (next_done later) ∙ ap (λ (z : Answer). next z later) (sym (passes a b [] (T_false b h) ∙ first_none)) ∙ e))

-- and behind a check that names nothing
past_check : (c : Check) (later x : Answer) → ((flaw : Flaw) → Err (Invalid flaw) ≢ x) → next (told c) later ≡ x → (c ≡ Ok tt) × (later ≡ x)
unfolding told refuses
past_check (Ok _) later x d e = (refl, sym (next_done later) ∙ e)
past_check (Err flaw) later x d e = absurd (d flaw (stands (Err (Invalid flaw)) later tt ∙ e))

module _ (capacity : ℕ) (p : Pool) where
  by_marks : Answer
  by_marks = first (Err Mismarked if not (marks_ok p.owners p.marks) ∷ [])

  -- where bounds and owners are right, the marks decide
  right_usable : RightOwners capacity p → usable capacity p ≡ by_marks
  unfolding by_marks
  right_usable o =
      marks_next capacity p (bounds_right capacity (length p.owners) o.some o.slots) o.whole
      (valid_checked capacity p.owners o.valid)

  -- every answer of the tests but two tells that they are
  usable_right : (x : Answer) → Err BadBounds ≢ x → ((flaw : Flaw) → Err (Invalid flaw) ≢ x) → usable capacity p ≡ x → RightOwners capacity p × (by_marks ≡ x)
  unfolding usable sound by_marks refuses
  usable_right x d i e =
      let b : bounds capacity (length p.owners) ≡ done =
      bounds_else capacity (length p.owners)
      (λ h. d (stands (Err BadBounds) (sound capacity p) tt ∙ ap (λ (z : Answer). next z (sound capacity p)) (sym h) ∙ e)) in
      let s : sound capacity p ≡ x = sym (next_done (sound capacity p)) ∙ ap (λ (z : Answer). next z (sound capacity p)) (sym b) ∙ e in
      let f = behind (Err BadBounds) _ _ x tt d s in
      let g = past_check (checked capacity p.owners) _ x i f.1 in
      let r = bounds_are capacity (length p.owners) b in (
        record {
          some = r.0;
          slots = r.1;
          whole = eqb-true _ _ (not-false _ f.0);
          valid = checked_valid capacity p.owners g.0;
        },
        g.1,
      )

  right_done : RightOwners capacity p → p.marks ≡ marks_of p.owners → usable capacity p ≡ done
  unfolding by_marks
  right_done o m = right_usable o ∙ met (Err Mismarked) (marks_ok p.owners p.marks) [] (is_marks_ok p.owners p.marks m) ∙ first_none

  pub done_right : usable capacity p ≡ done → RightOwners capacity p × (p.marks ≡ marks_of p.owners)
  unfolding by_marks
  done_right e =
      let o = usable_right done (λ h. cc) (λ flaw h. cc) e in
      let f = passed done (Err Mismarked) _ _ (λ h. cc) o.1 in
      (o.0, marks_ok_is p.owners p.marks (true→T (marks_ok p.owners p.marks) (not-false _ f.0)))

  pub usable_marks : usable capacity p ≡ done → p.marks ≡ marks_of p.owners
  usable_marks e = (done_right e).1

  -- a pool is usable exactly where it is valid
  pub usable_ok : usable capacity p ≡ done ↔ (T (capacity_ok capacity) × T (pool_ok capacity p))
  usable_ok = (
    λ e. let o = done_right e in (o.0.some, pool_ok_of capacity p o.0.slots o.0.whole o.0.valid o.1),
    λ t.
        right_done (record { some = t.0; slots = pool_ok_slots capacity p t.1; whole = pool_ok_whole capacity p t.1; valid = pool_ok_map capacity p t.1 })
        (pool_ok_marks capacity p t.1),
  )

  -- "A mark without its owner, an owner without its mark, or a mark beyond the slots": the marks alone are wrong
  pub usable_wrong : usable capacity p ≡ Err Mismarked ↔ WrongMarks capacity p
  unfolding by_marks
  usable_wrong = (
    λ e.
        let o = usable_right (Err Mismarked) (λ h. cc) (λ flaw h. cc) e in
        record {
          right = o.0;
          differ = λ m. let d = right_done o.0 m in cc;
        },
    λ w.
        right_usable w.right
        ∙ test (marks_ok p.owners p.marks) (λ t. absurd (w.differ (marks_ok_is p.owners p.marks t)))
        (λ t. unmet (Err Mismarked) (marks_ok p.owners p.marks) [] t),
  )

-- ---- a transfer

module _ (capacity a n lent : ℕ) where
  pub transfer_many : most_transfer < n → Err TooMany ≡ transfer capacity a n lent
  unfolding transfer
  transfer_many h = sym (holds _ _ _ (lt-ltb most_transfer n h))

  module _ (m : n ≤ most_transfer) where
    pub transfer_range : capacity < a + n → Err OutOfRange ≡ transfer capacity a n lent
    unfolding transfer
    transfer_range h = sym (passes _ _ _ (le-ltb most_transfer n m) ∙ holds _ _ _ (lt-ltb capacity (a + n) h))

    module _ (r : a + n ≤ capacity) where
      pub transfer_short : lent < block_bytes * n → Err Short ≡ transfer capacity a n lent
      unfolding transfer
      transfer_short h =
          sym
          (passes _ _ _ (le-ltb most_transfer n m) ∙ passes _ _ _ (le-ltb capacity (a + n) r) ∙ holds _ _ _ (lt-ltb lent (block_bytes * n) h))

      pub transfer_done : block_bytes * n ≤ lent → done ≡ transfer capacity a n lent
      unfolding transfer
      transfer_done h =
          sym
          (passes _ _ _ (le-ltb most_transfer n m) ∙ passes _ _ _ (le-ltb capacity (a + n) r) ∙ passes _ _ _ (le-ltb lent (block_bytes * n) h) ∙ first_none)

  pub transfer_has : transfer capacity a n lent ≡ done → (n ≤ most_transfer) × (a + n ≤ capacity) × (block_bytes * n ≤ lent)
  unfolding transfer refuses
  transfer_has e =
      let f = first_has (Err TooMany) _ _ tt e in
      let g = first_has (Err OutOfRange) _ _ tt f.1 in
      let h = first_has (Err Short) _ _ tt g.1 in
      (ltb-false most_transfer n f.0, ltb-false capacity (a + n) g.0, ltb-false lent (block_bytes * n) h.0)

-- ---- the entry points: each way to return

module _ (capacity : ℕ) (p : Pool) (a n : ℕ) where
  -- what the tests tell of a transfer
  pub may_move : (lent : ℕ) → usable capacity p ≡ done → transfer capacity a n lent ≡ done
      → (n ≤ most_transfer) × (a + n ≤ most_blocks) × (length p.owners ≤ most_slots)
      × (length p.medium ≡ block_bytes * length p.owners) × (block_bytes * n ≤ lent)
  may_move lent u v =
      let f = usable_has capacity p u in
      let g = transfer_has capacity a n lent v in
      (g.0, omega arith, f.1, f.2, g.2)

  -- and of a write, which changes the marks
  pub may_write : (lent : ℕ) → usable capacity p ≡ done → transfer capacity a n lent ≡ done
      → (n ≤ most_transfer) × (a + n ≤ most_blocks) × (length p.owners ≤ most_slots) × (p.marks ≡ marks_of p.owners)
      × (length p.medium ≡ block_bytes * length p.owners) × (block_bytes * n ≤ lent)
  may_write lent u v =
      let f = may_move lent u v in
      (f.0, f.1, f.2, usable_marks capacity p u, f.3, f.4)

  module _ (lent : ℕ) where
    unusable : (r : Answer) → r ≡ usable capacity p → T (refuses r) → r ≡ read_answer capacity p a n lent
    unfolding read_answer
    unusable r e t = stands r (transfer capacity a n lent) t ∙ ap (λ (z : Answer). next z (transfer capacity a n lent)) e

    tested : (r : Answer) → usable capacity p ≡ done → r ≡ transfer capacity a n lent → r ≡ read_answer capacity p a n lent
    unfolding read_answer
    tested r u e = e ∙ sym (rw u (next_done (transfer capacity a n lent)))

    full : Answer
    full = first (Err NoRoom if not (room_for p.owners a n) ∷ [])

    also_refused : (r : Answer) → r ≡ read_answer capacity p a n lent → T (refuses r) → r ≡ write_answer capacity p a n lent
    unfolding write_answer full
    also_refused r e t = stands r full t ∙ ap (λ (z : Answer). next z full) e

    module _ (u : usable capacity p ≡ done) (v : transfer capacity a n lent ≡ done) where
      with_room : room_for p.owners a n ≡ true → done ≡ write_answer capacity p a n lent
      unfolding write_answer
      with_room q = sym (rw (← tested done u (sym v)) (next_done _ ∙ passes _ _ _ (ap not q) ∙ first_none))

      without_room : room_for p.owners a n ≡ false → Err NoRoom ≡ write_answer capacity p a n lent
      unfolding write_answer
      without_room q = sym (rw (← tested done u (sym v)) (next_done _ ∙ holds _ _ _ (ap not q)))

  module _ (out : List ℕ) where
    read_is : (r : Answer) (out' : List ℕ) → r ≡ read_answer capacity p a n (length out) → out' ≡ if_done r (put out 0 (read_blocks p a n)) out
        → read r out' ≡ read_of capacity p a n out
    unfolding read_of
    read_is r out' e q = ap (read r) q ∙ ap (λ (z : Answer). read z (if_done z (put out 0 (read_blocks p a n)) out)) e

    pub read_unusable : (t : Trouble) → Err t ≡ usable capacity p → read (Err t) out ≡ read_of capacity p a n out
    unfolding refuses
    read_unusable t e = read_is (Err t) out (unusable (length out) (Err t) e tt) (leaves (Err t) _ _ tt)

    pub read_refused : (t : Trouble) → usable capacity p ≡ done → Err t ≡ transfer capacity a n (length out)
        → read (Err t) out ≡ read_of capacity p a n out
    unfolding refuses
    read_refused t u e = read_is (Err t) out (tested (length out) (Err t) u e) (leaves (Err t) _ _ tt)

    pub read_done : (out' : List ℕ) → usable capacity p ≡ done → transfer capacity a n (length out) ≡ done
        → out' ≡ put out 0 (read_blocks p a n) → read done out' ≡ read_of capacity p a n out
    read_done out' u v q = read_is done out' (tested (length out) done u (sym v)) (q ∙ is_done _ _)

  module _ (bytes : List ℕ) where
    leaving : Answer → Pool → Wrote
    leaving r q = record { answer = r; after = q }

    write_is : (r : Answer) (q : Pool) → r ≡ write_answer capacity p a n (length bytes) → q ≡ if_done r (write_blocks p a n bytes) p
        → leaving r q ≡ write_of capacity p a n bytes
    unfolding write_of leaving
    write_is r q e f = ap (leaving r) f ∙ ap (λ (z : Answer). leaving z (if_done z (write_blocks p a n bytes) p)) e

    pub write_unusable : (t : Trouble) → Err t ≡ usable capacity p → wrote (Err t) p.owners p.marks p.medium ≡ write_of capacity p a n bytes
    unfolding leaving refuses
    write_unusable t e =
        write_is (Err t) p (also_refused (length bytes) (Err t) (unusable (length bytes) (Err t) e tt) tt) (leaves (Err t) _ _ tt)

    pub write_refused : (t : Trouble) → usable capacity p ≡ done → Err t ≡ transfer capacity a n (length bytes)
        → wrote (Err t) p.owners p.marks p.medium ≡ write_of capacity p a n bytes
    unfolding leaving refuses
    write_refused t u e =
        write_is (Err t) p (also_refused (length bytes) (Err t) (tested (length bytes) (Err t) u e) tt) (leaves (Err t) _ _ tt)

    module _ (u : usable capacity p ≡ done) (v : transfer capacity a n (length bytes) ≡ done)
        (all : Bool) (owners marks medium : List ℕ) (e : written all owners marks medium ≡ try_write p a n bytes) where
      pub write_done : all ≡ true → wrote done owners marks medium ≡ write_of capacity p a n bytes
      unfolding leaving
      write_done d =
          let q : room_for p.owners a n ≡ true = tried p a n bytes all owners marks medium e ∙ d in
          write_is done (pool owners marks medium) (with_room (length bytes) u v q)
          (after p a n bytes all owners marks medium e ∙ rw q (is_done (write_blocks p a n bytes) p))

      pub write_full : all ≡ false → wrote (Err NoRoom) owners marks medium ≡ write_of capacity p a n bytes
      unfolding leaving refuses
      write_full d =
          let q : room_for p.owners a n ≡ false = tried p a n bytes all owners marks medium e ∙ d in
          write_is (Err NoRoom) (pool owners marks medium) (without_room (length bytes) u v q)
          (after p a n bytes all owners marks medium e ∙ rw q (leaves (Err NoRoom) (write_blocks p a n bytes) p tt))

  beyond : Answer
  beyond = first (Err OutOfRange if ltb capacity (a + n) ∷ [])

  unmap_is : (r : Answer) (q : Pool) → r ≡ unmap_answer capacity p a n → q ≡ if_done r (unmap_blocks p a n) p → left_of r q ≡ unmap_of capacity p a n
  unfolding unmap_of
  unmap_is r q e f =
      ap (λ (z : Pool). left_of r z) f ∙ ap (λ (z : Answer). left_of z (if_done z (unmap_blocks p a n) p)) e

  pub unmap_unusable : (t : Trouble) → Err t ≡ usable capacity p → left (Err t) p.owners p.marks ≡ unmap_of capacity p a n
  unfolding unmap_answer beyond refuses
  unmap_unusable t e = unmap_is (Err t) p (stands (Err t) beyond tt ∙ ap (λ (z : Answer). next z beyond) e) (leaves (Err t) _ _ tt)

  module _ (u : usable capacity p ≡ done) where
    pub unmap_beyond : capacity < a + n → left (Err OutOfRange) p.owners p.marks ≡ unmap_of capacity p a n
    unfolding unmap_answer refuses
    unmap_beyond h =
        unmap_is (Err OutOfRange) p (sym (rw u (next_done _ ∙ holds _ _ _ (lt-ltb capacity (a + n) h)))) (leaves (Err OutOfRange) _ _ tt)

    -- what `unmap_blocks` asks, and before it the range that it takes
    pub may_unmap_law : a + n ≤ capacity → (a + n ≤ most_blocks) × (length p.owners ≤ most_slots) × (p.marks ≡ marks_of p.owners)
    may_unmap_law h = let f = usable_has capacity p u in (omega arith, f.1, usable_marks capacity p u)

    pub unmap_done : (owners marks : List ℕ) → a + n ≤ capacity → (owners ≡ unmap_owners p.owners a n) × (marks ≡ marks_of owners)
        → left done owners marks ≡ unmap_of capacity p a n
    unfolding unmap_answer unmap_blocks
    unmap_done owners marks h q =
        rw (q.1, q.0)
        (unmap_is done (unmap_blocks p a n) (sym (rw u (next_done _ ∙ passes _ _ _ (le-ltb capacity (a + n) h) ∙ first_none))) (is_done _ _))

module _ (capacity : ℕ) (owners marks : List ℕ) where
  fresh_is : (r : Answer) (owners' marks' : List ℕ) → r ≡ fresh_answer capacity (length owners) (length marks)
      → owners' ≡ if_done r (zeros (length owners)) owners → marks' ≡ if_done r (zeros mark_words) marks
      → left r owners' marks' ≡ fresh_of capacity owners marks
  unfolding fresh_of
  fresh_is r owners' marks' e q m =
      ap (λ (z : List ℕ). left r z marks') q ∙ ap (left r (if_done r (zeros (length owners)) owners)) m
      ∙ ap (λ (z : Answer). left z (if_done z (zeros (length owners)) owners) (if_done z (zeros mark_words) marks)) e

  words : Answer
  words = first (Err BadBounds if not (eqb (length marks) mark_words) ∷ [])

  pub fresh_refused : (t : Trouble) → Err t ≡ bounds capacity (length owners) → left (Err t) owners marks ≡ fresh_of capacity owners marks
  unfolding fresh_answer words refuses
  fresh_refused t e =
      fresh_is (Err t) owners marks (stands (Err t) words tt ∙ ap (λ (z : Answer). next z words) e) (leaves (Err t) _ _ tt) (leaves (Err t) _ _ tt)

  module _ (b : bounds capacity (length owners) ≡ done) where
    pub fresh_words : (length marks ≡ mark_words → ⊥) → left (Err BadBounds) owners marks ≡ fresh_of capacity owners marks
    unfolding fresh_answer refuses
    fresh_words d =
        fresh_is (Err BadBounds) owners marks (sym (rw b (next_done _ ∙ holds _ _ _ (ap not (ne_eqb _ _ d))))) (leaves (Err BadBounds) _ _ tt) (leaves (Err BadBounds) _ _ tt)

    pub fresh_done : (owners' marks' : List ℕ) → length marks ≡ mark_words → owners' ≡ zeros (length owners) → marks' ≡ zeros mark_words
        → left done owners' marks' ≡ fresh_of capacity owners marks
    unfolding fresh_answer
    fresh_done owners' marks' w q m =
        fresh_is done owners' marks' (sym (rw b (next_done _ ∙ passes _ _ _ (ap not (eq-eqb _ _ w)) ∙ first_none))) (q ∙ is_done _ _) (m ∙ is_done _ _)

-- ---- the room

module _ (capacity : ℕ) (p : Pool) where
  -- a refusal tells nothing
  pub room_refused : (t : Trouble) → Err t ≡ usable capacity p → Err t ≡ room_of capacity p
  unfolding room_of room_by
  room_refused t e = rw (sym e)

  -- where the pool is usable, the walk over the owners is told
  module _ (u : usable capacity p ≡ done) where
    pub room_walked : Ok (walked p.owners) ≡ room_of capacity p
    unfolding room_of room_by
    room_walked = rw u

    pub marks_two : length p.marks ≡ mark_words
    marks_two = two_marked p.owners p.marks (usable_marks capacity p u)

    pub marked_most : marked p.marks ≤ length p.owners
    marked_most = marked_at_most p.owners p.marks (usable_marks capacity p u)

    -- and what is read off the marks is the same
    pub room_told : Ok (room_in (length p.owners) p.marks) ≡ room_of capacity p
    room_told = rw (room_in_walked p.owners p.marks (usable_marks capacity p u) (usable_has capacity p u).1) room_walked
