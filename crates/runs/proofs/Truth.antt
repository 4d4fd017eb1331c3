-- What the page says of the blocks, read back from its bytes: exactly what specs/TellsMap asks.
-- Assumes nothing.
use mathlib.Core.Path.{◌≡◌, refl, sym, ap, ◌∙◌}
use mathlib.Core.Bool.{Bool, true, false, cond}
use mathlib.Core.List.{List, [], ◌∷◌, ◌++◌, append_assoc}
use mathlib.Core.Logic.{◌⊎◌, inl, inr, ⊎_elim, ◌≢◌}
use Prim.Native.Nat.{ℕ, zero, suc, ◌+◌, ◌-◌, ◌*◌, ◌%◌, ◌^◌, ◌≤◌, ◌<◌}
use native.Mathlib.Omega.{arith}
use native.Mathlib.Nat.{mod-eq_of_lt}
use lib.Dec.{eqb, ltb, ltb→lt, nltb→le}
use lib.ListN.{length, get_or, drop}
use lib.Seq.{drop-append-add, drop_at, get_or-drop}
use Rattle.fields.specs.Bytes.{zeros}
use Rattle.fields.specs.Field.{byte, field, bytes}
use Rattle.fields.proofs.FieldLaws.{field_drop, field_bytes, length_bytes}
use Rattle.fields.proofs.Tests.{test}
use Rattle.pool.specs.Bounds.{most_blocks}
use Rattle.pool.specs.Pool.{mapped}
use Rattle.runs.specs.Runs.{most_runs, Run, run, held_from, room_from, run_at, runs_from}
use Rattle.runs.specs.Page.{run_bytes, runs_bytes, status_page, status_data}
use Rattle.runs.specs.TellsMap.{TellsMap, start_of, count_of, status_of, end_of}
use Rattle.runs.proofs.RunLaws.{held_most, held_all, held_ends, held_none, room_some, room_left, room_full, run_start, run_held, run_count, run_left, run_most, runs_more, runs_none, runs_end, length_runs}
use Rattle.runs.proofs.PageLaws.{head_bytes, length_run, length_head, bytes_more, page_is, length_page}

-- ---- where each run begins

unfoldable begins : ℕ → List ℕ → ℕ → ℕ → ℕ
begins capacity o a zero = a
begins capacity o a (suc i) = begins capacity o (a + (run_at capacity o a).count) i

begins_next : (capacity : ℕ) (o : List ℕ) (a i : ℕ)
    → begins capacity o a (suc i) ≡ begins capacity o a i + (run_at capacity o (begins capacity o a i)).count
unfolding begins
begins_next capacity o a zero = refl
begins_next capacity o a (suc i) = begins_next capacity o (a + (run_at capacity o a).count) i

begins_most : (capacity : ℕ) (o : List ℕ) (a i : ℕ) → a ≤ capacity → begins capacity o a i ≤ capacity
unfolding begins
begins_most capacity o a zero h = h
begins_most capacity o a (suc i) h =
    begins_most capacity o (a + (run_at capacity o a).count) i (let l = run_left capacity o a in omega arith)

-- run i, and that it begins below the capacity
run_at_law : (capacity : ℕ) (o : List ℕ) (a n i : ℕ) (d : Run) → i < length (runs_from capacity o a n)
    → (get_or (runs_from capacity o a n) i d ≡ run_at capacity o (begins capacity o a i)) × (begins capacity o a i < capacity)
unfolding begins
run_at_law capacity o a zero i d h = let z : i < 0 = rw (runs_none capacity o a) at h in absurd (omega arith)
run_at_law capacity o a (suc n) zero d h =
    test (ltb a capacity)
    (λ t. let l = ltb→lt a capacity t in (rw (runs_more capacity o a n l), l))
    (λ t. let z : 0 < 0 = rw (runs_end capacity o a (suc n) (nltb→le a capacity t)) at h in absurd (omega arith))
run_at_law capacity o a (suc n) (suc i) d h =
    test (ltb a capacity)
    (λ t.
    let e = runs_more capacity o a n (ltb→lt a capacity t) in
    let b = a + (run_at capacity o a).count in
    let k : suc i < suc (length (runs_from capacity o b n)) = rw e at h in
    rw e (run_at_law capacity o b n i d (omega arith)))
    (λ t. let z : suc i < 0 = rw (runs_end capacity o a (suc n) (nltb→le a capacity t)) at h in absurd (omega arith))

-- the runs reach the capacity, unless there are as many as may be
runs_reach : (capacity : ℕ) (o : List ℕ) (a n : ℕ) → a ≤ capacity
    → (begins capacity o a (length (runs_from capacity o a n)) ≡ capacity) ⊎ (length (runs_from capacity o a n) ≡ n)
unfolding begins
runs_reach capacity o a zero h = inr (ap length (runs_none capacity o a))
runs_reach capacity o a (suc n) h =
    test (ltb a capacity)
    (λ t.
    let b = a + (run_at capacity o a).count in
    let ih = runs_reach capacity o b n (let l = run_left capacity o a in omega arith) in
    rw (runs_more capacity o a n (ltb→lt a capacity t)) (⊎_elim (λ e. inl e) (λ e. inr (ap suc e)) ih))
    (λ t. let l = nltb→le a capacity t in rw (runs_end capacity o a (suc n) l) (inl (omega arith)))

-- ---- a descriptor, read back

module _ (r : Run) (m : List ℕ) where
  run_split : run_bytes r ++ m ≡ bytes 8 r.start ++ (bytes 4 r.count ++ ((cond r.held 0 1 ∷ zeros 3) ++ m))
  unfolding run_bytes
  run_split = simp append_assoc

  read_start : field 0 8 (run_bytes r ++ m) ≡ r.start % 256 ^ 8
  read_start = ap (field 0 8) run_split ∙ field_bytes 8 r.start (bytes 4 r.count ++ ((cond r.held 0 1 ∷ zeros 3) ++ m))

  read_count : field 8 4 (run_bytes r ++ m) ≡ r.count % 256 ^ 4
  read_count =
      ap (field 8 4) run_split
      ∙ sym (field_drop 8 0 4 (bytes 8 r.start ++ (bytes 4 r.count ++ ((cond r.held 0 1 ∷ zeros 3) ++ m))))
      ∙ ap (field 0 4) (drop_at (bytes 8 r.start) (bytes 4 r.count ++ ((cond r.held 0 1 ∷ zeros 3) ++ m)) 8 (length_bytes 8 r.start))
      ∙ field_bytes 4 r.count ((cond r.held 0 1 ∷ zeros 3) ++ m)

  read_status : byte 12 (run_bytes r ++ m) ≡ cond r.held 0 1
  unfolding run_bytes bytes byte
  read_status = refl

  read_rest : field 13 3 (run_bytes r ++ m) ≡ 0
  unfolding run_bytes bytes byte field zeros
  read_rest = refl

-- ---- the page, read back

drop_runs : (rs : List Run) (i : ℕ) (d : Run) → i < length rs
    → drop (16 * i) (runs_bytes rs) ≡ run_bytes (get_or rs i d) ++ runs_bytes (drop (suc i) rs)
drop_runs [] i d h = absurd (omega arith)
drop_runs (r ∷ rs) zero d h = bytes_more r rs
drop_runs (r ∷ rs) (suc i) d h =
    let w = length_run r in
    let s : 16 * suc i ≡ length (run_bytes r) + 16 * i = omega arith in
    rw (s, bytes_more r rs) (drop-append-add (run_bytes r) (runs_bytes rs) (16 * i) ∙ drop_runs rs i d (omega arith))

module _ (rs : List Run) (i : ℕ) (d : Run) (h : i < length rs) where
  page_at : drop (8 + 16 * i) (status_page rs) ≡ run_bytes (get_or rs i d) ++ runs_bytes (drop (suc i) rs)
  page_at =
      let w = length_head (length rs) in
      let s : 8 + 16 * i ≡ length (head_bytes (length rs)) + 16 * i = omega arith in
      rw (s, page_is rs) (drop-append-add (head_bytes (length rs)) (runs_bytes rs) (16 * i) ∙ drop_runs rs i d h)

  field_at : (k j n : ℕ) → k ≡ 8 + 16 * i + j → field k n (status_page rs) ≡ field j n (run_bytes (get_or rs i d) ++ runs_bytes (drop (suc i) rs))
  field_at k j n e =
      ap (λ (q : ℕ). field q n (status_page rs)) e ∙ sym (field_drop (8 + 16 * i) j n (status_page rs)) ∙ ap (field j n) page_at

  starts : start_of (status_page rs) i ≡ (get_or rs i d).start % 256 ^ 8
  unfolding start_of
  starts = field_at (8 + 16 * i) 0 8 (omega arith) ∙ read_start (get_or rs i d) (runs_bytes (drop (suc i) rs))

  counts : count_of (status_page rs) i ≡ (get_or rs i d).count % 256 ^ 4
  unfolding count_of
  counts = field_at (16 + 16 * i) 8 4 (omega arith) ∙ read_count (get_or rs i d) (runs_bytes (drop (suc i) rs))

  statuses : status_of (status_page rs) i ≡ cond (get_or rs i d).held 0 1
  unfolding status_of byte
  statuses =
      let e : 20 + 16 * i ≡ 8 + 16 * i + 12 = omega arith in
      ap (λ (q : ℕ). get_or (status_page rs) q 0) e ∙ sym (get_or-drop (8 + 16 * i) (status_page rs) 12 0)
      ∙ ap (λ (l : List ℕ). get_or l 12 0) page_at ∙ read_status (get_or rs i d) (runs_bytes (drop (suc i) rs))

  rests : field (21 + 16 * i) 3 (status_page rs) ≡ 0
  rests = field_at (21 + 16 * i) 13 3 (omega arith) ∙ read_rest (get_or rs i d) (runs_bytes (drop (suc i) rs))

-- the header
module _ (rs : List Run) (h : length rs ≤ most_runs) where
  head_length : field 0 4 (status_page rs) ≡ 4 + 16 * length rs
  unfolding status_page
  head_length = field_bytes 4 (4 + 16 * length rs) (zeros 4 ++ runs_bytes rs) ∙ mod-eq_of_lt (omega arith)

  head_rest : field 4 4 (status_page rs) ≡ 0
  unfolding status_page byte field zeros
  head_rest =
      sym (field_drop 4 0 4 (bytes 4 (4 + 16 * length rs) ++ (zeros 4 ++ runs_bytes rs)))
      ∙ ap (field 0 4) (drop_at (bytes 4 (4 + 16 * length rs)) (zeros 4 ++ runs_bytes rs) 4 (length_bytes 4 (4 + 16 * length rs)))

-- ---- the statement

says : (m : Bool) → eqb (cond m 0 1) 0 ≡ m
says true = refl
says false = refl

says_most : (m : Bool) → cond m 0 1 ≤ 1
says_most true = omega arith
says_most false = omega arith

-- the run at block b
module _ (capacity : ℕ) (o : List ℕ) (b : ℕ) (below : b < capacity) where
  run_some : 1 ≤ (run_at capacity o b).count
  run_some =
      test (ltb 0 (run_at capacity o b).count)
      (λ t. ltb→lt 0 (run_at capacity o b).count t)
      (λ t.
      let z = nltb→le 0 (run_at capacity o b).count t in
      let e = run_count capacity o b in
      absurd (held_none (mapped o b) o b (room_from capacity b) (omega arith) (room_some capacity b below) refl))

  run_blocks : (x : ℕ) → b ≤ x → x < b + (run_at capacity o b).count → mapped o x ≡ mapped o b
  run_blocks x l u =
      let e = run_count capacity o b in
      let s : b + (x - b) ≡ x = omega arith in
      ap (mapped o) (sym s) ∙ held_all (mapped o b) o b (room_from capacity b) (x - b) (omega arith)

  run_longest : (b + (run_at capacity o b).count ≡ capacity)
      ⊎ (((run_at capacity o b).count ≡ 0xFFFF_FFFF) ⊎ (mapped o (b + (run_at capacity o b).count) ≢ mapped o b))
  run_longest =
      let e = run_count capacity o b in
      let n = held_from (mapped o b) o b (room_from capacity b) in
      let m = held_most (mapped o b) o b (room_from capacity b) in
      let q = room_left capacity b in
      test (ltb n (room_from capacity b))
      (λ t. inr (inr (rw e (held_ends (mapped o b) o b (room_from capacity b) (ltb→lt n (room_from capacity b) t)))))
      (λ t.
      let l = nltb→le n (room_from capacity b) t in
      test (ltb (room_from capacity b) (capacity - b))
      (λ u. let f = room_full capacity b (ltb→lt (room_from capacity b) (capacity - b) u) in inr (inl (omega arith)))
      (λ u. let f = nltb→le (room_from capacity b) (capacity - b) u in inl (omega arith)))

-- descriptor i of the page from `start` on
module _ (capacity : ℕ) (o : List ℕ) (start : ℕ) (bound : capacity ≤ most_blocks) (i : ℕ) (h : i < length (runs_from capacity o start most_runs)) where
  found : (get_or (runs_from capacity o start most_runs) i (run 0 0 false) ≡ run_at capacity o (begins capacity o start i)) × (begins capacity o start i < capacity)
  found = run_at_law capacity o start most_runs i (run 0 0 false) h

  start_is : start_of (status_data capacity o start) i ≡ begins capacity o start i
  unfolding status_data
  start_is =
      let l = found.1 in
      starts (runs_from capacity o start most_runs) i (run 0 0 false) h
      ∙ ap (λ (r : Run). r.start % 256 ^ 8) found.0
      ∙ ap (λ (x : ℕ). x % 256 ^ 8) (run_start capacity o (begins capacity o start i))
      ∙ mod-eq_of_lt (omega arith)

  count_is : count_of (status_data capacity o start) i ≡ (run_at capacity o (begins capacity o start i)).count
  unfolding status_data
  count_is =
      let l = run_most capacity o (begins capacity o start i) in
      counts (runs_from capacity o start most_runs) i (run 0 0 false) h
      ∙ ap (λ (r : Run). r.count % 256 ^ 4) found.0
      ∙ mod-eq_of_lt (omega arith)

  status_is : status_of (status_data capacity o start) i ≡ cond (mapped o (begins capacity o start i)) 0 1
  unfolding status_data
  status_is =
      statuses (runs_from capacity o start most_runs) i (run 0 0 false) h
      ∙ ap (λ (r : Run). cond r.held 0 1) found.0
      ∙ ap (λ (q : Bool). cond q 0 1) (run_held capacity o (begins capacity o start i))

  end_is : end_of (status_data capacity o start) i ≡ begins capacity o start i + (run_at capacity o (begins capacity o start i)).count
  unfolding end_of
  end_is = let p = start_is in let q = count_is in omega arith

  tells_blocks : (b : ℕ) → start_of (status_data capacity o start) i ≤ b → b < end_of (status_data capacity o start) i
      → mapped o b ≡ eqb (status_of (status_data capacity o start) i) 0
  tells_blocks b l u =
      let p = start_is in
      let q = end_is in
      run_blocks capacity o (begins capacity o start i) found.1 b (omega arith) (omega arith)
      ∙ sym (ap (λ (x : ℕ). eqb x 0) status_is ∙ says (mapped o (begins capacity o start i)))

  tells_longest : (end_of (status_data capacity o start) i ≡ capacity)
      ⊎ ((count_of (status_data capacity o start) i ≡ 0xFFFF_FFFF)
      ⊎ (mapped o (end_of (status_data capacity o start) i) ≢ mapped o (start_of (status_data capacity o start) i)))
  tells_longest = rw (end_is, count_is, start_is) (run_longest capacity o (begins capacity o start i) found.1)

pub tells_map : (capacity : ℕ) (owners : List ℕ) (start : ℕ) → start < capacity → capacity ≤ most_blocks
    → TellsMap capacity owners start (status_data capacity owners start)
unfolding status_data begins
tells_map capacity o start below bound =
    let rs = runs_from capacity o start most_runs in
    let few = length_runs capacity o start most_runs in
    let some : 1 ≤ length rs = rw (runs_more capacity o start (most_runs - 1) below) (omega arith) in
    record {
      runs = length rs;
      some = some;
      most = omega arith;
      long = length_page rs;
      header = head_length rs few;
      header_rest = head_rest rs few;
      rest = λ i h. rests rs i (run 0 0 false) h;
      first = start_is capacity o start bound 0 some;
      next = λ i h.
          start_is capacity o start bound (suc i) h ∙ begins_next capacity o start i ∙ sym (end_is capacity o start bound i (omega arith));
      filled = λ i h.
          rw (count_is capacity o start bound i h) (run_some capacity o (begins capacity o start i) (found capacity o start bound i h).1);
      inside = λ i h.
          let l = begins_most capacity o start (suc i) (omega arith) in
          let e = begins_next capacity o start i in
          let q = end_is capacity o start bound i h in
          omega arith;
      status = λ i h. rw (status_is capacity o start bound i h) (says_most (mapped o (begins capacity o start i)));
      blocks = λ i b h l u. tells_blocks capacity o start bound i h b l u;
      longest = λ i h. tells_longest capacity o start bound i h;
      reaches = λ i e.
          ⊎_elim
          (λ q. inl (end_is capacity o start bound i (omega arith) ∙ sym (begins_next capacity o start i) ∙ ap (begins capacity o start) e ∙ q))
          (λ q. inr q)
          (runs_reach capacity o start most_runs (omega arith));
    }
