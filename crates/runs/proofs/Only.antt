-- What specs/TellsMap asks leaves nothing open: two pages of bytes that both tell one map from one block on are equal, so that `status_data`
-- is the only one.
-- Assumes nothing.
use mathlib.Core.Path.{◌≡◌, sym, ap, ◌∙◌}
use mathlib.Core.Bool.{Bool, true, false, cond}
use mathlib.Core.List.{List, [], ◌∷◌, ◌++◌}
use mathlib.Core.Logic.{⊎_elim}
use Prim.Native.Nat.{ℕ, zero, suc, ◌+◌, ◌-◌, ◌*◌, ◌/◌, ◌%◌, ◌^◌, ◌≤◌, ◌<◌}
use native.Mathlib.Omega.{arith}
use native.Mathlib.Nat.{mod-lt}
use lib.Dec.{lit<, eqb, ltb, ltb→lt, nltb→le}
use lib.ListN.{length}
use lib.Seq.{ext_get_or}
use borrow.Author.Tests.{eqb-true, eqb-false}
use Rattle.fields.specs.Bytes.{zeros}
use Rattle.fields.specs.Field.{byte, field, bytes}
use Rattle.fields.proofs.FieldLaws.{field_more, field_below}
use Rattle.fields.proofs.Tests.{test, by_equal}
use Rattle.pool.specs.Bounds.{most_blocks}
use Rattle.runs.specs.Runs.{most_runs, Run, runs_from}
use Rattle.runs.specs.Page.{run_bytes, runs_bytes, status_page, status_data}
use Rattle.runs.specs.TellsMap.{TellsMap, start_of, count_of, status_of, end_of}
use Rattle.runs.proofs.Truth.{tells_map}

-- bytes that hold one number are the same
field_same : (i n : ℕ) (p q : List ℕ) → ((k : ℕ) → byte k p < 256) → ((k : ℕ) → byte k q < 256) → field i n p ≡ field i n q
    → (j : ℕ) → j < n → byte (i + j) p ≡ byte (i + j) q
field_same i zero p q bp bq e j h = absurd (omega arith)
field_same i (suc n) p q bp bq e j h =
    let u = field_more i n p in
    let v = field_more i n q in
    let x = bp (i + n) in
    let y = bq (i + n) in
    by_equal j n (λ z. byte (i + j) p ≡ byte (i + j) q)
    (λ s. rw s (omega arith)) (λ d. field_same i n p q bp bq (omega arith) j (omega arith))

flag_same : (x y : ℕ) → x ≤ 1 → y ≤ 1 → eqb x 0 ≡ eqb y 0 → x ≡ y
flag_same x y h k e =
    by_equal x 0 (λ b. b ≡ eqb y 0 → x ≡ y)
    (λ z u. let w = eqb-true y 0 (sym u) in omega arith) (λ d u. let w = eqb-false y 0 (sym u) in omega arith) e

-- ---- one of two pages against the other

module _ (capacity : ℕ) (o : List ℕ) (start : ℕ) (p q : List ℕ) (bq : (k : ℕ) → byte k q < 256)
    (tp : TellsMap capacity o start p) (tq : TellsMap capacity o start q) where
  -- a descriptor from one block on is not the shorter
  not_shorter : (i : ℕ) → i < tp.runs → i < tq.runs → start_of p i ≡ start_of q i → count_of q i ≤ count_of p i
  unfolding end_of count_of
  not_shorter i h k s =
      test (ltb (count_of p i) (count_of q i))
      (λ t.
      let l = ltb→lt (count_of p i) (count_of q i) t in
      let inside = tq.inside i k in
      let below = field_below (16 + 16 * i) 4 q bq in
      absurd (⊎_elim
      (λ e. omega arith)
      (λ r. ⊎_elim
      (λ e. omega arith)
      (λ d. d (tq.blocks i (end_of p i) k (omega arith) (omega arith) ∙ sym (tq.blocks i (start_of p i) k (omega arith) (omega arith))))
      r)
      (tp.longest i h)))
      (λ t. nltb→le (count_of p i) (count_of q i) t)

module _ (capacity : ℕ) (o : List ℕ) (start : ℕ) (p q : List ℕ) (bp : (k : ℕ) → byte k p < 256) (bq : (k : ℕ) → byte k q < 256)
    (tp : TellsMap capacity o start p) (tq : TellsMap capacity o start q) where
  counts_same : (i : ℕ) → i < tp.runs → i < tq.runs → start_of p i ≡ start_of q i → count_of p i ≡ count_of q i
  counts_same i h k s =
      let u = not_shorter capacity o start p q bq tp tq i h k s in
      let v = not_shorter capacity o start q p bp tq tp i k h (sym s) in
      omega arith

  -- descriptor by descriptor they begin and end at the same blocks
  starts_same : (i : ℕ) → i < tp.runs → i < tq.runs → start_of p i ≡ start_of q i
  unfolding end_of
  starts_same zero h k = tp.first ∙ sym tq.first
  starts_same (suc i) h k =
      let s = starts_same i (omega arith) (omega arith) in
      let c = counts_same i (omega arith) (omega arith) s in
      let x = tp.next i h in
      let y = tq.next i k in
      omega arith

  -- one has no more descriptors than the other, which has reached the capacity or has 32
  no_more : tq.runs ≤ tp.runs
  unfolding end_of
  no_more =
      test (ltb tp.runs tq.runs)
      (λ t.
      let l = ltb→lt tp.runs tq.runs t in
      let some = tp.some in
      let i = tp.runs - 1 in
      let s = starts_same i (omega arith) (omega arith) in
      let c = counts_same i (omega arith) (omega arith) s in
      let n = tq.next i (omega arith) in
      let f = tq.filled (suc i) (omega arith) in
      let e = tq.inside (suc i) (omega arith) in
      let m = tq.most in
      absurd (⊎_elim (λ z. omega arith) (λ z. omega arith) (tp.reaches i (omega arith))))
      (λ t. nltb→le tp.runs tq.runs t)

  -- where a number is the same its bytes are
  at_field : (a n k : ℕ) → field a n p ≡ field a n q → a ≤ k → k < a + n → byte k p ≡ byte k q
  at_field a n k e h l =
      let s : a + (k - a) ≡ k = omega arith in
      ap (λ (z : ℕ). byte z p) (sym s) ∙ field_same a n p q bp bq e (k - a) (omega arith) ∙ ap (λ (z : ℕ). byte z q) s

  status_same : (i : ℕ) → i < tp.runs → i < tq.runs → status_of p i ≡ status_of q i
  unfolding end_of
  status_same i h k =
      let s = starts_same i h k in
      let f = tp.filled i h in
      let g = tq.filled i k in
      flag_same (status_of p i) (status_of q i) (tp.status i h) (tq.status i k)
      (sym (tp.blocks i (start_of p i) h (omega arith) (omega arith)) ∙ tq.blocks i (start_of p i) k (omega arith) (omega arith))

  -- a byte of descriptor i
  descriptor_same : (i k : ℕ) → i < tp.runs → i < tq.runs → 8 + 16 * i ≤ k → k < 24 + 16 * i → byte k p ≡ byte k q
  unfolding start_of count_of status_of
  descriptor_same i k h g l u =
      let s = starts_same i h g in
      test (ltb k (16 + 16 * i))
      (λ t. let v = ltb→lt k (16 + 16 * i) t in at_field (8 + 16 * i) 8 k s l (omega arith))
      (λ t. let v = nltb→le k (16 + 16 * i) t in
      test (ltb k (20 + 16 * i))
      (λ r. let w = ltb→lt k (20 + 16 * i) r in at_field (16 + 16 * i) 4 k (counts_same i h g s) v (omega arith))
      (λ r. let w = nltb→le k (20 + 16 * i) r in
      by_equal k (20 + 16 * i) (λ z. byte k p ≡ byte k q)
      (λ e. rw e (status_same i h g))
      (λ d. at_field (21 + 16 * i) 3 k (tp.rest i h ∙ sym (tq.rest i g)) (omega arith) (omega arith))))

-- the page that tells the map is one
pub tells_only : (capacity : ℕ) (owners : List ℕ) (start : ℕ) (p q : List ℕ) → ((k : ℕ) → byte k p < 256) → ((k : ℕ) → byte k q < 256)
    → TellsMap capacity owners start p → TellsMap capacity owners start q → p ≡ q
unfolding byte
tells_only capacity o start p q bp bq tp tq =
    let n : tp.runs ≡ tq.runs =
    let u = no_more capacity o start p q bp bq tp tq in
    let v = no_more capacity o start q p bq bp tq tp in
    omega arith in
    let x = tp.long in
    let y = tq.long in
    ext_get_or 0 p q (omega arith)
    (λ k h.
    test (ltb k 4)
    (λ t.
    let v = ltb→lt k 4 t in
    let e = tp.header in
    let f = tq.header in
    at_field capacity o start p q bp bq tp tq 0 4 k (omega arith) (omega arith) (omega arith))
    (λ t.
    let v = nltb→le k 4 t in
    test (ltb k 8)
    (λ r. let w = ltb→lt k 8 r in at_field capacity o start p q bp bq tp tq 4 4 k (tp.header_rest ∙ sym tq.header_rest) v (omega arith))
    (λ r.
    let w = nltb→le k 8 r in
    descriptor_same capacity o start p q bp bq tp tq ((k - 8) / 16) k (omega arith) (omega arith) (omega arith) (omega arith))))

-- ---- so it is the page that is told

small_none : (k : ℕ) → byte k [] < 256
unfolding byte
small_none k = omega arith

small_more : (b : ℕ) (l : List ℕ) → b < 256 → ((k : ℕ) → byte k l < 256) → (k : ℕ) → byte k (b ∷ l) < 256
unfolding byte
small_more b l h s zero = h
small_more b l h s (suc k) = s k

small_append : (l m : List ℕ) → ((k : ℕ) → byte k l < 256) → ((k : ℕ) → byte k m < 256) → (k : ℕ) → byte k (l ++ m) < 256
unfolding byte
small_append [] m s t = t
small_append (b ∷ l) m s t = small_more b (l ++ m) (s 0) (small_append l m (λ k. s (suc k)) t)

small_zeros : (n k : ℕ) → byte k (zeros n) < 256
unfolding zeros
small_zeros zero = small_none
small_zeros (suc n) = small_more 0 (zeros n) (omega arith) (small_zeros n)

small_bytes : (n x k : ℕ) → byte k (bytes n x) < 256
unfolding bytes
small_bytes zero x = small_none
small_bytes (suc n) x = small_more (x / 256 ^ n % 256) (bytes n x) (mod-lt (x / 256 ^ n) (lit< tt)) (small_bytes n x)

small_runs : (rs : List Run) (k : ℕ) → byte k (runs_bytes rs) < 256
unfolding runs_bytes run_bytes
small_runs [] = small_none
small_runs (r ∷ rs) =
    small_append (bytes 8 r.start ++ (bytes 4 r.count ++ (cond r.held 0 1 ∷ zeros 3))) (runs_bytes rs)
    (small_append (bytes 8 r.start) (bytes 4 r.count ++ (cond r.held 0 1 ∷ zeros 3)) (small_bytes 8 r.start)
    (small_append (bytes 4 r.count) (cond r.held 0 1 ∷ zeros 3) (small_bytes 4 r.count)
    (small_more (cond r.held 0 1) (zeros 3) (small_status r.held) (small_zeros 3))))
    (small_runs rs)
  where
    small_status : (b : Bool) → cond b 0 1 < 256
    small_status true = omega arith
    small_status false = omega arith

pub status_bytes : (capacity : ℕ) (owners : List ℕ) (start k : ℕ) → byte k (status_data capacity owners start) < 256
unfolding status_data status_page
status_bytes capacity owners start =
    let rs = runs_from capacity owners start most_runs in
    small_append (bytes 4 (4 + 16 * length rs)) (zeros 4 ++ runs_bytes rs) (small_bytes 4 (4 + 16 * length rs))
    (small_append (zeros 4) (runs_bytes rs) (small_zeros 4) (small_runs rs))

pub tells_status_law : (capacity : ℕ) (owners : List ℕ) (start : ℕ) (page : List ℕ) → start < capacity → capacity ≤ most_blocks
    → ((k : ℕ) → byte k page < 256) → TellsMap capacity owners start page → page ≡ status_data capacity owners start
tells_status_law capacity owners start page h l b t =
    tells_only capacity owners start page (status_data capacity owners start) b (status_bytes capacity owners start) t (tells_map capacity owners start h l)
