-- Laws of the page: its length, and how it is put together descriptor after descriptor, the header last.
-- Assumes nothing.
use mathlib.Core.Path.{◌≡◌, refl, sym, ap, ◌∙◌}
use mathlib.Core.List.{List, [], ◌∷◌, ◌++◌, append_assoc}
use Prim.Native.Nat.{ℕ, suc, ◌+◌, ◌-◌, ◌*◌, ◌≤◌, ◌<◌}
use native.Mathlib.Omega.{arith}
use native.Mathlib.Nat.{zero-add}
use lib.ListN.{length, drop, length-append}
use borrow.Rule.Slice.PartMut.{put_mid}
use Rattle.fields.specs.Bytes.{put, zeros}
use Rattle.fields.specs.Field.{bytes}
use Rattle.fields.proofs.BytesLaws.{put_is, put_none, put_next, length_put, length_zeros}
use Rattle.fields.proofs.FieldLaws.{length_bytes}
use Rattle.map.proofs.Blocks.{lent_back}
use Rattle.runs.specs.Runs.{most_runs, Run, run_at, runs_from}
use Rattle.runs.specs.Page.{run_bytes, runs_bytes, status_page, status_data}
use Rattle.runs.proofs.RunLaws.{run_left, runs_more, runs_none, runs_end, length_runs}

-- ---- lengths

pub length_run : (r : Run) → length (run_bytes r) ≡ 16
unfolding run_bytes
length_run r = simp (length-append, length_bytes, length_zeros)

pub length_runs_bytes : (rs : List Run) → length (runs_bytes rs) ≡ 16 * length rs
unfolding runs_bytes
length_runs_bytes [] = refl
length_runs_bytes (r ∷ rs) = omega (arith, length-append (run_bytes r) (runs_bytes rs), length_run r, length_runs_bytes rs)

pub bytes_more : (r : Run) (rs : List Run) → runs_bytes (r ∷ rs) ≡ run_bytes r ++ runs_bytes rs
unfolding runs_bytes
bytes_more r rs = refl

-- the header
unfoldable pub head_bytes : ℕ → List ℕ
head_bytes n = bytes 4 (4 + 16 * n) ++ zeros 4

pub length_head : (n : ℕ) → length (head_bytes n) ≡ 8
unfolding head_bytes
length_head n = simp (length-append, length_bytes, length_zeros)

pub page_is : (rs : List Run) → status_page rs ≡ head_bytes (length rs) ++ runs_bytes rs
unfolding status_page head_bytes
page_is rs = sym (append_assoc (bytes 4 (4 + 16 * length rs)) (zeros 4) (runs_bytes rs))

pub length_page : (rs : List Run) → length (status_page rs) ≡ 8 + 16 * length rs
length_page rs =
    ap length (page_is rs)
    ∙ omega (arith, length-append (head_bytes (length rs)) (runs_bytes rs), length_head (length rs), length_runs_bytes rs)

pub status_long : (capacity : ℕ) (owners : List ℕ) (start : ℕ) → length (status_data capacity owners start) ≤ 520
unfolding status_data
status_long capacity owners start =
    omega (arith, length_page (runs_from capacity owners start most_runs), length_runs capacity owners start most_runs)

-- ---- descriptor after descriptor

-- the descriptors of the first `count` runs from a₀ on are in the page; a is the block behind them
pub record Telling (capacity : ℕ) (o page₀ : List ℕ) (a₀ : ℕ) (page : List ℕ) (a count : ℕ) : Type 0 where
  pub reached : a ≤ capacity
  pub long : length page ≡ 520
  pub few : count ≤ most_runs
  pub number : count + length (runs_from capacity o a (most_runs - count)) ≡ length (runs_from capacity o a₀ most_runs)
  pub told : put page (8 + 16 * count) (runs_bytes (runs_from capacity o a (most_runs - count))) ≡ put page₀ 8 (runs_bytes (runs_from capacity o a₀ most_runs))

pub tell_start : (capacity : ℕ) (o page : List ℕ) (a : ℕ) → a < capacity → length page ≡ 520 → Telling capacity o page a page a 0
tell_start capacity o page a h l = record { reached = omega arith; long = l; few = omega arith; number = zero-add _; told = refl }

module _ (capacity : ℕ) (o page₀ : List ℕ) (a₀ : ℕ) (page : List ℕ) (a count : ℕ) (t : Telling capacity o page₀ a₀ page a count) where
  pub tell_turn : count < most_runs → a < capacity → (r : Run) (d : List ℕ) → r ≡ run_at capacity o a → d ≡ run_bytes r
      → Telling capacity o page₀ a₀ (put_mid (8 + 16 * count) (8 + 16 * count + 16 - (8 + 16 * count)) page d) (a + r.count) (count + 1)
  tell_turn h l r d e f =
      let at = 8 + 16 * count in
      let s : most_runs - count ≡ suc (most_runs - (count + 1)) = omega arith in
      let rest = runs_from capacity o (a + r.count) (most_runs - (count + 1)) in
      let more : runs_from capacity o a (most_runs - count) ≡ r ∷ rest = rw (s, e) (runs_more capacity o a (most_runs - (count + 1)) l) in
      let w : length d ≡ 16 = ap length f ∙ length_run r in
      let m = t.long in
      let p : put_mid at (at + 16 - at) page d ≡ put page at d = lent_back page d at 16 w (omega arith) in
      let z : at + length d ≡ 8 + 16 * (count + 1) = omega arith in
      let left = run_left capacity o a in
      let c : r.count ≡ (run_at capacity o a).count = ap (λ (q : Run). q.count) e in
      let n : count + length (r ∷ rest) ≡ length (runs_from capacity o a₀ most_runs) = rw more at t.number in
      record {
        reached = omega arith;
        long = ap length p ∙ length_put page at d ∙ m;
        few = omega arith;
        number = omega arith;
        told =
            rw p (ap (λ (i : ℕ). put (put page at d) i (runs_bytes rest)) (sym z)
            ∙ put_next page at d (runs_bytes rest)
            ∙ ap (put page at) (ap (λ (x : List ℕ). x ++ runs_bytes rest) f ∙ sym (ap runs_bytes more ∙ bytes_more r rest))
            ∙ t.told);
      }

  all_told : runs_from capacity o a (most_runs - count) ≡ []
      → (count ≡ length (runs_from capacity o a₀ most_runs)) × (page ≡ put page₀ 8 (runs_bytes (runs_from capacity o a₀ most_runs)))
  unfolding runs_bytes
  all_told e =
      let n : count + 0 ≡ length (runs_from capacity o a₀ most_runs) = rw e at t.number in
      let p : put page (8 + 16 * count) [] ≡ put page₀ 8 (runs_bytes (runs_from capacity o a₀ most_runs)) = rw e at t.told in
      (omega arith, sym (put_none page (8 + 16 * count)) ∙ p)

  pub tell_end : capacity ≤ a → (count ≡ length (runs_from capacity o a₀ most_runs)) × (page ≡ put page₀ 8 (runs_bytes (runs_from capacity o a₀ most_runs)))
  tell_end h = all_told (runs_end capacity o a (most_runs - count) h)

  pub tell_full : most_runs ≤ count
      → (most_runs ≡ length (runs_from capacity o a₀ most_runs)) × (page ≡ put page₀ 8 (runs_bytes (runs_from capacity o a₀ most_runs)))
  tell_full h =
      let few = t.few in
      let z : most_runs - count ≡ 0 = omega arith in
      let e : runs_from capacity o a (most_runs - count) ≡ [] = rw z (runs_none capacity o a) in
      let all = all_told e in
      let n = all.0 in
      (omega arith, all.1)

-- ---- the header last

put_first : (l hs bs : List ℕ) → put (put l (length hs) bs) 0 hs ≡ put l 0 (hs ++ bs)
unfolding put
put_first [] hs bs = refl
put_first (x ∷ xs) [] bs = put_none (put (x ∷ xs) 0 bs) 0
put_first (x ∷ xs) (h ∷ hs) bs = ap (λ (l : List ℕ). h ∷ l) (put_first xs hs bs)

pub status_is : (capacity : ℕ) (o page₀ page : List ℕ) (a count : ℕ) (head : List ℕ)
    → count ≡ length (runs_from capacity o a most_runs) → page ≡ put page₀ 8 (runs_bytes (runs_from capacity o a most_runs)) → length page₀ ≡ 520
    → head ≡ bytes 4 (4 + 16 * count) ++ zeros 4
    → head ++ drop 8 page ≡ put page₀ 0 (status_data capacity o a)
unfolding status_data head_bytes
status_is capacity o page₀ page a count head n p l e =
    let rs = runs_from capacity o a most_runs in
    let f : head ≡ head_bytes (length rs) = rw (← n) e in
    let w : length head ≡ 8 = ap length f ∙ length_head (length rs) in
    let m : length page ≡ 520 = ap length p ∙ length_put page₀ 8 (runs_bytes rs) ∙ l in
    let z : 8 ≡ 0 + length head = omega arith in
    ap (λ (i : ℕ). head ++ drop i page) z
    ∙ sym (put_is page 0 head (omega arith))
    ∙ rw (p, f)
    (ap (λ (i : ℕ). put (put page₀ i (runs_bytes rs)) 0 (head_bytes (length rs))) (sym (length_head (length rs)))
    ∙ put_first page₀ (head_bytes (length rs)) (runs_bytes rs)
    ∙ ap (put page₀ 0) (sym (page_is rs)))

pub status_length : (capacity : ℕ) (o : List ℕ) (a count : ℕ) → count ≡ length (runs_from capacity o a most_runs)
    → 8 + 16 * count ≡ length (status_data capacity o a)
unfolding status_data
status_length capacity o a count n = rw n (sym (length_page (runs_from capacity o a most_runs)))
