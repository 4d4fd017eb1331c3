-- Laws of a page of bytes: behind the bytes that it has its memory holds zeros, once it is begun and as it grows.
-- Assumes nothing.
use mathlib.Core.Path.{◌≡◌, sym, ap, ◌∙◌}
use mathlib.Core.List.{List}
use Prim.Native.Nat.{ℕ, ◌+◌, ◌-◌, ◌≤◌, ◌<◌}
use native.Mathlib.Omega.{arith}
use borrow.Rule.Slice.PartMut.{put_mid}
use lib.ListN.{length, length-append, length-set, length-replicate, drop, set, replicate}
use Rattle.std.proofs.lemmas.List.{length-take-le, length-drop, drop-drop, drop-set-lt, drop-replicate}
use Rattle.std.proofs.lemmas.Slice.{drop-put_mid}
use Rattle.fields.specs.Bytes.{zeros}
use Rattle.fields.specs.Page.{page_view, IsPage}
use Rattle.fields.specs.declared.page.Page.TheInside.{Inside}
use Rattle.fields.proofs.BytesLaws.{zeros_replicate}

-- memory of zeros is that of a page of any length
pub page_begun : (n k b : ℕ) → b ≡ 0 → k ≤ n → IsPage {n = n} (record { bytes = replicate n b; len = k })
page_begun n k b e h = record {
  fits = h;
  room = length-replicate n b;
  spare = ap (λ (b : ℕ). drop k (replicate n b)) e ∙ drop-replicate k n 0 ∙ sym (zeros_replicate (n - k));
}

-- ---- a page that grows

-- what is left of zeros
drop_zeros : (n m : ℕ) → drop n (zeros m) ≡ zeros (m - n)
drop_zeros n m = rw (zeros_replicate m, zeros_replicate (m - n)) (drop-replicate n m 0)

module _ (n : ℕ) (p : Inside n) (h : IsPage p) where
  view_length : (l : List ℕ) → page_view p ≡ l → length l ≡ p.len
  view_length l e = sym (ap length e) ∙ length-take-le p.len p.bytes (omega (arith, h.fits, h.room))

  -- further on the zeros go on
  spare_less : (m : ℕ) → p.len ≤ m → drop m p.bytes ≡ zeros (n - m)
  spare_less m i =
      let e : m ≡ p.len + (m - p.len) = omega arith in
      let f : n - p.len - (m - p.len) ≡ n - m = omega arith in
      ap (λ (k : ℕ). drop k p.bytes) e
      ∙ sym (drop-drop (m - p.len) p.len p.bytes)
      ∙ ap (drop (m - p.len)) h.spare
      ∙ drop_zeros (m - p.len) (n - p.len)
      ∙ ap zeros f

pub page_pushed : (n : ℕ) (p : Inside n) (l : List ℕ) (b : ℕ) → IsPage p → page_view p ≡ l → length l < n
    → IsPage {n = n} (record { bytes = set p.bytes p.len b; len = p.len + 1 })
page_pushed n p l b h e r =
    let f = view_length n p h l e in
    record {
      fits = omega arith;
      room = length-set p.bytes p.len b ∙ h.room;
      spare = drop-set-lt (p.len + 1) p.bytes p.len b (omega arith) ∙ spare_less n p h (p.len + 1) (omega arith);
    }

pub page_appended : (n : ℕ) (p : Inside n) (l more now : List ℕ) (m : ℕ) → IsPage p → page_view p ≡ l → now ≡ more
    → length l + length more ≤ n → m ≡ p.len + length more
    → IsPage {n = n} (record { bytes = put_mid p.len (p.len + length more - p.len) p.bytes now; len = m })
page_appended n p l more now m h e s r i =
    let f = view_length n p h l e in
    let g = ap length s in
    let k : p.len ≤ length p.bytes = omega (arith, h.room) in
    record {
      fits = omega arith;
      room = simp (length-append, length-drop) (omega (arith, length-take-le p.len p.bytes k));
      spare = drop-put_mid p.len (p.len + length more - p.len) p.bytes now m (omega arith) k (omega arith) ∙ spare_less n p h m (omega arith);
    }
