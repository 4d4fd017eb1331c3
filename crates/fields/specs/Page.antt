-- A page of bytes: what its memory holds, and that the bytes that it has are all that there is to know of it.
-- Assumes nothing.
use Rattle.std.specs.Prelude.{◌≡◌, List, ◌++◌, ℕ, ◌-◌, ◌≤◌, length, take, drop}
use Rattle.std.proofs.Common.{arith, take-append-drop, length-take-le}
use Rattle.fields.specs.Bytes.{zeros}
use Rattle.fields.specs.declared.page.Page.TheInside.{Inside}

-- the bytes that the page has
abbrev pub page_view : {n : ℕ} → Inside n → List ℕ
page_view p = take p.len p.bytes

-- its memory has n bytes: those that the page has, and zeros
pub record IsPage {n : ℕ} (p : Inside n) : Type 0 where
  pub fits : p.len ≤ n
  pub room : length p.bytes ≡ n
  pub spare : drop p.len p.bytes ≡ zeros (n - p.len)

-- the memory of n bytes of a page that has the bytes l
abbrev pub page_of : (n : ℕ) → List ℕ → Inside n
page_of n l = record { bytes = l ++ zeros (n - length l); len = length l }

same_inside : (n : ℕ) (b c : List ℕ) (k m : ℕ) → b ≡ c → k ≡ m → ◌≡◌ {A = Inside n} (record { bytes = b; len = k }) (record { bytes = c; len = m })
same_inside n b c k m e f = cc

-- a law of these three, here since the type's `impl Model` cites it, which cites no file of proofs/
pub page_same : (n : ℕ) (p : Inside n) → IsPage p → page_of n (page_view p) ≡ p
page_same n p h =
    let e : length (take p.len p.bytes) ≡ p.len = length-take-le p.len p.bytes (omega (arith, h.fits, h.room)) in
    same_inside n _ _ _ _ (rw (e, ← h.spare) (take-append-drop p.len p.bytes)) e
