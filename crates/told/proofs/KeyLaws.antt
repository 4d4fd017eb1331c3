-- Laws of the keys by place, and of what is told in whole.
-- Assumes nothing.
use mathlib.Core.Path.{◌≡◌, refl, sym, ap, ◌∙◌}
use mathlib.Core.Bool.{Bool, true, false, cond}
use mathlib.Core.List.{List, [], ◌∷◌, ◌++◌, append_assoc, append-nil}
use Prim.Native.Nat.{ℕ, suc, ◌+◌, ◌*◌, ◌≤◌, ◌<◌}
use native.Mathlib.Numerals.{add-one}
use native.Mathlib.Omega.{arith}
use lib.ListN.{length, length-append, take, get_or}
use lib.Seq.{take-suc, length-take-le}
use borrow.Author.Tests.{eq-eqb, ne_eqb}
use Rattle.fields.specs.Bytes.{zeros}
use Rattle.fields.specs.Field.{bytes}
use Rattle.fields.specs.Page.{page_view, IsPage, page_of, page_same}
use Rattle.fields.specs.declared.page.Page.TheInside.{Inside}
use Rattle.fields.proofs.FieldLaws.{length_bytes}
use Rattle.rights.specs.declared.Place.{Place}
use Rattle.rights.specs.declared.Rights.{Rights}
use Rattle.rights.specs.Places.{used}
use Rattle.rights.specs.Told.{keys, keys_data, reservation_data}
use Rattle.rights.specs.Rights.{holder_key}

-- ---- the keys by place

place_key : Place → List ℕ
place_key p = cond (used p) (bytes 8 p.key) []

keys_append : (a b : List Place) → keys (a ++ b) ≡ keys a ++ keys b
unfolding keys
keys_append [] b = refl
keys_append (x ∷ a) b = rw (keys_append a b) (sym (append_assoc (cond (used x) (bytes 8 x.key) []) (keys a) (keys b)))

keys_more : (l : List Place) (i : ℕ) (d : Place) → i < length l → keys (take (i + 1) l) ≡ keys (take i l) ++ keys (get_or l i d ∷ [])
keys_more l i d h = rw (add-one, take-suc l i d h) (keys_append (take i l) (get_or l i d ∷ []))

pub keys_none : keys [] ≡ []
unfolding keys
keys_none = refl

-- a place that is not used adds nothing, and one that is its key
pub keys_past : (l : List Place) (i : ℕ) (d : Place) → i < length l → used (get_or l i d) ≡ false → keys (take (i + 1) l) ≡ keys (take i l)
unfolding keys
keys_past l i d h e = keys_more l i d h ∙ rw e (append-nil (keys (take i l)))

pub keys_added : (l : List Place) (i : ℕ) (d : Place) → i < length l → used (get_or l i d) ≡ true
    → keys (take (i + 1) l) ≡ keys (take i l) ++ bytes 8 (get_or l i d).key
unfolding keys
keys_added l i d h e = keys_more l i d h ∙ rw e (ap (λ (k : List ℕ). keys (take i l) ++ k) (append-nil (bytes 8 (get_or l i d).key)))

pub keys_most : (l : List Place) → length (keys l) ≤ 8 * length l
unfolding keys
keys_most [] = omega arith
keys_most (x ∷ l) = go (used x) (keys_most l)
  where
    go : (b : Bool) → length (keys l) ≤ 8 * length l → length (cond b (bytes 8 x.key) [] ++ keys l) ≤ 8 * suc (length l)
    go true h = omega (arith, length-append (bytes 8 x.key) (keys l), length_bytes 8 x.key, h)
    go false h = omega (arith, h)

-- a page of the keys of the places that are passed has room for one more
pub keys_room : (l : List Place) (i : ℕ) → i < length l → length (keys (take i l)) + 8 ≤ 8 * length l
keys_room l i h = omega (arith, keys_most (take i l), length-take-le i l (omega arith))

-- ---- what is told in whole

pub keys_told : (r : Rights) → (bytes 4 r.generation ++ bytes 4 (length (keys r.places))) ++ keys r.places ≡ keys_data r
unfolding keys_data
keys_told r = append_assoc (bytes 4 r.generation) (bytes 4 (length (keys r.places))) (keys r.places)

pub reservation_none : (r : Rights) → r.kind ≡ 0 → bytes 4 r.generation ++ bytes 4 0 ≡ reservation_data r
unfolding reservation_data
reservation_none r e = rw (eq-eqb _ _ e)

pub reservation_some : (r : Rights) → (r.kind ≡ 0 → ⊥)
    → ((((bytes 4 r.generation ++ bytes 4 16) ++ bytes 8 (holder_key r)) ++ zeros 2) ++ bytes 4 r.kind) ++ zeros 2 ≡ reservation_data r
unfolding reservation_data
reservation_some r e = rw (ne_eqb _ _ e) (simp append_assoc)

-- ---- no second page shows the same: its length and all bytes of its memory are those of the first

pub shows_only : (n : ℕ) (page other : Inside n) (shown : List ℕ) → IsPage page → IsPage other → page_view page ≡ shown → page_view other ≡ shown
    → page ≡ other
shows_only n page other shown h k e f = sym (page_same n page h) ∙ ap (page_of n) (e ∙ sym f) ∙ page_same n other k

-- the same of pages as clauses see them: their bytes are equal
pub same_shown : (page other shown : List ℕ) → page ≡ shown → other ≡ shown → page ≡ other
same_shown page other shown e f = e ∙ sym f
