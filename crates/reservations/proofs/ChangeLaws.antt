-- A list of what a function gives of each element, as an array's `map` makes it; and the lowest free place given away.
-- Assumes nothing.
use Rattle.std.proofs.Common.{◌≡◌, ℕ, zero, suc, ◌+◌, ◌<◌, Bool, true, false, cond, not, None, Some, List, [], ◌∷◌, map, length, get_or, set, ltb, ltb-false, sym, refl, subst, ap, ◌∙◌, arith, add-zero}
use Rattle.std.proofs.lemmas.List.{same_lists, get_or-map, length-map}
use lib.Seq.{set_out}
use Rattle.std.specs.Array.{MapsFrom, IsMapOf}
use Rattle.std.specs.Fn.{Called, Mut}
use Rattle.std.specs.List.{position, position_or_len}
use Rattle.rights.specs.declared.Place.{Place}
use Rattle.rights.specs.Places.{used, registration, enrol}

module _ {F X Y : Type 0} (g : Mut F (X × Unit {0}) Y) (h : X → Y) (f : F) (same : (x : X) (y : Y) (q : F) → Called g f (x, tt) y q → (q ≡ f) × (y ≡ h x)) where
  -- from the place i on
  from_on : (n i : ℕ) (xs : List X) (ys : List Y) → MapsFrom g f xs ys i n → (k : ℕ) (d : X) (e : Y) → k < n → get_or ys (i + k) e ≡ h (get_or xs (i + k) d)
  from_on zero i xs ys m k d e l = absurd (omega arith)
  from_on (suc n) i xs ys (q, x, y, at_x, at_y, called, rest) zero d e l = rw add-zero (at_y.1 e ∙ (same x y q called).1 ∙ ap h (sym (at_x.1 d)))
  from_on (suc n) i xs ys (q, x, y, at_x, at_y, called, rest) (suc k) d e l =
      let next : i + suc k ≡ (i + 1) + k = omega arith in
      rw next (from_on n (i + 1) xs ys (subst (λ (p : F). MapsFrom g p xs ys (i + 1) n) (same x y q called).0 rest) k d e (omega arith))

  pub mapped : (xs : List X) (ys : List Y) (n : ℕ) → IsMapOf g f xs ys n → length xs ≡ n → ys ≡ map h xs
  mapped xs ys n m l = same_lists ys (map h xs) (m.long ∙ sym (length-map xs h ∙ l)) (λ k e small. each k e small xs l)
    where
      each : (k : ℕ) (e : Y) → k < length ys → (zs : List X) → length zs ≡ n → get_or ys k e ≡ get_or (map h xs) k e
      each k e small [] z = absurd (omega (arith, m.long))
      each k e small (d ∷ zs) z =
          let front : 0 + k ≡ k = omega arith in
          (rw front at (from_on n 0 xs ys m.each k d e (omega (arith, m.long)))) ∙ sym (get_or-map h xs k d e (omega (arith, m.long)))

-- ---- the lowest free place

enrol_step : (n k : ℕ) (p : Place) (ps : List Place) (b : Bool) (i : ℕ) → enrol n k ps ≡ set ps i (registration n k)
    → cond b (p ∷ enrol n k ps) (registration n k ∷ ps) ≡ set (p ∷ ps) (cond (not (not b)) (1 + i) 0) (registration n k)
enrol_step n k p ps true i e =
    let next : 1 + i ≡ suc i = omega arith in
    rw next (ap (λ (l : List Place). p ∷ l) e)
enrol_step n k p ps false i e = refl

enrol_set : (n k : ℕ) (ps : List Place) → enrol n k ps ≡ set ps (position_or_len (λ p. not (used p)) ps) (registration n k)
unfolding enrol
enrol_set n k [] = refl
enrol_set n k (p ∷ ps) = enrol_step n k p ps (used p) (position_or_len (λ p. not (used p)) ps) (enrol_set n k ps)

enrol_at : (n k : ℕ) (ps : List Place) (i : ℕ) → i ≡ position_or_len (λ p. not (used p)) ps → set ps i (registration n k) ≡ enrol n k ps
enrol_at n k ps i e = rw e (sym (enrol_set n k ps))

pub enrol_found : (n k : ℕ) (ps : List Place) (i : ℕ) → Some i ≡ position (λ p. not (used p)) ps → set ps i (registration n k) ≡ enrol n k ps
enrol_found n k ps i e = go (ltb (position_or_len (λ p. not (used p)) ps) (length ps)) e
  where
    go : (b : Bool) → Some i ≡ cond b (Some (position_or_len (λ p. not (used p)) ps)) None → set ps i (registration n k) ≡ enrol n k ps
    go true z = grind (arith, enrol_at)
    go false z = grind arith

pub enrol_full : (n k : ℕ) (ps : List Place) → None ≡ position (λ p. not (used p)) ps → ps ≡ enrol n k ps
enrol_full n k ps e = go (ltb (position_or_len (λ p. not (used p)) ps) (length ps)) refl e
  where
    go : (b : Bool) → ltb (position_or_len (λ p. not (used p)) ps) (length ps) ≡ b → None ≡ cond b (Some (position_or_len (λ p. not (used p)) ps)) None → ps ≡ enrol n k ps
    go true out z = grind arith
    go false out z = sym (enrol_set n k ps ∙ set_out ps _ _ (omega (arith, ltb-false _ _ out)))
