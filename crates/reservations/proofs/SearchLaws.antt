-- Each question about the places, as a search of them by one test; and a place that is not sound.
-- Assumes nothing.
use Rattle.std.proofs.Common.{◌≡◌, ℕ, Bor, Bool, true, false, cond, not, ◌&&◌, ◌||◌, eqb, Option, None, Some, List, [], ◌∷◌, length, refl, ap, ◌∙◌, sym, arith}
use Rattle.std.proofs.Common.{◌≢◌, ◌<◌, ne_eqb}
use borrow.Author.Tests.{lt-leb}
use Rattle.std.specs.List.{list_any, find}
use Rattle.std.specs.Option.{option_map, option_map_or}
use Rattle.rights.specs.declared.Place.{Place}
use Rattle.rights.specs.Rights.{place_ok, places_apart}
use Rattle.reservations.specs.Search.{sound_before}
use Rattle.rights.specs.Places.{used, is_of, registered, known, somebody, vacant, key_of}

pub registered_found : (n : ℕ) (ps : List Place) (r : Bool) → r ≡ list_any (is_of n) ps → r ≡ registered n ps
unfolding registered
registered_found n ps r e = e ∙ go ps
  where
    go : (ps : List Place) → list_any (is_of n) ps ≡ registered n ps
    go [] = refl
    go (p ∷ ps) = ap (λ (b : Bool). is_of n p || b) (go ps)

pub known_found : (k : ℕ) (ps : List Place) (r : Bool) → r ≡ list_any (λ p. used p && eqb p.key k) ps → r ≡ known k ps
unfolding known
known_found k ps r e = e ∙ go ps
  where
    go : (ps : List Place) → list_any (λ p. used p && eqb p.key k) ps ≡ known k ps
    go [] = refl
    go (p ∷ ps) = ap (λ (b : Bool). (used p && eqb p.key k) || b) (go ps)

pub somebody_found : (ps : List Place) (r : Bool) → r ≡ list_any used ps → r ≡ somebody ps
unfolding somebody
somebody_found ps r e = e ∙ go ps
  where
    go : (ps : List Place) → list_any used ps ≡ somebody ps
    go [] = refl
    go (p ∷ ps) = ap (λ (b : Bool). used p || b) (go ps)

pub vacant_found : (ps : List Place) (r : Bool) → r ≡ list_any (λ p. not (used p)) ps → r ≡ vacant ps
unfolding vacant
vacant_found ps r e = e ∙ go ps
  where
    go : (ps : List Place) → list_any (λ p. not (used p)) ps ≡ vacant ps
    go [] = refl
    go (p ∷ ps) = ap (λ (b : Bool). not (used p) || b) (go ps)

key_step : (b : Bool) (p : Place) (o : Option Place) (k : ℕ) → option_map_or (λ (p : Place). p.key) o 0 ≡ k
    → option_map_or (λ (p : Place). p.key) (cond b (Some p) o) 0 ≡ cond b p.key k
key_step true p o k e = refl
key_step false p o k e = e

key_found : (n : ℕ) (ps : List Place) → option_map_or (λ (p : Place). p.key) (find (is_of n) ps) 0 ≡ key_of n ps
unfolding key_of
key_found n [] = refl
key_found n (p ∷ ps) = key_step (is_of n p) p (find (is_of n) ps) (key_of n ps) (key_found n ps)

key_shown : (o : Option (Bor Place)) → option_map_or (λ p. p.now.key) o 0 ≡ option_map_or (λ (p : Place). p.key) (option_map (λ p. p.now) o) 0
key_shown None = refl
key_shown (Some p) = refl

pub key_of_found : (n : ℕ) (ps : List Place) (o : Option (Bor Place)) → option_map (λ p. p.now) o ≡ find (is_of n) ps → option_map_or (λ p. p.now.key) o 0 ≡ key_of n ps
key_of_found n ps o e = key_shown o ∙ ap (λ (x : Option Place). option_map_or (λ (p : Place). p.key) x 0) e ∙ key_found n ps

-- ---- every place sound, the first of them already

pub apart_on : (old whole : Bool) (p : Place) (rest later : List Place) → rest ≡ p ∷ later → (old && places_apart rest) ≡ whole → ((old && sound_before p later) && places_apart later) ≡ whole
unfolding places_apart sound_before
apart_on true whole p rest later e h = ap places_apart (sym e) ∙ h
apart_on false whole p rest later e h = h

pub apart_end : (old whole : Bool) (rest : List Place) → length rest ≡ 0 → (old && places_apart rest) ≡ whole → old ≡ whole
unfolding places_apart
apart_end true whole [] e h = h
apart_end false whole [] e h = h
apart_end old whole (p ∷ ps) e h = absurd (omega arith)

-- ---- a place that is used by a nexus there is not

pub sound_beyond : (p : Place) (ps : List Place) → p.key ≢ 0 → 15 < p.nexus → false ≡ sound_before p ps
unfolding sound_before place_ok used
sound_beyond p ps k h = simp (ne_eqb _ _ k, lt-leb _ _ h)
