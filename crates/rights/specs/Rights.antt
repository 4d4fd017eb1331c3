-- Registrations, the reservation and the generation: which are valid, who holds, and when a reservation ends.
-- Assumes nothing.
use Rattle.std.specs.Prelude.{Bool, true, false, not, ◌&&◌, ◌||◌, cond, List, [], ◌∷◌, ℕ, ◌+◌, ◌%◌, ◌^◌, eqb, leb, length}
use Rattle.rights.specs.Bounds.{last_nexus, registration_places}
use Rattle.rights.specs.declared.Place.{Place}
use Rattle.rights.specs.declared.Rights.{Rights}
use Rattle.rights.specs.Places.{used, unused, registered, key_of, somebody}

-- ---- types: "1 write exclusive, 3 exclusive access, 5 and 6 the same for registrants only, 7 and 8 for all registrants"

unfoldable pub is_one_of : ℕ → List ℕ → Bool
is_one_of x [] = false
is_one_of x (y ∷ ys) = eqb x y || is_one_of x ys

-- "a reservation has type 1, 3, 5, 6, 7 or 8"
unfoldable pub is_type : ℕ → Bool
is_type kind = is_one_of kind (1 ∷ 3 ∷ 5 ∷ 6 ∷ 7 ∷ 8 ∷ [])

-- one nexus holds
unfoldable pub one_holds : ℕ → Bool
one_holds kind = is_one_of kind (1 ∷ 3 ∷ 5 ∷ 6 ∷ [])

-- "Under 7 and 8 every registered nexus is a holder."
unfoldable pub all_hold : ℕ → Bool
all_hold kind = is_one_of kind (7 ∷ 8 ∷ [])

unfoldable pub holds : Rights → ℕ → Bool
holds r n = (one_holds r.kind && eqb r.holder n) || (all_hold r.kind && registered n r.places)

-- the key of the one nexus that holds; no key, 0, where all hold or none does
unfoldable pub holder_key : Rights → ℕ
holder_key r = cond (one_holds r.kind) (key_of r.holder r.places) 0

-- ---- valid

-- "used registration places have … nexuses up to 15 …; unused places hold zeros"
unfoldable pub place_ok : Place → Bool
place_ok p = cond (used p) (leb p.nexus last_nexus) (eqb p.nexus 0)

-- "different nexuses"
unfoldable pub places_apart : List Place → Bool
places_apart [] = true
places_apart (p ∷ ps) = place_ok p && not (used p && registered p.nexus ps) && places_apart ps

unfoldable pub places_ok : List Place → Bool
places_ok ps = eqb (length ps) registration_places && places_apart ps

-- "for 1, 3, 5, 6 its holder is registered; for 7 and 8 the holder field is 0 and somebody is registered; with no reservation, holder and type are 0"
unfoldable pub stands : List Place → ℕ → ℕ → Bool
stands ps kind holder =
    (eqb kind 0 && eqb holder 0)
    || (one_holds kind && registered holder ps)
    || (all_hold kind && eqb holder 0 && somebody ps)

unfoldable pub rights_ok : Rights → Bool
rights_ok r = places_ok r.places && stands r.places r.kind r.holder

-- ---- the same rights but for what is named
-- No other definition makes rights from rights field by field, so that a field more is written here alone.

unfoldable pub with_places : Rights → List Place → Rights
with_places r ps = record { places = ps; holder = r.holder; generation = r.generation; kind = r.kind }

unfoldable pub with_reservation : Rights → ℕ → ℕ → Rights
with_reservation r kind holder = record { places = r.places; holder = holder; generation = r.generation; kind = kind }

unfoldable pub with_generation : Rights → ℕ → Rights
with_generation r n = record { places = r.places; holder = r.holder; generation = n; kind = r.kind }

-- ---- changes

-- the rights with a reservation of this type made by n; "for 7 and 8 the holder field is 0"
unfoldable pub held : Rights → ℕ → ℕ → Rights
held r kind n = with_reservation r kind (cond (all_hold kind) 0 n)

-- with no reservation
unfoldable pub ended : Rights → Rights
ended r = with_reservation r 0 0

-- "its holder, or under 7 and 8 the last registrant, is gone"
unfoldable pub gone : Rights → Bool
gone r = (one_holds r.kind && not (registered r.holder r.places)) || (all_hold r.kind && not (somebody r.places))

-- "A reservation ends when its holder, or under 7 and 8 the last registrant, is gone."
unfoldable pub settled : Rights → Rights
settled r = cond (gone r) (ended r) r

-- "Generation rises by 1 …; after FFFF_FFFFh the generation is 0."
unfoldable pub raised : Rights → Rights
raised r = with_generation r ((r.generation + 1) % 2 ^ 32)

-- "A fresh store has no mapping, registration or reservation and generation 0."
unfoldable pub no_rights : Rights
no_rights = record { places = unused ∷ unused ∷ unused ∷ unused ∷ unused ∷ unused ∷ unused ∷ unused ∷ []; holder = 0; generation = 0; kind = 0 }
