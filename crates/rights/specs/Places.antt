-- The registration places: who is registered, with which key, and where the next one goes.
-- Assumes nothing.
use Rattle.std.specs.Prelude.{Bool, false, not, ◌&&◌, ◌||◌, cond, List, [], ◌∷◌, Option, None, Some, ℕ, eqb}
use Rattle.rights.specs.declared.Place.{Place}

-- "unused places hold zeros"
abbrev pub unused : Place
unused = record { nexus = 0; key = 0 }

-- the place of a nexus that comes with a key
abbrev pub registration : ℕ → ℕ → Place
registration n k = record { nexus = n; key = k }

-- "used registration places have … nonzero keys": a place is used exactly if its key is not 0
unfoldable pub used : Place → Bool
used p = not (eqb p.key 0)

-- is this the place of the nexus n
unfoldable pub is_of : ℕ → Place → Bool
is_of n p = used p && eqb p.nexus n

unfoldable pub registered : ℕ → List Place → Bool
registered n [] = false
registered n (p ∷ ps) = is_of n p || registered n ps

-- the key of the nexus n, 0 if it is not registered
unfoldable pub key_of : ℕ → List Place → ℕ
key_of n [] = 0
key_of n (p ∷ ps) = cond (is_of n p) p.key (key_of n ps)

-- is anybody registered
unfoldable pub somebody : List Place → Bool
somebody [] = false
somebody (p ∷ ps) = used p || somebody ps

-- is a place free
unfoldable pub vacant : List Place → Bool
vacant [] = false
vacant (p ∷ ps) = not (used p) || vacant ps

-- is k the key of a registration; no registration has the key 0
unfoldable pub known : ℕ → List Place → Bool
known k [] = false
known k (p ∷ ps) = (used p && eqb p.key k) || known k ps

-- ---- changes

-- "registers (lowest free place)"
unfoldable pub enrol : ℕ → ℕ → List Place → List Place
enrol n k [] = []
enrol n k (p ∷ ps) = cond (used p) (p ∷ enrol n k ps) (registration n k ∷ ps)

-- the same place with another key: no other definition makes a place from a place field by field
unfoldable pub with_key : Place → ℕ → Place
with_key p k = record { nexus = p.nexus; key = k }

-- "or changes the key; 0 unregisters": the place p after the nexus n gave the key k
unfoldable pub rekeyed : ℕ → ℕ → Place → Place
rekeyed n k p = cond (is_of n p) (cond (eqb k 0) unused (with_key p k)) p

-- who is left where all with a key are removed: nobody, or the sender
abbrev pub nobody : Option ℕ
nobody = None

abbrev pub sender : ℕ → Option ℕ
sender n = Some n

unfoldable pub spares : Option ℕ → Place → Bool
spares None p = false
spares (Some n) p = eqb p.nexus n

-- the place p after all with the key k are removed
unfoldable pub without : Option ℕ → ℕ → Place → Place
without s k p = cond (eqb p.key k && not (spares s p)) unused p

-- Q-3: "removes every other registration": the place p after all but the nexus n are removed
unfoldable pub alone : ℕ → Place → Place
alone n p = cond (is_of n p) p unused
