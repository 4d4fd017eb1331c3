-- The parameter data of PERSISTENT RESERVE IN.
-- Assumes nothing.
use Rattle.std.specs.Prelude.{cond, List, [], ◌∷◌, ◌++◌, ℕ, eqb, length}
use Rattle.fields.specs.Bytes.{zeros}
use Rattle.fields.specs.Field.{bytes}
use Rattle.rights.specs.declared.Place.{Place}
use Rattle.rights.specs.declared.Rights.{Rights}
use Rattle.rights.specs.Places.{used}
use Rattle.rights.specs.Rights.{holder_key}

-- "keys by place"
unfoldable pub keys : List Place → List ℕ
keys [] = []
keys (p ∷ ps) = cond (used p) (bytes 8 p.key) [] ++ keys ps

-- "Keys: generation 0-3, 8 x n in 4-7, keys by place."
unfoldable pub keys_data : Rights → List ℕ
keys_data r = bytes 4 r.generation ++ (bytes 4 (length (keys r.places)) ++ keys r.places)

-- "Reservation: generation; length 0, or 16 with the holder's key in 8-15 (0 for types 7, 8), byte 21 the type, others 0."
-- A type is below 256, so the number in bytes 18-21 has it in byte 21 and zeros before.
unfoldable pub reservation_data : Rights → List ℕ
reservation_data r =
    bytes 4 r.generation
    ++ cond (eqb r.kind 0) (bytes 4 0) (bytes 4 16 ++ (bytes 8 (holder_key r) ++ (zeros 2 ++ (bytes 4 r.kind ++ zeros 2))))
