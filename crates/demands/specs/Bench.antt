-- The stores and calls of the bench cases.
-- Assumes nothing.
use Rattle.std.specs.Prelude.{List, [], ◌∷◌, ◌++◌, ℕ, ◌+◌, ◌-◌, length, replicate}
use Rattle.fields.specs.Bytes.{zeros}
use Rattle.fields.specs.Field.{bytes}
use Rattle.answers.specs.Sense.{fixed}
use Rattle.pool.specs.Marks.{marks_of}
use Rattle.rights.specs.declared.Place.{Place}
use Rattle.rights.specs.Places.{unused}
use Rattle.rights.specs.Attentions.{no_attentions}
use Rattle.store.specs.Store.{Store, Call}
use Rattle.store.specs.Fresh.{fresh_store}

-- ---- stores

-- a block of bytes whose first and last differ from the rest: a block shifted, repeated or left out shows
unfoldable pub block : ℕ → List ℕ
block x = x ∷ (replicate 510 (x + 1) ++ ((x + 2) ∷ []))

-- what lay in the two slots before
unfoldable pub before : List ℕ
before = block 0x10 ++ block 0x20

unfoldable pub new : ℕ → Store
new capacity = fresh_store capacity fixed 2 before

unfoldable pub at : ℕ → ℕ → Place
at n k = record { nexus = n; key = k }

-- these places, and unused ones up to eight
unfoldable pub places : List Place → List Place
places ps = ps ++ replicate (8 - length ps) unused

-- nexus 1 has the key 11h, nexus 2 the key 22h
unfoldable pub two : List Place
two = places (at 1 0x11 ∷ at 2 0x22 ∷ [])

unfoldable pub eight : List Place
eight = at 1 0x11 ∷ at 2 0x22 ∷ at 3 0x33 ∷ at 4 0x44 ∷ at 5 0x55 ∷ at 6 0x66 ∷ at 7 0x77 ∷ at 8 0x88 ∷ []

-- capacity 8, with these owners, their marks, and bytes of the slots, registrations, type, holder and generation; nothing waits
unfoldable pub made_of : List ℕ → List ℕ → List Place → ℕ → ℕ → ℕ → Store
made_of owners medium places kind holder generation = record {
  format = fixed;
  unit = record {
    capacity = 8;
    rights = record { places = places; kind = kind; holder = holder; generation = generation };
    attentions = no_attentions;
  };
  pool = record { owners = owners; marks = marks_of owners; medium = medium };
}

-- the same with the bytes of before in the slots
unfoldable pub made : List ℕ → List Place → ℕ → ℕ → ℕ → Store
made owners places kind holder generation = made_of owners before places kind holder generation

-- ---- calls

-- a call that is lent so many bytes of data-in, AAh, and of sense, 99h: bytes that nothing writes
unfoldable pub lent : ℕ → ℕ → ℕ → List ℕ → List ℕ → Call
lent data_in sense nexus cdb out =
    record { nexus = nexus; cdb = cdb; data_out = out; data_in = replicate data_in 0xAA; sense = replicate sense 0x99 }

-- more than any of these returns, and more than the 18 bytes of sense
unfoldable pub call : ℕ → List ℕ → List ℕ → Call
call nexus cdb out = lent 76 20 nexus cdb out

unfoldable pub ready : ℕ → Call
ready n = call n (zeros 6) []

unfoldable pub capacity_10 : ℕ → Call
capacity_10 n = call n (0x25 ∷ zeros 9) []

unfoldable pub capacity_16 : ℕ → Call
capacity_16 n = call n (0x9E ∷ 0x10 ∷ (zeros 8 ++ (bytes 4 32 ++ zeros 2))) []

-- address and count in a CDB of 10 bytes, and of 16
unfoldable pub cdb_10 : ℕ → ℕ → ℕ → List ℕ
cdb_10 code a n = code ∷ 0 ∷ (bytes 4 a ++ (0 ∷ (bytes 2 n ++ (0 ∷ []))))

unfoldable pub cdb_16 : ℕ → ℕ → ℕ → List ℕ
cdb_16 code a n = code ∷ 0 ∷ (bytes 8 a ++ (bytes 4 n ++ zeros 2))

-- lent two blocks and a bit
unfoldable pub read_10 : ℕ → ℕ → ℕ → Call
read_10 nexus a n = lent 1027 20 nexus (cdb_10 0x28 a n) []

unfoldable pub read_16 : ℕ → ℕ → ℕ → Call
read_16 nexus a n = lent 1027 20 nexus (cdb_16 0x88 a n) []

unfoldable pub write_10 : ℕ → ℕ → ℕ → List ℕ → Call
write_10 nexus a n out = call nexus (cdb_10 0x2A a n) out

unfoldable pub write_16 : ℕ → ℕ → ℕ → List ℕ → Call
write_16 nexus a n out = call nexus (cdb_16 0x8A a n) out

-- a parameter list of n bytes, as lent; and a descriptor of one
unfoldable pub unmap_list : ℕ → List ℕ → Call
unmap_list n list = call 0 (0x42 ∷ (zeros 6 ++ (bytes 2 n ++ (0 ∷ [])))) list

unfoldable pub descriptor : ℕ → ℕ → List ℕ
descriptor a n = bytes 8 a ++ (bytes 4 n ++ zeros 4)

-- one descriptor
unfoldable pub unmap_1 : ℕ → ℕ → ℕ → Call
unmap_1 nexus a n = call nexus (0x42 ∷ (zeros 6 ++ (bytes 2 24 ++ (0 ∷ [])))) (bytes 2 22 ++ (bytes 2 16 ++ (zeros 4 ++ descriptor a n)))

-- PERSISTENT RESERVE OUT: action, type, key, service action key
unfoldable pub out : ℕ → ℕ → ℕ → ℕ → ℕ → Call
out nexus action type key service =
    call nexus (0x5F ∷ action ∷ type ∷ 0 ∷ 0 ∷ (bytes 4 24 ++ (0 ∷ []))) (bytes 8 key ++ (bytes 8 service ++ zeros 8))

-- PERSISTENT RESERVE IN
unfoldable pub in_call : ℕ → ℕ → Call
in_call nexus action = call nexus (0x5E ∷ action ∷ (zeros 5 ++ (bytes 2 256 ++ (0 ∷ [])))) []
