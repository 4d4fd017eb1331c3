-- Builds that are wrong in one thing each: the laws of reservations refuse three of them, those of telling the fourth, those of WRITE SAME the
-- fifth, and demand 3 the last.
-- Assumes nothing.
use Rattle.std.specs.Prelude.{not, ◌&&◌, cond, List, [], ◌∷◌, ◌++◌, ℕ, ◌-◌, eqb}
use Rattle.fields.specs.Bytes.{put, zeros}
use Rattle.fields.specs.Field.{byte, field, bytes}
use Rattle.answers.specs.declared.Answer.TheVariants.{Conflict}
use Rattle.answers.specs.Sense.{fixed}
use Rattle.pool.specs.Marks.{marks_of}
use Rattle.pool.specs.Pool.{pool}
use Rattle.rights.specs.Places.{unused, registration}
use Rattle.rights.specs.Rights.{is_one_of, holds, with_places, ended}
use Rattle.rights.specs.Attentions.{no_attentions}
use Rattle.forms.specs.Forms.{action}
use Rattle.store.specs.Store.{Store, Call, Seen, usable, with_rights, with_unit, with_pool, seen_of}
use Rattle.store.specs.Step.{step}
use Rattle.demands.specs.History.{Build}
use Rattle.demands.specs.Contents.{cdb10, call_with}

-- ---- the builds

-- CLEAR keeps the registrations
unfoldable pub keeping_at_clear : Build
keeping_at_clear s c =
    cond (eqb (byte 0 c.cdb) 0x5F && eqb (action c.cdb) 3)
    (record {
      seen = (step s c).seen;
      store = with_unit s (with_rights s.unit (with_places (step s c).store.unit.rights s.unit.rights.places));
    })
    (step s c)

-- READ(10) by others conflicts under 1 and 7 too
unfoldable pub harsh : Build
harsh s c =
    cond (eqb (byte 0 c.cdb) 0x28 && is_one_of s.unit.rights.kind (1 ∷ 7 ∷ []) && not (holds s.unit.rights c.nexus) && usable s)
    (record { seen = seen_of s.format Conflict [] c; store = s })
    (step s c)

-- the store with no reservation
unfoldable pub unreserved : Store → Store
unreserved s = with_unit s (with_rights s.unit (ended s.unit.rights))

-- WRITE(10) passes under 1, 3, 6, 7, 8: only 5 stops it
unfoldable pub lax : Build
lax s c =
    cond (eqb (byte 0 c.cdb) 0x2A && is_one_of s.unit.rights.kind (1 ∷ 3 ∷ 6 ∷ 7 ∷ 8 ∷ []))
    (record { seen = (step (unreserved s) c).seen; store = with_pool s (step (unreserved s) c).store.pool })
    (step s c)

-- what is seen with these bytes laid over the data from byte i on
unfoldable pub laid : ℕ → List ℕ → Seen → Seen
laid i bs x = record { answer = x.answer; returned = x.returned; data_in = put x.data_in i bs; sense = x.sense }

-- READ CAPACITY(16) has 0 in byte 14: no thin provisioning, and no zeros
unfoldable pub bare : Build
bare s c =
    cond (eqb (byte 0 c.cdb) 0x9E && eqb (step s c).seen.returned 32)
    (record { seen = laid 14 (0 ∷ []) (step s c).seen; store = s })
    (step s c)

-- WRITE SAME leaves its last block out, and says GOOD
unfoldable pub last_missed : Build
last_missed s c =
    cond (eqb (byte 0 c.cdb) 0x93)
    (record {
      seen = (step s c).seen;
      store = (step s (call_with (put c.cdb 10 (bytes 4 (field 10 4 c.cdb - 1))) c.nexus c.data_out c.data_in c.sense)).store;
    })
    (step s c)

-- GET LBA STATUS asks no reservation: it tells the map to those who may not read
unfoldable pub open_status : Build
open_status s c =
    cond (eqb (byte 0 c.cdb) 0x9E && eqb (action c.cdb) 0x12) (record { seen = (step (unreserved s) c).seen; store = s }) (step s c)

-- ---- a store and the calls that show it

-- capacity 8, one free slot; type 1, held by nexus 1 with the key 11h; nexus 2 is registered with the key 22h
unfoldable pub shown : Store
shown = record {
  format = fixed;
  unit = record {
    capacity = 8;
    rights = record {
      places = registration 1 0x11 ∷ registration 2 0x22 ∷ unused ∷ unused ∷ unused ∷ unused ∷ unused ∷ unused ∷ [];
      holder = 1;
      generation = 0;
      kind = 1;
    };
    attentions = no_attentions;
  };
  pool = pool (0 ∷ []) (marks_of (0 ∷ [])) (zeros 512);
}

unfoldable pub showing : List ℕ → ℕ → List ℕ → Call
showing cdb nexus out = call_with cdb nexus out (zeros 512) (zeros 18)

-- CLEAR by the holder
unfoldable pub clears : Call
clears = showing (0x5F ∷ 3 ∷ 0 ∷ 0 ∷ 0 ∷ 0 ∷ 0 ∷ 0 ∷ 24 ∷ 0 ∷ []) 1 (bytes 8 0x11 ++ zeros 16)

-- READ(10) of block 0 by the registered nexus
unfoldable pub reads : Call
reads = showing (cdb10 0x28 0 1) 2 []

-- WRITE(10) of block 0 by a nexus that is not registered
unfoldable pub writes : Call
writes = showing (cdb10 0x2A 0 1) 3 (zeros 512)

-- READ CAPACITY(16) of 32 bytes
unfoldable pub asks_capacity : Call
asks_capacity = showing (0x9E ∷ 0x10 ∷ (zeros 11 ++ (32 ∷ 0 ∷ 0 ∷ []))) 3 []

-- WRITE SAME of blocks 0 and 1 with NDOB and UNMAP by the holder
unfoldable pub writes_same : Call
writes_same = showing (0x93 ∷ 0x09 ∷ (zeros 11 ++ (2 ∷ 0 ∷ 0 ∷ []))) 1 []

-- block 1 is mapped there
unfoldable pub logged : Store
logged = with_pool shown (pool (2 ∷ []) (marks_of (2 ∷ [])) (zeros 511 ++ (0xB0 ∷ [])))

-- capacity 8 and one slot with this owner; type 3, held by nexus 1
unfoldable pub guarded : ℕ → Store
guarded owner = record {
  format = fixed;
  unit = record {
    capacity = 8;
    rights = record {
      places = registration 1 0x11 ∷ unused ∷ unused ∷ unused ∷ unused ∷ unused ∷ unused ∷ unused ∷ [];
      holder = 1;
      generation = 0;
      kind = 3;
    };
    attentions = no_attentions;
  };
  pool = pool (owner ∷ []) (marks_of (owner ∷ [])) (zeros 512);
}

-- GET LBA STATUS of everything by a nexus that is shut out
unfoldable pub asks_status : Call
asks_status = showing (0x9E ∷ 0x12 ∷ (zeros 10 ++ (2 ∷ 0 ∷ 0 ∷ 0 ∷ []))) 3 []
