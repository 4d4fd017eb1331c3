-- What the contracts of the first tests speak of.
-- Assumes nothing.
use Rattle.std.specs.Prelude.{Bool, not, ◌&&◌, eqb, ltb, length}
use Rattle.answers.specs.Sense.{sense_bytes}
use Rattle.rights.specs.Bounds.{last_nexus}
use Rattle.store.specs.Store.{Store, Call, usable}

-- nothing refuses the call before its command is looked at
unfoldable pub ready_for : Store → Call → Bool
ready_for s c =
    not (ltb last_nexus c.nexus) && (not (eqb (length c.cdb) 0) && (not (ltb (length c.sense) (sense_bytes s.format)) && usable s))
