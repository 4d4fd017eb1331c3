-- The store, a call, and what comes of it.
-- Assumes nothing.
use Rattle.std.specs.Prelude.{Bool, ◌&&◌, cond, List, ℕ, length}
use Rattle.fields.specs.Bytes.{put}
use Rattle.answers.specs.declared.Answer.{Answer}
use Rattle.answers.specs.Answers.{is_attention}
use Rattle.answers.specs.Sense.{format_ok, sense_after}
use Rattle.answers.specs.Order.{if_good}
use Rattle.pool.specs.Pool.{Pool}
use Rattle.pool.specs.Valid.{capacity_ok, pool_ok}
use Rattle.rights.specs.declared.Rights.{Rights}
use Rattle.rights.specs.declared.Action.{Action}
use Rattle.rights.specs.Rights.{rights_ok}
use Rattle.rights.specs.Attentions.{attentions_ok, waiting_for, returned_to}
use Rattle.rights.specs.Notices.{notified}
use Rattle.store.specs.declared.Unit.{Unit}

-- the format of its sense data, which is every unit's and which no call changes; what everybody may know of the unit; and the blocks
pub record Store : Type 0 where
  pub format : ℕ
  pub unit : Unit
  pub pool : Pool

-- who calls, with what, and the buffers lent for the answer
pub record Call : Type 0 where
  pub nexus : ℕ
  pub cdb : List ℕ
  pub data_out : List ℕ
  pub data_in : List ℕ
  pub sense : List ℕ

-- what the caller sees
pub record Seen : Type 0 where
  pub answer : Answer
  pub returned : ℕ
  pub data_in : List ℕ
  pub sense : List ℕ

pub record Result : Type 0 where
  pub seen : Seen
  pub store : Store

-- ---- changes by name: what is not named stays

abbrev pub with_rights : Unit → Rights → Unit
with_rights u rights = record { capacity = u.capacity; rights = rights; attentions = u.attentions }

abbrev pub with_attentions : Unit → List ℕ → Unit
with_attentions u attentions = record { capacity = u.capacity; rights = u.rights; attentions = attentions }

abbrev pub with_unit : Store → Unit → Store
with_unit s unit = record { format = s.format; unit = unit; pool = s.pool }

abbrev pub with_pool : Store → Pool → Store
with_pool s pool = record { format = s.format; unit = s.unit; pool = pool }

-- ---- when a store can be used

-- within its bounds and valid, as far as everybody may know
unfoldable pub unit_ok : Unit → Bool
unit_ok u = capacity_ok u.capacity && (rights_ok u.rights && attentions_ok u.attentions)

-- within its bounds, lent its whole pool, and in a valid state
unfoldable pub usable : Store → Bool
usable s = format_ok s.format && (unit_ok s.unit && pool_ok s.unit.capacity s.pool)

-- ---- attentions

-- what waits for a nexus
unfoldable pub waiting : Unit → ℕ → ℕ
waiting u n = waiting_for n u.attentions

-- the unit's record once that was returned
unfoldable pub relieved : Unit → ℕ → Unit
relieved u n = with_attentions u (returned_to n u.attentions)

-- the unit's record where an action of the nexus n leaves these rights: others are told what they must know of it
unfoldable pub enacted : Action → ℕ → Unit → Rights → Unit
enacted a n u after = with_attentions (with_rights u after) (notified a u.rights after n u.attentions)

-- ---- what an answer leaves

-- Q-6: "returns it, …, does nothing else, and clears it": what a refusal leaves of the unit's record
unfoldable pub refused_unit : Answer → ℕ → Unit → Unit
refused_unit a n u = cond (is_attention a) (relieved u n) u

-- "A refused command leaves the medium, the map, the reservations and the data buffer unchanged"
unfoldable pub leaves : Answer → Store → Store → Store
leaves a done s = if_good a done s

-- "Data-in is written only on 0, and only its first returned bytes."
unfoldable pub seen_of : ℕ → Answer → List ℕ → Call → Seen
seen_of format a bs c = record {
  answer = a;
  returned = if_good a (length bs) 0;
  data_in = if_good a (put c.data_in 0 bs) c.data_in;
  sense = sense_after format a c.sense;
}
