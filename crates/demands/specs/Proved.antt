-- All that is proved of the store, in one record: what a reader who reads one file of theorems should read. proofs/Proved.antt has the one term that proves it.
-- It rests on the definitions that it names and those that these name, and on nothing else; `tools/definitions` lists them.
-- Assumes nothing.
use Rattle.std.specs.Prelude.{◌≡◌, List, ℕ, ◌*◌, T, length}
use Rattle.answers.specs.Sense.{format_ok}
use Rattle.pool.specs.Bounds.{block_bytes}
use Rattle.pool.specs.Valid.{capacity_ok, slots_ok}
use Rattle.store.specs.Fresh.{fresh_store}
use Rattle.store.specs.Room.{room_of}
use Rattle.store.specs.Step.{step}
use Rattle.demands.specs.History.{machine}
use Rattle.demands.specs.Contents.{plain}
use Rattle.demands.specs.Demands.{Demand1, Demand2, Storage, Demand3, Secrecy}
use Rattle.demands.specs.Reservations.{Reservations}
use Rattle.demands.specs.ConflictTable.{TableIsRule, CellsDecide}
use Rattle.demands.specs.ZeroKey.{ZeroKey, RulesAgree, Story, TakenOver}
use Rattle.demands.specs.Attentions.{Attentions, NoneLost, Learns}
use Rattle.demands.specs.Telling.{Telling}
use Rattle.demands.specs.WriteSame.{WritesSame}
use Rattle.demands.specs.MapTold.{OnePage, MapTold}
use Rattle.demands.specs.Limits.{Limits}
use Rattle.demands.specs.Pointed.{Pointed, PlacesTrue}
use Rattle.demands.specs.Sensed.{Sensed}
use Rattle.demands.specs.FreeRoom.{MarksDecide, KeepsMarks, RefusesMarks, TellsRoom, Relies, RoomEver, RoomAtC}
use Rattle.demands.specs.FromFresh.{FromFresh}
use Rattle.demands.specs.AtC.{Faithful, Demand1AtC, Demand3AtC}

pub record Proved : Type 0 where
  -- every call gets a listed answer, and a refusal changes nothing
  pub demand_1 : Demand1 step
  -- every answer and the whole state after it are what the rules say; and so it looks to those who write and read, who reserve, who take over, who ask,
  -- who clear logs, who ask for the map, who keep to the limits that they have read, who want to know which byte was wrong, who read sense, who are told
  -- what others did to their registration or reservation, and who ask for the free room before each batch
  pub demand_2 : Demand2 step
  pub storage : Storage
  pub reservations : Reservations step
  pub table_is_rule : TableIsRule
  pub cells_decide : CellsDecide step
  pub zero_key : ZeroKey step
  pub rules_agree : RulesAgree
  pub telling : Telling step
  pub writes_same_law : WritesSame step
  pub map_told : MapTold step
  pub one_page : OnePage
  pub limits : Limits step
  pub pointed : Pointed step
  pub places_true : PlacesTrue
  pub sensed : Sensed step
  pub attentions : Attentions step
  pub none_lost : NoneLost step
  pub marks_decide : MarksDecide
  pub keeps_marks : KeepsMarks step
  pub refuses_marks : RefusesMarks step
  pub tells_room_law : TellsRoom room_of
  pub relies : Relies step room_of
  -- step by step from a fresh store
  pub from_fresh : (capacity format slots : ℕ) (medium : List ℕ) → T (capacity_ok capacity) → T (format_ok format) → T (slots_ok slots)
      → length medium ≡ block_bytes * slots → FromFresh (fresh_store capacity format slots medium)
  pub taken_over : (capacity format slots : ℕ) (medium : List ℕ) → T (capacity_ok capacity) → T (format_ok format) → T (slots_ok slots)
      → length medium ≡ block_bytes * slots → (t : Story format) → TakenOver step (fresh_store capacity format slots medium) t
  pub learns : (capacity format slots : ℕ) (medium : List ℕ) → T (capacity_ok capacity) → T (format_ok format) → T (slots_ok slots)
      → length medium ≡ block_bytes * slots → (t : Story format) → Learns step (fresh_store capacity format slots medium) t
  pub room_ever : (capacity format slots : ℕ) (medium : List ℕ) → T (capacity_ok capacity) → T (format_ok format) → T (slots_ok slots)
      → length medium ≡ block_bytes * slots → RoomEver step room_of (fresh_store capacity format slots medium)
  -- nexuses shut out from reading learn nothing of blocks and maps
  pub demand_3 : Demand3 step
  pub secrecy : Secrecy (machine step) plain
  -- and all of it at the interface that is shipped
  pub faithful : Faithful
  pub demand_1_at_c : Demand1AtC
  pub demand_3_at_c : Demand3AtC
  pub room_at_c : RoomAtC
