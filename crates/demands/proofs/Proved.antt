-- All that is proved of the store, by one term.
-- Assumes nothing.
use Rattle.runs.proofs.Only.{tells_only}
use Rattle.store.proofs.ConflictLaws.{table_rule}
use Rattle.demands.specs.Proved.{Proved}
use Rattle.demands.proofs.Demand1.{demand_1}
use Rattle.demands.proofs.Demand2.{demand_2}
use Rattle.demands.proofs.Storage.{storage}
use Rattle.demands.proofs.Reservations.{reservations}
use Rattle.demands.proofs.Conflicts.{cells_decide}
use Rattle.demands.proofs.ZeroKey.{zero_key, rules_agree}
use Rattle.demands.proofs.Attentions.{attentions, none_lost}
use Rattle.demands.proofs.TakenOver.{fresh_taken_over, fresh_learns}
use Rattle.demands.proofs.Telling.{telling}
use Rattle.demands.proofs.WriteSame.{writes_same_law}
use Rattle.demands.proofs.MapTold.{map_told}
use Rattle.demands.proofs.Limits.{limits}
use Rattle.demands.proofs.Pointed.{pointed}
use Rattle.demands.proofs.Places.{places_true}
use Rattle.demands.proofs.Sensed.{sensed}
use Rattle.demands.proofs.FreeRoom.{marks_decide, keeps_marks, refuses_marks, tells_room_law, relies, fresh_room, room_at_c}
use Rattle.demands.proofs.FromFresh.{from_fresh}
use Rattle.demands.proofs.Demand3.{demand_3, secrecy}
use Rattle.demands.proofs.AtC.{faithful, demand_1_at_c, demand_3_at_c}

pub proved : Proved
proved = record {
  demand_1 = demand_1;
  demand_2 = demand_2;
  storage = storage;
  reservations = reservations;
  table_is_rule = table_rule;
  cells_decide = cells_decide;
  zero_key = zero_key;
  rules_agree = rules_agree;
  telling = telling;
  writes_same_law = writes_same_law;
  map_told = map_told;
  one_page = tells_only;
  limits = limits;
  pointed = pointed;
  places_true = places_true;
  sensed = sensed;
  attentions = attentions;
  none_lost = none_lost;
  marks_decide = marks_decide;
  keeps_marks = keeps_marks;
  refuses_marks = refuses_marks;
  tells_room_law = tells_room_law;
  relies = relies;
  from_fresh = from_fresh;
  taken_over = fresh_taken_over;
  learns = fresh_learns;
  room_ever = fresh_room;
  demand_3 = demand_3;
  secrecy = secrecy;
  faithful = faithful;
  demand_1_at_c = demand_1_at_c;
  demand_3_at_c = demand_3_at_c;
  room_at_c = room_at_c;
}
