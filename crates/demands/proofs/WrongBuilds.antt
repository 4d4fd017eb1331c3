-- Builds that are wrong in one thing each fail the laws, by computation: a store and a call on which a law is false of them.
-- Assumes nothing.
use mathlib.Core.Path.{◌≡◌, refl, sym, ap, ◌∙◌}
use mathlib.Core.Bool.{false≢true, cond}
use mathlib.Core.List.{List, [], ◌∷◌}
use Prim.Native.Nat.{ℕ}
use native.Mathlib.Omega.{arith}
use lib.Dec.{T}
use lib.ListN.{take}
use Rattle.fields.specs.Field.{byte}
use Rattle.answers.specs.declared.Answer.TheVariants.{Good, Conflict}
use Rattle.answers.specs.Order.{refuses}
use Rattle.pool.specs.Pool.{read_block}
use Rattle.rights.specs.declared.Action.TheVariants.{Clear}
use Rattle.forms.specs.declared.Tell.TheVariants.{Capacity16}
use Rattle.forms.specs.declared.Move.TheVariants.{Read, Write, WriteSame}
use Rattle.forms.specs.declared.Command.TheVariants.{Tells, Alters}
use Rattle.forms.specs.Forms.{allocation_in}
use Rattle.store.specs.Store.{Seen, usable, seen_of}
use Rattle.store.specs.Tell.{capacity16_data}
use Rattle.demands.specs.History.{after, watched, heard}
use Rattle.demands.specs.Demands.{Demand3}
use Rattle.demands.specs.Contents.{AsksFor, Asks, by_itself, in_range, transfer_cdb, cdb10, Quiet}
use Rattle.demands.specs.Reservations.{GoodBy, is_registered, type_in, sender_of, same_sender, conflict_table, column, says, stopped, Reservations}
use Rattle.demands.specs.Telling.{Telling}
use Rattle.demands.specs.WriteSame.{is_ndob, sent, covers, WritesSame}
use Rattle.demands.specs.WrongBuilds.{keeping_at_clear, harsh, unreserved, lax, laid, bare, last_missed, open_status, shown, showing, clears, reads, writes, asks_capacity, writes_same, logged, guarded, asks_status}
use Rattle.demands.proofs.Computing.{meaning}

-- ---- CLEAR keeps the registrations

clear_asked : AsksFor (Alters Clear) clears
unfolding meaning showing clears
clear_asked = record { request = _; is = refl; command = refl }

clear_good : GoodBy keeping_at_clear shown clears
unfolding meaning keeping_at_clear shown showing clears
clear_good = refl

pub keeping_fails : Reservations keeping_at_clear → ⊥
unfolding meaning keeping_at_clear shown showing clears is_registered
keeping_fails r = r.clear_registrations shown clears clear_asked clear_good 1

-- ---- READ(10) by others conflicts under 1

read_asked : Asks Read reads
unfolding meaning transfer_cdb cdb10 showing reads
read_asked = record { request = _; is = refl; command = refl }

shown_usable : T (usable shown)
unfolding meaning shown
shown_usable = tt

read_right : by_itself shown.format reads ≡ Good
unfolding meaning shown by_itself transfer_cdb cdb10 showing reads
read_right = refl

harsh_stops : (harsh shown reads).seen.answer ≡ Conflict
unfolding meaning shown transfer_cdb cdb10 showing reads harsh
harsh_stops = refl

pub harsh_fails : Reservations harsh → ⊥
unfolding meaning shown transfer_cdb cdb10 showing reads stopped type_in sender_of conflict_table says column same_sender
harsh_fails r = (r.conflict_table_law Read shown reads read_asked shown_usable read_right tt).0 harsh_stops

-- ---- WRITE(10) by an outsider passes under 1

write_asked : Asks Write writes
unfolding meaning transfer_cdb cdb10 showing writes
write_asked = record { request = _; is = refl; command = refl }

write_right : by_itself shown.format writes ≡ Good
unfolding meaning shown by_itself transfer_cdb cdb10 showing writes
write_right = refl

lax_passes : (lax shown writes).seen.answer ≡ Good
unfolding meaning shown transfer_cdb cdb10 showing writes lax unreserved
lax_passes = refl

table_stops : T (stopped shown writes Write)
unfolding meaning shown transfer_cdb cdb10 showing writes stopped type_in sender_of conflict_table says column same_sender
table_stops = tt

write_quiet : Quiet shown writes
unfolding meaning shown transfer_cdb cdb10 showing writes
write_quiet = tt

pub lax_fails : Reservations lax → ⊥
unfolding refuses
lax_fails r = false≢true (ap refuses (sym lax_passes ∙ (r.conflict_table_law Write shown writes write_asked shown_usable write_right write_quiet).1 table_stops))

-- ---- byte 14 of READ CAPACITY(16) is 0

unfoldable bare_asked : AsksFor (Tells Capacity16) asks_capacity
unfolding meaning showing asks_capacity
bare_asked = record { request = _; is = refl; command = refl }

bare_good : GoodBy bare shown asks_capacity
unfolding meaning shown showing asks_capacity bare laid
bare_good = refl

bare_tells : byte 14 (bare shown asks_capacity).seen.data_in ≡ 0
unfolding meaning shown showing asks_capacity bare laid
bare_tells = refl

law_tells : byte 14 (seen_of shown.format Good (take (allocation_in bare_asked.request) (capacity16_data shown.unit.capacity)) asks_capacity).data_in ≡ 0xC0
unfolding meaning shown showing asks_capacity bare_asked
law_tells = refl

pub bare_fails : Telling bare → ⊥
bare_fails r =
    other _ bare_tells (ap (λ (x : Seen). byte 14 x.data_in) (r.capacity_16 shown asks_capacity bare_asked bare_good) ∙ law_tells)
  where
    other : (n : ℕ) → n ≡ 0 → n ≡ 0xC0 → ⊥
    other n e d = omega arith

-- ---- WRITE SAME leaves its last block out

unfoldable same_asked : Asks WriteSame writes_same
unfolding meaning showing writes_same
same_asked = record { request = _; is = refl; command = refl }

same_good : GoodBy last_missed logged writes_same
unfolding meaning shown logged showing writes_same last_missed
same_good = refl

last_kept : byte 511 (read_block (after last_missed logged writes_same).pool 1) ≡ 0xB0
unfolding meaning shown logged showing writes_same last_missed
last_kept = refl

last_cleared : byte 511 (cond (covers same_asked.request 1) (sent same_asked.request writes_same) (read_block logged.pool 1)) ≡ 0
unfolding meaning shown logged showing writes_same same_asked covers in_range sent is_ndob
last_cleared = refl

pub last_missed_fails : WritesSame last_missed → ⊥
last_missed_fails r = other _ last_kept (ap (byte 511) (r.reads logged writes_same same_asked same_good 1) ∙ last_cleared)
  where
    other : (n : ℕ) → n ≡ 0xB0 → n ≡ 0 → ⊥
    other n e d = omega arith

-- ---- GET LBA STATUS asks no reservation

unfoldable heard_length : List Seen → ℕ
heard_length [] = 0
heard_length (x ∷ xs) = x.returned

first_usable : T (usable (guarded 1))
unfolding meaning guarded
first_usable = tt

second_usable : T (usable (guarded 2))
unfolding meaning guarded
second_usable = tt

status_watched : watched open_status (guarded 1) (asks_status ∷ []) ≡ watched open_status (guarded 2) (asks_status ∷ [])
unfolding meaning guarded showing asks_status open_status unreserved
status_watched = refl

-- a mapped block and the rest: two runs; block 1 between others: three
two_runs : heard_length (heard open_status (guarded 1) (asks_status ∷ [])) ≡ 40
unfolding meaning guarded showing asks_status open_status unreserved heard_length
two_runs = refl

three_runs : heard_length (heard open_status (guarded 2) (asks_status ∷ [])) ≡ 56
unfolding meaning guarded showing asks_status open_status unreserved heard_length
three_runs = refl

pub open_status_fails : Demand3 open_status → ⊥
unfolding guarded
open_status_fails d =
    other _ two_runs
    (ap heard_length (d.secret (guarded 1) (guarded 2) (asks_status ∷ []) (asks_status ∷ []) first_usable second_usable refl refl status_watched) ∙ three_runs)
  where
    other : (n : ℕ) → n ≡ 40 → n ≡ 56 → ⊥
    other n e d = omega arith
