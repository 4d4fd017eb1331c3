-- The three demands, of any build; proofs/Demand1, Demand2 and Demand3 prove them of `step`.
-- Assumes nothing.
use Rattle.std.specs.Prelude.{◌≡◌, ◌≢◌, ◌⊎◌, not, cond, List, [], ◌∷◌, ℕ, ◌+◌, ◌*◌, ◌%◌, ◌^◌, Ok, T, length, drop, take}
use Rattle.fields.specs.Bytes.{zeros}
use Rattle.answers.specs.declared.Answer.TheVariants.{Good, Unusable}
use Rattle.answers.specs.Answers.{number_of}
use Rattle.answers.specs.Sense.{sense_written, sense_after}
use Rattle.rights.specs.Rights.{is_one_of}
use Rattle.pool.specs.Pool.{read_block}
use Rattle.pool.specs.Valid.{checked}
use Rattle.forms.specs.declared.Move.{Move}
use Rattle.forms.specs.declared.Move.TheVariants.{Read, Write, Unmap}
use Rattle.forms.specs.Forms.{count_in}
use Rattle.store.specs.declared.Unit.{Unit}
use Rattle.store.specs.Store.{Store, Call, with_unit, usable, relieved, seen_of}
use Rattle.store.specs.Fresh.{fresh_store}
use Rattle.store.specs.Step.{step}
use Rattle.demands.specs.History.{Event, call, Machine, Build, after, machine, is_out, is_shut_out, is_somebody, is_waited_for, seen_all, watched_on, heard_on, replay, watched, heard}
use Rattle.demands.specs.Checker.{all_passed}
use Rattle.demands.specs.Contents.{Asks, IsGood, SameRange, Apart, descriptors_of, names, Same, is_transfer, SaysSame, SameButPlace}
use Rattle.demands.specs.Cases.{cases}
use Rattle.demands.specs.Generation.{generation, raising}

-- Demand 1. Every call gets a listed answer; "A refused command leaves the medium, the map, the reservations and the data buffer unchanged".
pub record Demand1 (f : Build) : Type 0 where
  -- "Number 9 is not used"
  pub listed : (s : Store) (c : Call) → T (is_one_of (number_of (f s c).seen.answer) (0 ∷ 1 ∷ 2 ∷ 3 ∷ 4 ∷ 5 ∷ 6 ∷ 7 ∷ 8 ∷ 10 ∷ 11 ∷ 12 ∷ 13 ∷ []))
  -- a valid store, within its bounds and lent its whole pool, stays one
  pub keeps : (s : Store) (c : Call) → T (usable s) → T (usable (after f s c))
  -- a refusal changes nothing stored, no byte of data-in, and returns none; Q-6: "Demand 1 excepts that clearing": 13 takes away what waited for its
  -- caller, and nothing else
  pub refusal_store : (s : Store) (c : Call) → (f s c).seen.answer ≢ Good → number_of (f s c).seen.answer ≢ 13 → after f s c ≡ s
  pub attention_store : (s : Store) (c : Call) → number_of (f s c).seen.answer ≡ 13 → after f s c ≡ with_unit s (relieved s.unit c.nexus)
  pub refusal_data : (s : Store) (c : Call) → (f s c).seen.answer ≢ Good → (f s c).seen.data_in ≡ c.data_in
  pub refusal_none : (s : Store) (c : Call) → (f s c).seen.answer ≢ Good → (f s c).seen.returned ≡ 0
  -- sense changes by the table of answers alone, and only the bytes that the store's format writes
  pub sense_table : (s : Store) (c : Call) → (f s c).seen.sense ≡ sense_after s.format (f s c).seen.answer c.sense
  pub sense_past_law : (s : Store) (c : Call) → let n = sense_written s.format (f s c).seen.answer in drop n (f s c).seen.sense ≡ drop n c.sense
  -- "Data-in is written only on 0, and only its first returned bytes."
  pub data_past_law : (s : Store) (c : Call) → drop (f s c).seen.returned (f s c).seen.data_in ≡ drop (f s c).seen.returned c.data_in
  -- what is lent keeps its length
  pub data_length : (s : Store) (c : Call) → length (f s c).seen.data_in ≡ length c.data_in
  pub sense_length : (s : Store) (c : Call) → length (f s c).seen.sense ≡ length c.sense
  pub owners_length : (s : Store) (c : Call) → length (after f s c).pool.owners ≡ length s.pool.owners
  pub marks_length : (s : Store) (c : Call) → length (after f s c).pool.marks ≡ length s.pool.marks
  pub medium_length : (s : Store) (c : Call) → length (after f s c).pool.medium ≡ length s.pool.medium

-- Demand 2. "Every answer and the whole state after it are what SPC and SBC define, as document 01 condenses them" and the
-- requests that have landed correct it: its meaning is `step`.
pub record Demand2 (f : Build) : Type 0 where
  pub exact : (s : Store) (c : Call) → f s c ≡ step s c
  -- "A to L are proved of the definitions by one statement over their list"
  pub bench : T (all_passed f cases)
  -- "Generation rises by 1 at each GOOD of actions 0, 3, 4, 6, save …; after FFFF_FFFFh the generation is 0", and at nothing else
  pub generation_rises : (s : Store) (c : Call) → (f s c).seen.answer ≡ Good → T (raising s c)
      → generation (after f s c) ≡ (generation s + 1) % 2 ^ 32
  pub generation_stays : (s : Store) (c : Call) → T (not (raising s c)) → generation (after f s c) ≡ generation s
  pub generation_refused : (s : Store) (c : Call) → (f s c).seen.answer ≢ Good → generation (after f s c) ≡ generation s

-- Demand 2 as those put it who write and read: what the meaning, `step`, says of blocks.
pub record Storage : Type 0 where
  -- a READ after a WRITE of the same blocks, each in whichever form and by whomever, returns the data written
  pub write_then_read : (s : Store) (w r : Call) (a : Asks Write w) (b : Asks Read r) → SameRange a.request b.request
      → IsGood s w → IsGood (after step s w) r
      → take (512 * count_in a.request) (step (after step s w) r).seen.data_in ≡ take (512 * count_in a.request) w.data_out
  -- a READ of other blocks sees nothing of a WRITE, unless that only told what waited
  pub write_keeps_others : (s : Store) (w r : Call) (a : Asks Write w) (b : Asks Read r) → Apart a.request b.request
      → number_of (step s w).seen.answer ≢ 13 → (step (after step s w) r).seen ≡ (step s r).seen
  -- after an UNMAP the blocks that a considered descriptor names read as zeros, and all others as before
  pub unmap_contents : (s : Store) (c : Call) (a : Asks Unmap c) → IsGood s c → (b : ℕ)
      → read_block (after step s c).pool b ≡ cond (names (descriptors_of a.request c.data_out) b) (zeros 512) (read_block s.pool b)
  -- a fresh store reads as zeros, whatever lies in its medium
  pub fresh_reads_zeros : (capacity format slots : ℕ) (medium : List ℕ) (r : Call) (a : Asks Read r) → IsGood (fresh_store capacity format slots medium) r
      → (step (fresh_store capacity format slots medium) r).seen ≡ seen_of format Good (zeros (512 * count_in a.request)) r
  -- slots do not matter: stores that agree on the format, on the unit's record, on contents and on free slots answer alike for ever
  pub slots_hidden : (s t : Store) → T (usable s) → T (usable t) → Same s t → (es : List Event) → seen_all (machine step) s es ≡ seen_all (machine step) t es
  -- "The shared fact for 10 and 16 byte forms is proved once over field width."
  pub forms_agree : (m : Move) → T (is_transfer m) → (s : Store) (c d : Call) (a : Asks m c) (b : Asks m d) → SaysSame a b
      → SameButPlace (step s c) (step s d)
  -- "no two slots name one block": a map with a slot beyond the capacity or a clash is refused, and every usable store's passes its check
  pub clash_refused : (s : Store) (c : Call) → checked s.unit.capacity s.pool.owners ≢ Ok tt → (step s c).seen.answer ≡ Unusable
  pub usable_checked : (s : Store) → T (usable s) → checked s.unit.capacity s.pool.owners ≡ Ok tt

-- Demand 3. What a nexus learns that is shut out from reading.
pub record Demand3 (f : Build) : Type 0 where
  -- "Take two valid stores, within their bounds and lent their whole pool at every call, of equal capacity and equal registrations (place by
  -- place), reservation and generation; their blocks and maps may differ. Run a history on each, with the same reservation-out calls and the same
  -- calls by nexuses then shut out from reading, in the same order and with the same lent data and sense buffers. All other calls may differ.
  -- Then each shut-out call gives the same answer, sense and buffer in both." Q-8: "Demand 3's two stores share the format." Q-6: "demand 3 counts
  -- attentions as equal at the start and asks that calls by a nexus with one waiting agree too": attentions are part of the unit's record. Q-7's marks
  -- are part of the pool, and may differ as the maps do
  pub secret : (s t : Store) (cs ds : List Call) → T (usable s) → T (usable t) → s.format ≡ t.format → s.unit ≡ t.unit
      → watched f s cs ≡ watched f t ds → heard f s cs ≡ heard f t ds
  -- "Apart from reservation-out calls, a shut-out call changes no stored thing"
  pub still : (s : Store) (c : Call) → T (not (is_out c)) → T (is_shut_out s c) → T (not (is_waited_for s.unit c)) → after f s c ≡ s
  -- Q-6: "such a call may change only its own": what a call by a nexus with one waiting leaves is the store but for that, a reservation-out call or not
  pub own_alone : (s : Store) (c : Call) → T (is_waited_for s.unit c) → (after f s c ≡ s) ⊎ (after f s c ≡ with_unit s (relieved s.unit c.nexus))
  -- "and a reservation-out call never changes a block or a mapping."
  pub out_pool : (s : Store) (c : Call) → T (is_out c) → (after f s c).pool ≡ s.pool

-- The first sentences of demand 3, of any machine and of all that can happen to it; `plain` makes a state of what everybody may know alone.
pub record Secrecy (m : Machine) (plain : ℕ → Unit → m.State) : Type 0 where
  -- what is heard is a function of what everybody may know and of the calls that are watched: each is answered as if nothing were stored
  pub heard_is : (s : m.State) (es : List Event) → T (m.usable s) → heard_on m s es ≡ replay m plain (m.format s) (m.unit s) (watched_on m s es)
  -- so two histories that differ in anything else are heard alike
  pub secret : (s t : m.State) (es ds : List Event) → T (m.usable s) → T (m.usable t) → m.format s ≡ m.format t → m.unit s ≡ m.unit t
      → watched_on m s es ≡ watched_on m t ds → heard_on m s es ≡ heard_on m t ds
  -- a nexus above 15 is nobody: what it sees is a function of its call alone, and it changes nothing
  pub nobody_learns : (s t : m.State) (c : Call) → T (not (is_somebody c)) → m.seen s c ≡ m.seen t c
  pub nobody_changes : (s : m.State) (c : Call) → T (not (is_somebody c)) → m.next s (call c) ≡ s
