-- The demands at the C interface, of a program that calls `ridge_execute` again and again: each time with the record, the owners, the marks and the
-- medium as the last call left them. `executed` and `freshened` are what `ridge_execute` and `ridge_fresh` promise; proofs/AtC
-- proves the records. `ridge_room` is in FreeRoom.antt.
-- Assumes nothing.
use Rattle.std.specs.Prelude.{◌≡◌, ◌≢◌, ◌⊎◌, not, List, [], ◌∷◌, map, ℕ, T, length, drop}
use Rattle.answers.specs.Answers.{number_of}
use Rattle.answers.specs.Sense.{format_ok}
use Rattle.pool.specs.Bounds.{mark_words}
use Rattle.pool.specs.Valid.{capacity_ok, slots_ok}
use Rattle.rights.specs.Rights.{is_one_of}
use Rattle.store.specs.declared.Unit.{Unit}
use Rattle.store.specs.Store.{Store, Call, Seen, with_unit, usable, relieved}
use Rattle.store.specs.Fresh.{fresh_store}
use Rattle.store.specs.Step.{step}
use Rattle.ridge.specs.Interface.{Left, executed, FreshLeft, freshened}
use Rattle.demands.specs.History.{Event, call, Machine, machine, is_out, is_shut_out, is_waited_for, after_all, seen_all}
use Rattle.demands.specs.Contents.{plain}
use Rattle.demands.specs.SenseRead.{sense_long}
use Rattle.demands.specs.Demands.{Secrecy}

-- ---- the machine that a C program has

-- what the caller sees: 01's answer number, the returned length, and the lent buffers
pub record Told : Type 0 where
  pub answer : ℕ
  pub returned : ℕ
  pub data_in : List ℕ
  pub sense : List ℕ

unfoldable pub told_by : Left → Told
told_by x = record { answer = x.answer; returned = x.returned; data_in = x.data_in; sense = x.sense }

-- the store that a call leaves, of the format that it was lent with: the next one is made on it
unfoldable pub store_in : ℕ → Left → Store
store_in format x = record { format = format; unit = x.unit; pool = record { owners = x.owners; marks = x.marks; medium = x.medium } }

unfoldable pub onward : Store → Event → Store
onward s (call c) = store_in s.format (executed s c)

-- a C program: its states are what it lends
abbrev pub program : Machine
program = record {
  State = Store;
  format = λ s. s.format;
  unit = λ s. s.unit;
  usable = usable;
  Sight = Told;
  seen = λ s c. told_by (executed s c);
  next = onward;
}

-- the store that `ridge_fresh` begins, with the format that it was given and the medium that is lent from then on
unfoldable pub begun : ℕ → FreshLeft → List ℕ → Store
begun format x medium = record { format = format; unit = x.unit; pool = record { owners = x.owners; marks = x.marks; medium = medium } }

-- what is seen of a step, with 01's number for the answer
unfoldable pub told_of : Seen → Told
told_of x = record { answer = number_of x.answer; returned = x.returned; data_in = x.data_in; sense = x.sense }

-- ---- one call of C is one step

pub record Faithful : Type 0 where
  -- what a call leaves is the store after the step, and what is told is what is seen of it
  pub store : (s : Store) (c : Call) → store_in s.format (executed s c) ≡ (step s c).store
  pub told : (s : Store) (c : Call) → told_by (executed s c) ≡ told_of (step s c).seen
  -- and so it is over any history
  pub stores : (s : Store) (es : List Event) → after_all program s es ≡ after_all (machine step) s es
  pub sights : (s : Store) (es : List Event) → seen_all program s es ≡ map told_of (seen_all (machine step) s es)
  -- a history may begin with `ridge_fresh`: within the bounds it answers 0, and what it leaves is a fresh store, whatever lay in the record and
  -- in the two words of marks before
  pub fresh_answer_law : (capacity format : ℕ) (u : Unit) (owners marks : List ℕ) → T (capacity_ok capacity) → T (format_ok format) → T (slots_ok (length owners))
      → length marks ≡ mark_words → (freshened capacity format u owners marks).answer ≡ 0
  pub fresh_store_law : (capacity format : ℕ) (u : Unit) (owners marks medium : List ℕ) → T (capacity_ok capacity) → T (format_ok format) → T (slots_ok (length owners))
      → length marks ≡ mark_words → begun format (freshened capacity format u owners marks) medium ≡ fresh_store capacity format (length owners) medium
  -- a format that is none gives 11, whatever else is given, and leaves the record, the owners and the marks
  pub fresh_refused : (capacity format : ℕ) (u : Unit) (owners marks : List ℕ) → T (not (format_ok format))
      → ((freshened capacity format u owners marks).answer ≡ 11) × ((freshened capacity format u owners marks).unit ≡ u)
      × ((freshened capacity format u owners marks).owners ≡ owners) × ((freshened capacity format u owners marks).marks ≡ marks)

-- ---- demand 1

-- all that a refusal must leave is left, with this record, and nothing returns
pub record Kept (u : Unit) (s : Store) (c : Call) (x : Left) : Type 0 where
  pub unit : x.unit ≡ u
  pub owners : x.owners ≡ s.pool.owners
  pub marks : x.marks ≡ s.pool.marks
  pub medium : x.medium ≡ s.pool.medium
  pub data_in : x.data_in ≡ c.data_in
  pub returned : x.returned ≡ 0

pub record Demand1AtC : Type 0 where
  -- "Number 9 is not used"
  pub listed : (s : Store) (c : Call) → T (is_one_of (executed s c).answer (0 ∷ 1 ∷ 2 ∷ 3 ∷ 4 ∷ 5 ∷ 6 ∷ 7 ∷ 8 ∷ 10 ∷ 11 ∷ 12 ∷ 13 ∷ []))
  -- an answer other than 0 leaves the record, the owners, the marks, the medium and data-in as they were, but that 13 takes away what waited for the caller
  pub refusal_keeps : (s : Store) (c : Call) → (executed s c).answer ≢ 0 → (executed s c).answer ≢ 13 → Kept s.unit s c (executed s c)
  pub attention_keeps : (s : Store) (c : Call) → (executed s c).answer ≡ 13 → Kept (relieved s.unit c.nexus) s c (executed s c)
  -- a store that can be used can be used for ever
  pub usable_ever : (s : Store) (es : List Event) → T (usable s) → T (usable (after_all program s es))
  -- "Otherwise sense is untouched", as it is always past what the format writes, which in both formats byte 7 tells
  pub sense_kept : (s : Store) (c : Call) → T (is_one_of (executed s c).answer (0 ∷ 10 ∷ 11 ∷ 12 ∷ [])) → (executed s c).sense ≡ c.sense
  pub sense_past_law : (s : Store) (c : Call) → T (is_one_of (executed s c).answer (1 ∷ 2 ∷ 3 ∷ 4 ∷ 5 ∷ 6 ∷ 7 ∷ 8 ∷ 13 ∷ []))
      → drop (sense_long (executed s c).sense) (executed s c).sense ≡ drop (sense_long (executed s c).sense) c.sense
  -- "Data-in is written only on 0, and only its first returned bytes."
  pub data_past_law : (s : Store) (c : Call) → drop (executed s c).returned (executed s c).data_in ≡ drop (executed s c).returned c.data_in
  -- what is lent keeps its length
  pub data_length : (s : Store) (c : Call) → length (executed s c).data_in ≡ length c.data_in
  pub sense_length : (s : Store) (c : Call) → length (executed s c).sense ≡ length c.sense
  pub owners_length : (s : Store) (c : Call) → length (executed s c).owners ≡ length s.pool.owners
  pub marks_length : (s : Store) (c : Call) → length (executed s c).marks ≡ length s.pool.marks
  pub medium_length : (s : Store) (c : Call) → length (executed s c).medium ≡ length s.pool.medium

-- ---- demand 3

pub record Demand3AtC : Type 0 where
  -- over any two histories of C calls: what is told to those who are shut out is a function of the record and of the calls that are watched
  pub secrecy : Secrecy program plain
  -- a call by one who is shut out changes nothing that is stored, unless it is a reservation-out call or something waits for the caller
  pub still : (s : Store) (c : Call) → T (not (is_out c)) → T (is_shut_out s c) → T (not (is_waited_for s.unit c)) → store_in s.format (executed s c) ≡ s
  -- and then it changes that alone
  pub own_alone : (s : Store) (c : Call) → T (is_waited_for s.unit c)
      → (store_in s.format (executed s c) ≡ s) ⊎ (store_in s.format (executed s c) ≡ with_unit s (relieved s.unit c.nexus))
  -- which changes no block and no mapping
  pub out_pool : (s : Store) (c : Call) → T (is_out c) → (store_in s.format (executed s c)).pool ≡ s.pool
