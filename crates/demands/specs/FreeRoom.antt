-- The free room as the gateway puts it, which asks for it before each batch, and the marks that it is read off: of any build and of any function that
-- tells the room, so that wrong ones can be put in; proofs/FreeRoom proves it of `step` and `room_of`. Asking the room is no call of a history: it changes
-- nothing, and what is told is a function of the store alone, whoever asks.
-- Assumes nothing.
use Rattle.std.specs.Prelude.{◌≡◌, ◌≢◌, ◌↔◌, ◌⊎◌, Bool, true, false, not, ◌&&◌, cond, List, ℕ, suc, ◌+◌, ◌-◌, ◌*◌, ◌/◌, ◌%◌, ◌^◌, ◌≤◌, ◌<◌, T, eqb, ltb, length, get_or}
use Rattle.answers.specs.declared.Answer.{Answer}
use Rattle.answers.specs.declared.Answer.TheVariants.{Good, Unusable}
use Rattle.answers.specs.Answers.{number_of}
use Rattle.answers.specs.Sense.{format_ok}
use Rattle.pool.specs.Bounds.{most_slots, block_bytes, word_slots, mark_words}
use Rattle.pool.specs.Marks.{marks_of, marked, lowest}
use Rattle.pool.specs.Pool.{Pool, place, mapped, free, unmapped}
use Rattle.pool.specs.Valid.{map_ok, slots_ok}
use Rattle.forms.specs.declared.Move.TheVariants.{Write}
use Rattle.forms.specs.declared.Request.{Request}
use Rattle.forms.specs.Forms.{count_in}
use Rattle.store.specs.Room.{Room}
use Rattle.store.specs.Store.{Store, Call, unit_ok, usable}
use Rattle.ridge.specs.Interface.{roomed, leaves_room}
use Rattle.demands.specs.History.{Event, Build, after, machine, after_all}
use Rattle.demands.specs.Contents.{Asks, address_in}
use Rattle.demands.specs.Reservations.{GoodBy}
use Rattle.demands.specs.AtC.{program}

-- ---- the marks, slot by slot

-- "Keep occupancy marks, one bit per slot in two 64-bit words": the mark of slot i is bit i mod 64 of word i / 64
unfoldable pub mark_at : List ℕ → ℕ → ℕ
mark_at marks i = get_or marks (i / word_slots) 0 / 2 ^ (i % word_slots) % 2

-- is slot i one of the slots, with an owner: "0 is free"
unfoldable pub taken : List ℕ → ℕ → Bool
taken owners i = ltb i (length owners) && not (eqb (get_or owners i 0) 0)

-- the marks say of each slot what its owner says, and nothing else: two words of 64 bits, of which each is 1 where its slot is taken, and 0 where it is
-- free or no slot
pub record Agree (owners marks : List ℕ) : Type 0 where
  pub words : length marks ≡ mark_words
  pub wide : (k : ℕ) → get_or marks k 0 < 2 ^ word_slots
  pub each : (i : ℕ) → i < most_slots → mark_at marks i ≡ cond (taken owners i) 1 0

-- all of a store is right but, perhaps, its marks
pub record OtherwiseRight (s : Store) : Type 0 where
  pub format : T (format_ok s.format)
  pub unit : T (unit_ok s.unit)
  pub slots : T (slots_ok (length s.pool.owners))
  pub medium : length s.pool.medium ≡ block_bytes * length s.pool.owners
  pub map : T (map_ok s.unit.capacity s.pool.owners)

pub record MarksDecide : Type 0 where
  -- "A mark without its owner, an owner without its mark, or a mark beyond the slots makes the state invalid", and nothing else of two words of 64 bits does
  pub valid : (s : Store) → T (usable s) ↔ (OtherwiseRight s × Agree s.pool.owners s.pool.marks)
  -- no second marks agree with the same owners
  pub one : (owners marks other : List ℕ) → length owners ≤ most_slots → Agree owners marks → Agree owners other → marks ≡ other

-- ---- the laws

-- the pool after a history
abbrev pub pool_after : Build → Store → List Event → Pool
pool_after f s es = (after_all (machine f) s es).pool

pub record KeepsMarks (f : Build) : Type 0 where
  -- from any valid store on the marks are those of the owners, and so agree with them slot by slot
  pub marks : (s : Store) (es : List Event) → T (usable s) → (pool_after f s es).marks ≡ marks_of (pool_after f s es).owners
  pub agree : (s : Store) (es : List Event) → T (usable s) → Agree (pool_after f s es).owners (pool_after f s es).marks
  -- "the free count is read off the marks, and so is the lowest free slot. Both equal what a full walk over the owners says after any history."
  pub free_count : (s : Store) (es : List Event) → T (usable s)
      → marked (pool_after f s es).marks + free (pool_after f s es).owners ≡ length (pool_after f s es).owners
  pub lowest_free : (s : Store) (es : List Event) → T (usable s) → lowest (pool_after f s es).marks ≡ place 0 (pool_after f s es).owners

-- 11, and all that is stored or lent is as it was
pub record Eleven (f : Build) (s : Store) (c : Call) : Type 0 where
  pub answer : (f s c).seen.answer ≡ Unusable
  pub store : after f s c ≡ s
  pub returned : (f s c).seen.returned ≡ 0
  pub data_in : (f s c).seen.data_in ≡ c.data_in
  pub sense : (f s c).seen.sense ≡ c.sense

-- "Refusals: 11 in its first place": every call, whoever sends it and whatever it asks
pub record RefusesMarks (f : Build) : Type 0 where
  -- "A mark without its owner"
  pub bare : (s : Store) (c : Call) (i : ℕ) → i < length s.pool.owners → mark_at s.pool.marks i ≡ 1 → get_or s.pool.owners i 0 ≡ 0 → Eleven f s c
  -- "an owner without its mark"
  pub unmarked : (s : Store) (c : Call) (i : ℕ) → i < length s.pool.owners → mark_at s.pool.marks i ≡ 0 → get_or s.pool.owners i 0 ≢ 0
      → Eleven f s c
  -- "or a mark beyond the slots"
  pub beyond : (s : Store) (c : Call) (i : ℕ) → length s.pool.owners ≤ i → i < most_slots → mark_at s.pool.marks i ≡ 1 → Eleven f s c
  -- fewer or more than "two 64-bit words"
  pub words : (s : Store) (c : Call) → length s.pool.marks ≢ mark_words → Eleven f s c

-- an answer and two numbers
abbrev pub room_with : Answer → ℕ → ℕ → Room
room_with answer free lowest = record { answer = answer; free = free; lowest = lowest }

-- what a full walk over the owners says: how many slots are free, and the lowest of them
abbrev pub walked : Pool → Room
walked p = room_with Good (free p.owners) (place 0 p.owners)

pub record TellsRoom (room : Store → Room) : Type 0 where
  -- of a valid store what a full walk over the owners says is told, and it is what the marks say; of any other 11, and no number
  pub told : (s : Store) → T (usable s) → room s ≡ walked s.pool
  pub read_off : (s : Store) → T (usable s) → room s ≡ room_with Good (length s.pool.owners - marked s.pool.marks) (lowest s.pool.marks)
  pub untold : (s : Store) → T (not (usable s)) → room s ≡ room_with Unusable 0 0
  -- the slot told is free, where one is, and every slot below it is taken
  pub lowest_free : (s : Store) → T (usable s) → 0 < (room s).free → ((room s).lowest < length s.pool.owners) × (get_or s.pool.owners (room s).lowest 0 ≡ 0)
  pub lower_taken : (s : Store) → T (usable s) → (i : ℕ) → i < (room s).lowest → T (taken s.pool.owners i)
  -- it is a function of the owners alone
  pub by_owners : (s t : Store) → T (usable s) → T (usable t) → s.pool.owners ≡ t.pool.owners → room s ≡ room t

-- how many blocks of a WRITE are unmapped
unfoldable pub new_in : Store → Request → ℕ
new_in s q = unmapped s.pool.owners (address_in q) (count_in q)

-- block i of a WRITE is the first of its unmapped ones
pub record FirstNew (s : Store) (q : Request) (i : ℕ) : Type 0 where
  pub among : i < count_in q
  pub new : mapped s.pool.owners (address_in q + i) ≡ false
  pub before : (j : ℕ) → j < i → mapped s.pool.owners (address_in q + j) ≡ true

-- what the gateway may rely on, "before each batch"
pub record Relies (f : Build) (room : Store → Room) : Type 0 where
  -- a WRITE that nothing else refuses gets 8 exactly if more of its blocks are unmapped than slots were told free
  pub no_room_law : (s : Store) (w : Call) (a : Asks Write w) → GoodBy f s w ⊎ (number_of (f s w).seen.answer ≡ 8)
      → number_of (f s w).seen.answer ≡ 8 ↔ (room s).free < new_in s a.request
  -- after one that is GOOD the room is smaller by those blocks
  pub smaller : (s : Store) (w : Call) (a : Asks Write w) → GoodBy f s w → (room (after f s w)).free + new_in s a.request ≡ (room s).free
  -- and the first of them lies in the slot that was told
  pub first_slot : (s : Store) (w : Call) (a : Asks Write w) → GoodBy f s w → (i : ℕ) → FirstNew s a.request i
      → place (suc (address_in a.request + i)) (after f s w).pool.owners ≡ (room s).lowest

-- ---- from a fresh store; proofs/FreeRoom proves it of every one within its bounds

pub record RoomEver (f : Build) (room : Store → Room) (s : Store) : Type 0 where
  -- all slots are free at first
  pub at_first : room s ≡ room_with Good (length s.pool.owners) 0
  -- "Both equal what a full walk over the owners says after any history."
  pub agree : (es : List Event) → Agree (pool_after f s es).owners (pool_after f s es).marks
  pub told : (es : List Event) → room (after_all (machine f) s es) ≡ walked (pool_after f s es)

-- ---- at the C interface

pub record RoomAtC : Type 0 where
  -- 0, and both numbers are written; or 11, and both are as they were
  pub told : (s : Store) (before lower : ℕ) → T (usable s) → roomed s before lower ≡ leaves_room 0 (free s.pool.owners) (place 0 s.pool.owners)
  pub untold : (s : Store) (before lower : ℕ) → T (not (usable s)) → roomed s before lower ≡ leaves_room 11 before lower
  -- after any history of C calls
  pub told_ever : (s : Store) (es : List Event) (before lower : ℕ) → T (usable s)
      → roomed (after_all program s es) before lower
      ≡ leaves_room 0 (free (after_all program s es).pool.owners) (place 0 (after_all program s es).pool.owners)
