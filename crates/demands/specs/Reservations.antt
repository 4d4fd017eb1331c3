-- Reservations as those put it who use them: of any build, so that wrong ones can be put in; proofs/Reservations proves it of `step`.
-- Assumes nothing.
use Rattle.std.specs.Prelude.{◌≡◌, ◌↔◌, ◌≢◌, Bool, true, false, not, ◌&&◌, ◌||◌, cond, List, [], ◌∷◌, ℕ, T, eqb, take}
use Rattle.answers.specs.declared.Answer.TheVariants.{Good, Conflict}
use Rattle.answers.specs.Answers.{number_of}
use Rattle.rights.specs.declared.Rights.{Rights}
use Rattle.rights.specs.declared.Action.{Action}
use Rattle.rights.specs.declared.Action.TheVariants.{Register, Reserve, Release, Clear, Preempt, RegisterIgnoring}
use Rattle.rights.specs.Places.{registered, key_of}
use Rattle.rights.specs.Rights.{one_holds, all_hold, holds}
use Rattle.rights.specs.Told.{keys_data, reservation_data}
use Rattle.forms.specs.declared.Tell.{Tell}
use Rattle.forms.specs.declared.Tell.TheVariants.{Keys, Reservation}
use Rattle.forms.specs.declared.Move.{Move}
use Rattle.forms.specs.declared.Move.TheVariants.{Read, Write, WriteSame, Unmap, Status}
use Rattle.forms.specs.declared.Command.{Command}
use Rattle.forms.specs.declared.Command.TheVariants.{Tells, Moves, Alters}
use Rattle.forms.specs.Forms.{Asked, nothing, asks, asked_of, allocation_in}
use Rattle.store.specs.Store.{Store, Call, usable, seen_of}
use Rattle.demands.specs.History.{Build, after}
use Rattle.demands.specs.Generation.{service_key}
use Rattle.demands.specs.Contents.{AsksFor, Asks, by_itself, Quiet}

-- ---- words

-- the build answers GOOD
abbrev pub GoodBy : Build → Store → Call → Type 0
GoodBy f s c = (f s c).seen.answer ≡ Good

-- the key of the nexus n, 0 if it is not registered
unfoldable pub key_in : Store → ℕ → ℕ
key_in s n = key_of n s.unit.rights.places

unfoldable pub is_registered : Store → ℕ → Bool
is_registered s n = registered n s.unit.rights.places

unfoldable pub is_holder : Store → ℕ → Bool
is_holder s n = holds s.unit.rights n

-- the reservation's type, 0 where there is none
unfoldable pub type_in : Store → ℕ
type_in s = s.unit.rights.kind

-- ---- PREEMPT

-- "If it is the holder's key under 1, 3, 5, 6"; and by Q-3 "under types 7 and 8 a zero key"
unfoldable pub takes_over : Store → Call → Bool
takes_over s c =
    (one_holds (type_in s) && eqb (key_in s s.unit.rights.holder) (service_key c)) || (all_hold (type_in s) && eqb (service_key c) 0)

-- "all with that key but the sender are removed …. Else all with that key are removed, the sender too."; a zero key names everybody
unfoldable pub preempts : Store → Call → ℕ → Bool
preempts s c n = (eqb (key_in s n) (service_key c) || eqb (service_key c) 0) && not (takes_over s c && eqb n c.nexus)

-- ---- whose registrations an action may change

unfoldable pub action_touches : Action → ℕ → ℕ → Bool
action_touches Register by n = eqb by n
action_touches Reserve by n = false
action_touches Release by n = false
action_touches Clear by n = true
action_touches Preempt by n = true
action_touches RegisterIgnoring by n = eqb by n

unfoldable pub command_touches : Command → ℕ → ℕ → Bool
command_touches (Tells t) by n = false
command_touches (Moves m) by n = false
command_touches (Alters a) by n = action_touches a by n

unfoldable pub asked_touches : Asked → ℕ → ℕ → Bool
asked_touches nothing by n = false
asked_touches (asks q) by n = command_touches q.command by n

-- a call that may change the registration of the nexus n: REGISTER by n itself, PREEMPT and CLEAR
unfoldable pub touches : Call → ℕ → Bool
touches c n = asked_touches (asked_of c.cdb) c.nexus n

-- "0 REGISTER … 6 REGISTER AND IGNORE EXISTING KEY"
unfoldable pub registers : Action → Bool
registers Register = true
registers Reserve = false
registers Release = false
registers Clear = false
registers Preempt = false
registers RegisterIgnoring = true

-- ---- the conflict rule as a table

-- who sends, as the reservation sees it
pub data Sender : Type 0 where
  holder : Sender
  registrant : Sender
  outsider : Sender

unfoldable pub sender_of : Rights → ℕ → Sender
sender_of r n = cond (holds r n) holder (cond (registered n r.places) registrant outsider)

unfoldable pub same_sender : Sender → Sender → Bool
same_sender holder holder = true
same_sender holder registrant = false
same_sender holder outsider = false
same_sender registrant holder = false
same_sender registrant registrant = true
same_sender registrant outsider = false
same_sender outsider holder = false
same_sender outsider registrant = false
same_sender outsider outsider = true

-- a type, a sender, and whether READ, WRITE and UNMAP conflict
pub record Line : Type 0 where
  pub type : ℕ
  pub sender : Sender
  pub read : Bool
  pub write : Bool
  pub unmap : Bool

abbrev pub line : ℕ → Sender → Bool → Bool → Bool → Line
line type sender read write unmap = record { type = type; sender = sender; read = read; write = write; unmap = unmap }

abbrev pub pass : Bool
pass = false

abbrev pub stop : Bool
stop = true

-- "Under 7 and 8 every registered nexus is a holder. A holder is never blocked; under 5 and 6 nor is a registered nexus. For all others: WRITE and
-- UNMAP conflict under every type, READ under 3, 6, 8."
-- Columns: type, sender, READ, WRITE, UNMAP. A registrant is registered and no holder, so its lines under 7 and 8 are never met.
unfoldable pub conflict_table : List Line
conflict_table =
    line 1 holder pass pass pass
    ∷ line 1 registrant pass stop stop
    ∷ line 1 outsider pass stop stop
    ∷ line 3 holder pass pass pass
    ∷ line 3 registrant stop stop stop
    ∷ line 3 outsider stop stop stop
    ∷ line 5 holder pass pass pass
    ∷ line 5 registrant pass pass pass
    ∷ line 5 outsider pass stop stop
    ∷ line 6 holder pass pass pass
    ∷ line 6 registrant pass pass pass
    ∷ line 6 outsider stop stop stop
    ∷ line 7 holder pass pass pass
    ∷ line 7 registrant pass pass pass
    ∷ line 7 outsider pass stop stop
    ∷ line 8 holder pass pass pass
    ∷ line 8 registrant pass pass pass
    ∷ line 8 outsider stop stop stop
    ∷ []

unfoldable pub column : Move → Line → Bool
column Read l = l.read
column Write l = l.write
column Unmap l = l.unmap
-- Q-1: "Conflicts: as WRITE and as READ."
column WriteSame l = l.write
column Status l = l.read

-- what the table says; it says nothing where there is no reservation
unfoldable pub says : List Line → ℕ → Sender → Move → Bool
says [] type sender m = pass
says (l ∷ ls) type sender m = cond (eqb type l.type && same_sender sender l.sender) (column m l) (says ls type sender m)

-- does the table stop this move of the caller
unfoldable pub stopped : Store → Call → Move → Bool
stopped s c m = says conflict_table (type_in s) (sender_of s.unit.rights c.nexus) m

-- ---- the laws

pub record Reservations (f : Build) : Type 0 where
  -- "CLEAR: ends the reservation and all registrations."
  pub clear_registrations : (s : Store) (c : Call) → AsksFor (Alters Clear) c → GoodBy f s c → (n : ℕ) → T (not (is_registered (after f s c) n))
  pub clear_reservation : (s : Store) (c : Call) → AsksFor (Alters Clear) c → GoodBy f s c → type_in (after f s c) ≡ 0
  -- PREEMPT removes exactly those with the key named, but the sender where it takes over
  pub preempt_registrations : (s : Store) (c : Call) → AsksFor (Alters Preempt) c → GoodBy f s c → (n : ℕ)
      → key_in (after f s c) n ≡ cond (preempts s c n) 0 (key_in s n)
  -- "and the sender holds the type named": it alone, or under 7 and 8 all who are registered then
  pub preempt_type : (s : Store) (c : Call) (a : AsksFor (Alters Preempt) c) → GoodBy f s c → T (takes_over s c)
      → type_in (after f s c) ≡ a.request.kind
  pub preempt_holders : (s : Store) (c : Call) (a : AsksFor (Alters Preempt) c) → GoodBy f s c → T (takes_over s c) → (n : ℕ)
      → is_holder (after f s c) n ≡ cond (all_hold a.request.kind) (is_registered (after f s c) n) (eqb c.nexus n)
  -- where it does not take over, those hold who held and are registered still, by the type that it was
  pub preempt_holders_left : (s : Store) (c : Call) → AsksFor (Alters Preempt) c → GoodBy f s c → T (not (takes_over s c)) → (n : ℕ)
      → is_holder (after f s c) n ≡ (is_holder s n && is_registered (after f s c) n)
  pub preempt_type_left : (s : Store) (c : Call) → AsksFor (Alters Preempt) c → GoodBy f s c → T (not (takes_over s c)) → (n : ℕ)
      → T (is_holder (after f s c) n) → type_in (after f s c) ≡ type_in s
  -- RESERVE: "with none, made. By a holder with the same type, no change."
  pub reserve_holds : (s : Store) (c : Call) → AsksFor (Alters Reserve) c → GoodBy f s c → T (is_holder (after f s c) c.nexus)
  pub reserve_type : (s : Store) (c : Call) (a : AsksFor (Alters Reserve) c) → GoodBy f s c → type_in (after f s c) ≡ a.request.kind
  -- RELEASE: "by a holder with the same type, ends it …. No reservation or not a holder: GOOD, nothing."
  pub release_type : (s : Store) (c : Call) (a : AsksFor (Alters Release) c) → GoodBy f s c → T (is_holder s c.nexus) → type_in s ≡ a.request.kind
  pub release_ends : (s : Store) (c : Call) → AsksFor (Alters Release) c → GoodBy f s c → T (is_holder s c.nexus) → type_in (after f s c) ≡ 0
  pub release_nothing : (s : Store) (c : Call) → AsksFor (Alters Release) c → T (not (is_holder s c.nexus)) → number_of (f s c).seen.answer ≢ 13
      → after f s c ≡ s
  -- REGISTER: "Service action key nonzero registers (lowest free place) or changes the key; 0 unregisters or does nothing."
  pub register_key : (a : Action) → T (registers a) → (s : Store) (c : Call) → AsksFor (Alters a) c → GoodBy f s c
      → key_in (after f s c) c.nexus ≡ service_key c
  -- after it those hold who held and are registered, and under 7 and 8 all who are, by the type that it was
  pub register_holders : (a : Action) → T (registers a) → (s : Store) (c : Call) → AsksFor (Alters a) c → GoodBy f s c → (n : ℕ)
      → is_holder (after f s c) n ≡ (is_registered (after f s c) n && (is_holder s n || all_hold (type_in s)))
  pub register_type : (a : Action) → T (registers a) → (s : Store) (c : Call) → AsksFor (Alters a) c → GoodBy f s c → (n : ℕ)
      → T (is_holder (after f s c) n) → type_in (after f s c) ≡ type_in s
  -- a registration changes only by its own REGISTER, by PREEMPT and by CLEAR
  pub registration_stays : (s : Store) (c : Call) (n : ℕ) → T (not (touches c n)) → key_in (after f s c) n ≡ key_in s n
  -- "A reservation ends when its holder, or under 7 and 8 the last registrant, is gone."
  pub holder_unregisters : (a : Action) → T (registers a) → (s : Store) (c : Call) → AsksFor (Alters a) c → GoodBy f s c
      → service_key c ≡ 0 → T (one_holds (type_in s)) → T (is_holder s c.nexus) → type_in (after f s c) ≡ 0
  -- READ KEYS and READ RESERVATION tell the rights as they are: "the returned bytes are the first min(allocation length, available)"
  pub keys_told : (s : Store) (c : Call) (a : AsksFor (Tells Keys) c) → GoodBy f s c
      → (f s c).seen ≡ seen_of s.format Good (take (allocation_in a.request) (keys_data s.unit.rights)) c
  pub reservation_told : (s : Store) (c : Call) (a : AsksFor (Tells Reservation) c) → GoodBy f s c
      → (f s c).seen ≡ seen_of s.format Good (take (allocation_in a.request) (reservation_data s.unit.rights)) c
  -- a call on the blocks that comes as far as the guard is answered 10 exactly where the table stops it; "All other commands pass."
  pub conflict_table_law : (m : Move) (s : Store) (c : Call) → Asks m c → T (usable s) → by_itself s.format c ≡ Good → Quiet s c
      → (f s c).seen.answer ≡ Conflict ↔ T (stopped s c m)
  pub others_pass : (t : Tell) (s : Store) (c : Call) → AsksFor (Tells t) c → (f s c).seen.answer ≢ Conflict
