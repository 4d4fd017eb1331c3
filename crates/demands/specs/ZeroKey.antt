-- PREEMPT with the service action key 0, as those put it who use it: two loggers of a pair take over from a dead third. What it is answered and what it
-- leaves, of any build, so that wrong ones can be put in; what has not moved beside it; and the whole story from a fresh store.
-- Assumes nothing.
use Rattle.std.specs.Prelude.{◌≡◌, ◌↔◌, ◌≢◌, Bool, not, ◌&&◌, cond, List, [], ◌∷◌, ◌++◌, map, ℕ, ◌+◌, ◌%◌, ◌^◌, ◌≤◌, T, Result, eqb, length, take}
use Rattle.fields.specs.Bytes.{zeros}
use Rattle.fields.specs.Field.{field, bytes}
use Rattle.answers.specs.declared.Answer.{Answer}
use Rattle.answers.specs.declared.Answer.TheVariants.{Good, Conflict}
use Rattle.answers.specs.Answers.{list_field}
use Rattle.answers.specs.Order.{Row, ◌if◌, first}
use Rattle.rights.specs.declared.Rights.{Rights}
use Rattle.rights.specs.declared.Action.{Action}
use Rattle.rights.specs.declared.Action.TheVariants.{Register, Reserve, Preempt}
use Rattle.rights.specs.declared.Parameters.{Parameters}
use Rattle.rights.specs.Places.{known}
use Rattle.rights.specs.Rights.{all_hold}
use Rattle.rights.specs.Actions.{service_key_bits, flag_rows, stranger, preempting, decided, unless_refused}
use Rattle.forms.specs.declared.Tell.TheVariants.{Keys, Reservation}
use Rattle.forms.specs.declared.Move.{Move}
use Rattle.forms.specs.declared.Command.TheVariants.{Tells, Alters}
use Rattle.forms.specs.Forms.{allocation_in, list_length_in}
use Rattle.store.specs.Store.{Store, Call, Seen, with_unit, usable, relieved, seen_of}
use Rattle.store.specs.Alter.{parameters_of}
use Rattle.demands.specs.History.{Event, call, Build, after, machine, after_all, seen_all}
use Rattle.demands.specs.Generation.{generation, service_key}
use Rattle.demands.specs.Contents.{AsksFor, Asks, by_itself, Quiet}
use Rattle.demands.specs.Reservations.{GoodBy, key_in, is_registered, is_holder, type_in, outsider, conflict_table, says}

-- ---- words

-- "List: key 0-7"
unfoldable pub sender_key : Call → ℕ
sender_key c = field 0 8 c.data_out

-- a reservation-out call that comes as far as its keys: it is right by itself, where sense has this format, and its list is whole and has no flag that its action refuses
pub record Sends (format : ℕ) (a : Action) (c : Call) : Type 0 where
  pub asked : AsksFor (Alters a) c
  pub right : by_itself format c ≡ Good
  pub long : list_length_in asked.request ≡ 24
  pub whole : 24 ≤ length c.data_out
  pub flags : first (flag_rows a (parameters_of asked.request c.data_out)) ≡ Good

-- the sender is registered and gave its key
unfoldable pub gave_key : Store → Call → Bool
gave_key s c = is_registered s c.nexus && eqb (sender_key c) (key_in s c.nexus)

-- "5 stays for a zero key with no reservation or types 1, 3, 5, 6"; the sender's own 10 comes before
unfoldable pub zero_answer : Store → Call → Answer
zero_answer s c = cond (gave_key s c) (cond (all_hold (type_in s)) Good (list_field service_key_bits)) Conflict

-- what READ KEYS tells where one key is left
unfoldable pub one_key : ℕ → ℕ → List ℕ
one_key generation key = bytes 4 generation ++ (bytes 4 8 ++ bytes 8 key)

-- what READ RESERVATION tells of a type and of the one who made it: "the holder's key in 8-15 (0 for types 7, 8)"
unfoldable pub one_holder : ℕ → ℕ → ℕ → List ℕ
one_holder generation key type =
    bytes 4 generation ++ (bytes 4 16 ++ (bytes 8 (cond (all_hold type) 0 key) ++ (zeros 2 ++ (bytes 4 type ++ zeros 2))))

-- the store once a nexus was told what waited for it
unfoldable pub told : Store → ℕ → Store
told s n = with_unit s (relieved s.unit n)

-- ---- one call

pub record ZeroKey (f : Build) : Type 0 where
  pub answer : (s : Store) (c : Call) → Sends s.format Preempt c → service_key c ≡ 0 → T (usable s) → Quiet s c
      → (f s c).seen.answer ≡ zero_answer s c
  -- "removes every other registration"; the sender keeps its key
  pub registrations : (s : Store) (c : Call) → AsksFor (Alters Preempt) c → GoodBy f s c → service_key c ≡ 0 → (n : ℕ)
      → key_in (after f s c) n ≡ cond (eqb n c.nexus) (key_in s n) 0
  -- "ends the reservation, and gives the sender the type named": it alone holds, whichever type that is
  pub type : (s : Store) (c : Call) (a : AsksFor (Alters Preempt) c) → GoodBy f s c → service_key c ≡ 0 → type_in (after f s c) ≡ a.request.kind
  pub holders : (s : Store) (c : Call) → AsksFor (Alters Preempt) c → GoodBy f s c → service_key c ≡ 0 → (n : ℕ)
      → is_holder (after f s c) n ≡ eqb n c.nexus
  -- "generation rises"
  pub rises : (s : Store) (c : Call) → AsksFor (Alters Preempt) c → GoodBy f s c → service_key c ≡ 0 → generation (after f s c) ≡ (generation s + 1) % 2 ^ 32
  -- a sender alone may do it, and then no registration changes
  pub alone : (s : Store) (c : Call) → AsksFor (Alters Preempt) c → GoodBy f s c → service_key c ≡ 0 → ((n : ℕ) → n ≢ c.nexus → key_in s n ≡ 0)
      → (n : ℕ) → key_in (after f s c) n ≡ key_in s n
  -- what is told afterwards
  pub keys_told : (s : Store) (c d : Call) → AsksFor (Alters Preempt) c → GoodBy f s c → service_key c ≡ 0
      → (a : AsksFor (Tells Keys) d) → GoodBy f (after f s c) d
      → (f (after f s c) d).seen ≡ seen_of s.format Good (take (allocation_in a.request) (one_key (generation (after f s c)) (key_in s c.nexus))) d
  pub reservation_told : (s : Store) (c d : Call) (b : AsksFor (Alters Preempt) c) → GoodBy f s c → service_key c ≡ 0
      → (a : AsksFor (Tells Reservation) d) → GoodBy f (after f s c) d
      → (f (after f s c) d).seen ≡ seen_of s.format Good (take (allocation_in a.request) (one_holder (generation (after f s c)) (key_in s c.nexus) b.request.kind)) d
  -- all others are outsiders from then on: once they were told, their next READ, WRITE or UNMAP conflicts where the type named has it so
  pub others : (m : Move) (s : Store) (c d : Call) (b : AsksFor (Alters Preempt) c) → GoodBy f s c → service_key c ≡ 0
      → Asks m d → by_itself s.format d ≡ Good → d.nexus ≢ c.nexus
      → (f (told (after f s c) d.nexus) d).seen.answer ≡ Conflict ↔ T (says conflict_table b.request.kind outsider m)

-- ---- what has not moved

-- PREEMPT as 01 alone has it: "service action key 0 gives 5; a key nobody has gives 10."
unfoldable pub former_rows : Rights → ℕ → Parameters → List Row
former_rows r n o = Conflict if stranger r n o ∷ list_field service_key_bits if eqb o.service 0 ∷ Conflict if not (known o.service r.places) ∷ []

unfoldable pub former : Rights → ℕ → Parameters → Result Rights Answer
former r n o = unless_refused (first (former_rows r n o)) (preempting r n o.kind o.service)

-- the two rules decide alike but for a zero key under types 7 and 8: a key that is not 0 does what it did
abbrev pub RulesAgree : Type 0
RulesAgree = (r : Rights) (n : ℕ) (o : Parameters) → T (not (eqb o.service 0 && all_hold r.kind)) → decided Preempt r n o ≡ former r n o

-- ---- the pair that takes over from a dead third

pub data Which : Type 0 where
  first_one : Which
  second_one : Which
  third_one : Which

-- three register; one of them makes a reservation of type 7 or 8, and one sends the key 0 and names a type
pub record Story (format : ℕ) : Type 0 where
  -- their nexuses are different; their keys may be alike
  pub nexus : Which → ℕ
  pub key : Which → ℕ
  pub apart : (i j : Which) → nexus i ≡ nexus j → i ≡ j
  pub nonzero : (i : Which) → key i ≢ 0
  pub register : Which → Call
  pub registers : (i : Which) → Sends format Register (register i)
  pub registers_from : (i : Which) → (register i).nexus ≡ nexus i
  pub registers_own : (i : Which) → sender_key (register i) ≡ 0
  pub registers_key : (i : Which) → service_key (register i) ≡ key i
  pub holder : Which
  pub reserve : Call
  pub reserves : Sends format Reserve reserve
  pub reserves_from : reserve.nexus ≡ nexus holder
  pub reserves_own : sender_key reserve ≡ key holder
  pub reserves_all : T (all_hold reserves.asked.request.kind)
  pub sender : Which
  pub preempt : Call
  pub preempts : Sends format Preempt preempt
  pub preempts_from : preempt.nexus ≡ nexus sender
  pub preempts_own : sender_key preempt ≡ key sender
  pub preempts_zero : service_key preempt ≡ 0

unfoldable pub events : {format : ℕ} → Story format → List Event
events t =
    call (t.register first_one) ∷ call (t.register second_one) ∷ call (t.register third_one) ∷ call t.reserve ∷ call t.preempt ∷ []

-- the type named, whichever of the six
abbrev pub named : {format : ℕ} → Story format → ℕ
named t = t.preempts.asked.request.kind

unfoldable pub answers_of : List Seen → List Answer
answers_of xs = map (λ (x : Seen). x.answer) xs

-- how it ends on s
unfoldable pub ending : {format : ℕ} → Build → Store → Story format → Store
ending f s t = after_all (machine f) s (events t)

pub record TakenOver {format : ℕ} (f : Build) (s : Store) (t : Story format) : Type 0 where
  pub all_good : answers_of (seen_all (machine f) s (events t)) ≡ Good ∷ Good ∷ Good ∷ Good ∷ Good ∷ []
  -- nobody but the sender is registered, and it holds the type named
  pub registrations : (n : ℕ) → key_in (ending f s t) n ≡ cond (eqb n (t.nexus t.sender)) (t.key t.sender) 0
  pub type : type_in (ending f s t) ≡ named t
  pub holders : (n : ℕ) → is_holder (ending f s t) n ≡ eqb n (t.nexus t.sender)
  -- READ KEYS and READ RESERVATION say so, with the generation of four changes
  pub keys_told : (c : Call) (a : AsksFor (Tells Keys) c) → GoodBy f (ending f s t) c
      → (f (ending f s t) c).seen ≡ seen_of format Good (take (allocation_in a.request) (one_key 4 (t.key t.sender))) c
  pub reservation_told : (c : Call) (a : AsksFor (Tells Reservation) c) → GoodBy f (ending f s t) c
      → (f (ending f s t) c).seen ≡ seen_of format Good (take (allocation_in a.request) (one_holder 4 (t.key t.sender) (named t))) c
  -- and the others are outsiders, once they were told
  pub others : (m : Move) (c : Call) → Asks m c → by_itself format c ≡ Good → c.nexus ≢ t.nexus t.sender
      → (f (told (ending f s t) c.nexus) c).seen.answer ≡ Conflict ↔ T (says conflict_table (named t) outsider m)
