-- Unit attentions as those put it who are told: "A logger that loses its registration learns of it only by a conflict." What is told and when, whom each
-- action tells what, and that nothing is lost over any history. Of any build, so that wrong ones can be put in; proofs/Attentions proves it of `step`.
-- Assumes nothing.
use Rattle.std.specs.Prelude.{◌≡◌, ◌≢◌, Bool, not, ◌&&◌, cond, List, [], ◌∷◌, ◌++◌, ℕ, zero, suc, ◌≤◌, T, eqb}
use Rattle.fields.specs.Field.{byte}
use Rattle.answers.specs.declared.Refusal.TheVariants.{RegistrationsPreempted}
use Rattle.answers.specs.declared.Answer.TheVariants.{Refused}
use Rattle.answers.specs.Answers.{codes, codes_of, number_of, is_attention}
use Rattle.answers.specs.Order.{if_good}
use Rattle.rights.specs.declared.Rights.{Rights}
use Rattle.rights.specs.declared.Action.{Action}
use Rattle.rights.specs.declared.Action.TheVariants.{Reserve, Release, Clear, Preempt}
use Rattle.rights.specs.Rights.{is_one_of}
use Rattle.rights.specs.Attentions.{refusal_of}
use Rattle.rights.specs.Notices.{notice}
use Rattle.forms.specs.declared.Command.{Command}
use Rattle.forms.specs.declared.Command.TheVariants.{Tells, Moves, Alters}
use Rattle.forms.specs.Forms.{Asked, nothing, asks, asked_of}
use Rattle.store.specs.Store.{Store, Call, usable, waiting}
use Rattle.demands.specs.History.{Event, call, Build, after, machine, is_out, after_all}
use Rattle.demands.specs.Generation.{service_key}
use Rattle.demands.specs.Contents.{AsksFor}
use Rattle.demands.specs.Reservations.{GoodBy, key_in, is_registered, is_holder, type_in, takes_over, registers}
use Rattle.demands.specs.ZeroKey.{Which, Story, ending}

-- ---- words

-- what waits for the nexus n: 0 nothing, 1 registrations preempted, 2 reservations preempted, 3 reservations released
unfoldable pub waits : Store → ℕ → ℕ
waits s n = waiting s.unit n

-- "A new one replaces an old one."
unfoldable pub newest : ℕ → ℕ → ℕ
newest zero old = old
newest (suc new) old = suc new

-- what waits for m after an action that tells m this
abbrev pub NowWaits : Build → Store → Call → ℕ → ℕ → Type 0
NowWaits f s c m new = waits (after f s c) m ≡ newest new (waits s m)

-- "of type 5 to 8"
unfoldable pub is_shared : ℕ → Bool
is_shared type = is_one_of type (5 ∷ 6 ∷ 7 ∷ 8 ∷ [])

-- PREEMPT "changes its type": it takes the reservation over, and names another type than it had
unfoldable pub changes_type : Store → Call → ℕ → Bool
changes_type s c named = takes_over s c && (is_shared (type_in s) && not (eqb named (type_in s)))

-- ---- one call

pub record Attentions (f : Build) : Type 0 where
  -- "2A/05 registrations preempted …; 2A/03 reservations preempted …; 2A/04 reservations released", "key 06h", "13"
  pub preempted_codes : codes_of (refusal_of 1) ≡ codes 13 0x06 0x2A 0x05
  pub cleared_codes : codes_of (refusal_of 2) ≡ codes 13 0x06 0x2A 0x03
  pub released_codes : codes_of (refusal_of 3) ≡ codes 13 0x06 0x2A 0x04
  -- "The next command other than INQUIRY from that nexus returns it": whatever the command is, unless it is answered 1 or 11
  pub returned : (s : Store) (c : Call) → waits s c.nexus ≢ 0 → byte 0 c.cdb ≢ 0x12 → number_of (f s c).seen.answer ≢ 1
      → number_of (f s c).seen.answer ≢ 11 → (f s c).seen.answer ≡ Refused (refusal_of (waits s c.nexus))
  -- and 13 is answered to nobody else: something waited, and the command was another
  pub only_then : (s : Store) (c : Call) → number_of (f s c).seen.answer ≡ 13
      → (waits s c.nexus ≢ 0) × (byte 0 c.cdb ≢ 0x12) × ((f s c).seen.answer ≡ Refused (refusal_of (waits s c.nexus)))
  -- "and clears it": that one, and no other
  pub cleared : (s : Store) (c : Call) → number_of (f s c).seen.answer ≡ 13 → waits (after f s c) c.nexus ≡ 0
  pub others_wait : (s : Store) (c : Call) → number_of (f s c).seen.answer ≡ 13 → (m : ℕ) → m ≢ c.nexus → waits (after f s c) m ≡ waits s m
  -- INQUIRY passes and leaves all as it is, refused or not
  pub inquiry_passes : (s : Store) (c : Call) → byte 0 c.cdb ≡ 0x12 → after f s c ≡ s
  -- without reservation-out calls nothing but that clearing changes what waits
  pub outs_alone : (s : Store) (c : Call) → T (not (is_out c)) → number_of (f s c).seen.answer ≢ 13 → (m : ℕ) → waits (after f s c) m ≡ waits s m
  -- the sender of an action is told nothing
  pub sender_untold : (a : Action) (s : Store) (c : Call) → AsksFor (Alters a) c → GoodBy f s c → c.nexus ≤ 15 → waits (after f s c) c.nexus ≡ waits s c.nexus
  -- "2A/05 registrations preempted, for another's registration removed by PREEMPT", "2A/04 … for registered others when … PREEMPT changes its type"
  pub preempt_tells : (s : Store) (c : Call) (a : AsksFor (Alters Preempt) c) → GoodBy f s c → service_key c ≢ 0 → (m : ℕ) → m ≤ 15 → m ≢ c.nexus
      → NowWaits f s c m
      (cond (is_registered s m && eqb (key_in s m) (service_key c)) 1 (cond (is_registered s m && changes_type s c a.request.kind) 3 0))
  -- by the key 0 all others are removed
  pub zero_key_tells : (s : Store) (c : Call) → AsksFor (Alters Preempt) c → GoodBy f s c → service_key c ≡ 0 → (m : ℕ) → m ≤ 15 → m ≢ c.nexus
      → NowWaits f s c m (cond (is_registered s m) 1 0)
  -- "2A/03 reservations preempted, for another's removed by CLEAR"
  pub clear_tells : (s : Store) (c : Call) → AsksFor (Alters Clear) c → GoodBy f s c → (m : ℕ) → m ≤ 15 → m ≢ c.nexus
      → NowWaits f s c m (cond (is_registered s m) 2 0)
  -- "2A/04 reservations released, for registered others when RELEASE … ends a reservation of type 5 to 8"
  pub release_tells : (s : Store) (c : Call) → AsksFor (Alters Release) c → GoodBy f s c → (m : ℕ) → m ≤ 15 → m ≢ c.nexus
      → NowWaits f s c m (cond (is_registered s m && (is_shared (type_in s) && is_holder s c.nexus)) 3 0)
  -- "or the holder's own unregistering": under 7 and 8 it ends with the last registrant alone, and then there are no others
  pub register_tells : (a : Action) → T (registers a) → (s : Store) (c : Call) → AsksFor (Alters a) c → GoodBy f s c → (m : ℕ) → m ≤ 15 → m ≢ c.nexus
      → NowWaits f s c m (cond (is_registered s m && (eqb (service_key c) 0 && (is_one_of (type_in s) (5 ∷ 6 ∷ []) && is_holder s c.nexus))) 3 0)
  -- RESERVE tells nobody
  pub reserve_tells : (s : Store) (c : Call) → AsksFor (Alters Reserve) c → GoodBy f s c → (m : ℕ) → m ≤ 15 → waits (after f s c) m ≡ waits s m

-- ---- histories

-- what a call has wait for the nexus n, 0 where nothing: read off the rights before and after it
unfoldable pub command_sends : Command → Rights → Rights → ℕ → ℕ
command_sends (Tells t) before after n = 0
command_sends (Moves m) before after n = 0
command_sends (Alters a) before after n = notice a before after n

unfoldable pub asked_sends : Asked → Rights → Rights → ℕ → ℕ
asked_sends nothing before after n = 0
asked_sends (asks q) before after n = command_sends q.command before after n

unfoldable pub sends : Build → Store → Call → ℕ → ℕ
sends f s c n =
    if_good (f s c).seen.answer (cond (eqb n c.nexus) 0 (asked_sends (asked_of c.cdb) s.unit.rights (after f s c).unit.rights n)) 0

-- what a call is told, where it is one of the nexus n, and 0 where nothing
unfoldable pub tells : Build → Store → Call → ℕ → ℕ
tells f s c n = cond (eqb n c.nexus && is_attention (f s c).seen.answer) (waits s n) 0

-- a list with one more in front, unless it is nothing
unfoldable pub some : ℕ → List ℕ → List ℕ
some zero xs = xs
some (suc x) xs = suc x ∷ xs

-- over a history, what is sent to the nexus n, and what it is told, one after another
unfoldable pub sent_to : Build → ℕ → Store → List Event → List ℕ
sent_to f n s [] = []
sent_to f n s (call c ∷ es) = some (sends f s c n) (sent_to f n (after f s c) es)

unfoldable pub told_to : Build → ℕ → Store → List Event → List ℕ
told_to f n s [] = []
told_to f n s (call c ∷ es) = some (tells f s c n) (told_to f n (after f s c) es)

-- the last of them
unfoldable pub latest : ℕ → List ℕ → ℕ
latest old [] = old
latest old (x ∷ xs) = latest x xs

pub record NoneLost (f : Build) : Type 0 where
  -- until a nexus is told something, the newest that was sent to it waits
  pub waits_on : (s : Store) (es : List Event) (n : ℕ) → T (usable s) → n ≤ 15 → told_to f n s es ≡ []
      → waits (after_all (machine f) s es) n ≡ latest (waits s n) (sent_to f n s es)
  -- so its next command is told it, however much happened in between
  pub next_told : (s : Store) (es : List Event) (c : Call) → T (usable s) → c.nexus ≤ 15 → told_to f c.nexus s es ≡ []
      → latest (waits s c.nexus) (sent_to f c.nexus s es) ≢ 0 → byte 0 c.cdb ≢ 0x12
      → number_of (f (after_all (machine f) s es) c).seen.answer ≢ 1 → number_of (f (after_all (machine f) s es) c).seen.answer ≢ 11
      → (f (after_all (machine f) s es) c).seen.answer ≡ Refused (refusal_of (latest (waits s c.nexus) (sent_to f c.nexus s es)))
  -- and where nothing new is sent, what waited is told once or waits still: never twice, and never neither
  pub once : (s : Store) (es : List Event) (n : ℕ) → T (usable s) → n ≤ 15 → sent_to f n s es ≡ []
      → told_to f n s es ++ some (waits (after_all (machine f) s es) n) [] ≡ some (waits s n) []

-- ---- a logger that is preempted learns of it at its next command: the pair that takes over from a dead third, from a fresh store

pub record Learns {format : ℕ} (f : Build) (s : Store) (t : Story format) : Type 0 where
  -- it waits for both others, and for nobody else
  pub waiting : (i : Which) → i ≢ t.sender → waits (ending f s t) (t.nexus i) ≡ 1
  pub nobody_else : (n : ℕ) → n ≤ 15 → ((i : Which) → i ≢ t.sender → n ≢ t.nexus i) → waits (ending f s t) n ≡ 0
  -- the next command of each is told so
  pub next_command : (i : Which) → i ≢ t.sender → (c : Call) → c.nexus ≡ t.nexus i → byte 0 c.cdb ≢ 0x12
      → number_of (f (ending f s t) c).seen.answer ≢ 1 → number_of (f (ending f s t) c).seen.answer ≢ 11
      → (f (ending f s t) c).seen.answer ≡ Refused RegistrationsPreempted
  -- and the one behind it is not told again
  pub then_served : (i : Which) → i ≢ t.sender → (c d : Call) → c.nexus ≡ t.nexus i → d.nexus ≡ t.nexus i
      → number_of (f (ending f s t) c).seen.answer ≡ 13 → number_of (f (after f (ending f s t) c) d).seen.answer ≢ 13
