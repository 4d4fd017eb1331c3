-- GET LBA STATUS as those put it who ask for it: of any build, so that wrong ones can be put in; proofs/MapTold proves it of `step`.
-- Assumes nothing.
use Rattle.std.specs.Prelude.{◌≡◌, ◌↔◌, ◌≢◌, List, ℕ, ◌≤◌, ◌<◌, T, take}
use Rattle.fields.specs.Field.{byte}
use Rattle.answers.specs.declared.Answer.TheVariants.{Good, Conflict}
use Rattle.answers.specs.Answers.{number_of, out_of_range}
use Rattle.runs.specs.TellsMap.{TellsMap}
use Rattle.forms.specs.declared.Move.TheVariants.{Status}
use Rattle.forms.specs.Forms.{allocation_in}
use Rattle.store.specs.Store.{Store, Call, Seen, usable, seen_of}
use Rattle.demands.specs.History.{Build, after, is_shut_out}
use Rattle.demands.specs.Contents.{Asks, address_in, by_itself, Quiet, Reaches}
use Rattle.demands.specs.Reservations.{GoodBy}

-- what is seen are the first bytes, as many as the allocation length lets through, of a page that tells the map from the starting address on
pub record Shown (s : Store) (c : Call) (start allocation : ℕ) (x : Seen) : Type 0 where
  pub page : List ℕ
  pub tells : TellsMap s.unit.capacity s.pool.owners start page
  pub seen : x ≡ seen_of s.format Good (take allocation page) c

-- no second page of bytes tells the same map from the same address on: what is told is determined to the byte
abbrev pub OnePage : Type 0
OnePage = (capacity : ℕ) (owners : List ℕ) (start : ℕ) (page other : List ℕ) → ((k : ℕ) → byte k page < 256) → ((k : ℕ) → byte k other < 256)
    → TellsMap capacity owners start page → TellsMap capacity owners start other → page ≡ other

pub record MapTold (f : Build) : Type 0 where
  -- what is told is the map
  pub told : (s : Store) (c : Call) (a : Asks Status c) → GoodBy f s c → Shown s c (address_in a.request) (allocation_in a.request) (f s c).seen
  -- it changes nothing, however it is answered, unless it only told what waited
  pub still : (s : Store) (c : Call) → Asks Status c → number_of (f s c).seen.answer ≢ 13 → after f s c ≡ s
  -- "Demand 3's shut-out calls now include GET LBA STATUS": it is answered 10 to those who may not read, and to nobody else
  pub shut_out_law : (s : Store) (c : Call) → Asks Status c → T (usable s) → by_itself s.format c ≡ Good → Quiet s c
      → (f s c).seen.answer ≡ Conflict ↔ T (is_shut_out s c)
  -- "3 for a start at or past capacity"
  pub past_end : (s : Store) (c : Call) (a : Asks Status c) → Reaches s a → s.unit.capacity ≤ address_in a.request
      → (f s c).seen.answer ≡ out_of_range (address_in a.request)
