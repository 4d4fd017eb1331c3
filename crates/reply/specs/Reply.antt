-- What the parts of a call leave: a reply, a changed value, or all but the sense.
-- Assumes nothing.
use Rattle.std.specs.Prelude.{◌≡◌, List, ℕ, ◌*◌, ◌≤◌, length, ⊤, T, Result, Ok, Err, IfErr}
use Rattle.fields.specs.Bytes.{put}
use Rattle.answers.specs.declared.Answer.{Answer}
use Rattle.answers.specs.declared.Answer.TheVariants.{Good}
use Rattle.answers.specs.Order.{if_good, refuses}
use Rattle.pool.specs.Bounds.{most_blocks, most_slots, block_bytes}
use Rattle.pool.specs.Marks.{marks_of}
use Rattle.store.specs.Store.{Store, leaves}
use Rattle.reply.specs.declared.Outcome.{Outcome}
use Rattle.reply.specs.Contract.{store_of}

-- ---- what a command may rely on once the store is found usable

pub record Bounded (capacity : ℕ) (owners marks medium : List ℕ) : Type 0 where
  pub some : 1 ≤ capacity
  pub few : capacity ≤ most_blocks
  pub slots : length owners ≤ most_slots
  pub whole : length medium ≡ block_bytes * length owners
  pub marked : marks ≡ marks_of owners

-- ---- what holds of each result

-- its error is an answer that refuses: GOOD is never one
abbrev pub Refusing : {A : Type 0} → Result A Answer → Type 0
Refusing r = IfErr r (λ answer. T (refuses answer))

-- ---- a reply: the answer, how many bytes it returns, and data-in after it

pub record Replied : Type 0 where
  pub answer : Answer
  pub returned : ℕ
  pub data_in : List ℕ

-- of a command that returns bytes: GOOD with so many, or the answer that refuses
abbrev pub replied : Result ℕ Answer → List ℕ → Replied
replied (Ok n) data_in = record { answer = Good; returned = n; data_in = data_in }
replied (Err answer) data_in = record { answer = answer; returned = 0; data_in = data_in }

unfoldable pub reply_of : Answer → List ℕ → List ℕ → Replied
reply_of a bs data_in = record { answer = a; returned = if_good a (length bs) 0; data_in = if_good a (put data_in 0 bs) data_in }

-- ---- an answer, and what it leaves of a value

pub record Left (A : Type 0) : Type 0 where
  pub answer : Answer
  pub after : A

abbrev pub leaving : {A : Type 0} → Answer → A → Left A
leaving answer after = record { answer = answer; after = after }

-- of a command that returns none: GOOD, or the answer that refuses
abbrev pub changing : {A : Type 0} → Result ⊤ Answer → A → Left A
changing (Ok done) after = leaving Good after
changing (Err answer) after = leaving answer after

unfoldable pub settles : {A : Type 0} → Answer → A → A → Left A
settles a done kept = record { answer = a; after = if_good a done kept }

-- ---- all that a call leaves but the sense

pub record Served : Type 0 where
  pub reply : Replied
  pub store : Store

abbrev pub served : ℕ → Outcome → List ℕ → List ℕ → List ℕ → List ℕ → Served
served format r owners marks medium data_in = record {
  reply = record { answer = r.answer; returned = r.returned; data_in = data_in };
  store = store_of format r.unit owners marks medium;
}

unfoldable pub serves : Answer → List ℕ → Store → Store → List ℕ → Served
serves a bs after before data_in = record { reply = reply_of a bs data_in; store = leaves a after before }
