-- From a fresh store: what its blocks read and who has which rights after any history, told from outside, by the calls and their answers. No slot and
-- no map is spoken of.
-- Assumes nothing.
use Rattle.std.specs.Prelude.{◌≡◌, ◌||◌, cond, List, [], ◌∷◌, ◌++◌, ℕ, zero, suc, ◌-◌, ◌*◌, T, take, drop}
use Rattle.fields.specs.Bytes.{zeros}
use Rattle.answers.specs.declared.Answer.{Answer}
use Rattle.answers.specs.declared.Answer.TheVariants.{Good}
use Rattle.answers.specs.Answers.{is_attention}
use Rattle.answers.specs.Order.{if_good}
use Rattle.pool.specs.Pool.{read_block}
use Rattle.forms.specs.declared.Move.TheVariants.{Read, Write, WriteSame, Unmap, Status}
use Rattle.forms.specs.declared.Command.{Command}
use Rattle.forms.specs.declared.Command.TheVariants.{Tells, Moves, Alters}
use Rattle.forms.specs.declared.Request.{Request}
use Rattle.forms.specs.Forms.{Asked, nothing, asks, asked_of, count_in}
use Rattle.store.specs.Store.{Store, Call, usable, seen_of}
use Rattle.store.specs.Same.{block_sent}
use Rattle.store.specs.Step.{step}
use Rattle.demands.specs.History.{Event, call, after, machine, is_out, after_all, add}
use Rattle.demands.specs.Contents.{Asks, address_in, IsGood, in_range, descriptors_of, names, plain}

-- ---- what is known from outside

-- a call, and how it was answered
pub record Answered : Type 0 where
  pub sent : Call
  pub answer : Answer

-- the calls of a history on s, with their answers
unfoldable pub answered : Store → List Event → List Answered
answered s [] = []
answered s (call c ∷ es) = record { sent = c; answer = (step s c).seen.answer } ∷ answered (after step s c) es

-- of calls with their answers, the reservation-out calls, and those that were told what waited
unfoldable pub outs : List Answered → List Event
outs [] = []
outs (x ∷ xs) = add (is_out x.sent || is_attention x.answer) (call x.sent) (outs xs)

-- ---- what a block reads by that

-- block i of the data sent
unfoldable pub block_of : ℕ → List ℕ → List ℕ
block_of i out = take 512 (drop (512 * i) out)

-- what block b reads after a command that is done, where it read `old` before: its own part of what is written, the
-- block that WRITE SAME sends, zeros where it is unmapped
unfoldable pub reads_after : Command → Request → List ℕ → ℕ → List ℕ → List ℕ
reads_after (Moves Write) q out b old = cond (in_range (address_in q) (count_in q) b) (block_of (b - address_in q) out) old
reads_after (Moves WriteSame) q out b old = cond (in_range (address_in q) (count_in q) b) (block_sent q.options out) old
reads_after (Moves Unmap) q out b old = cond (names (descriptors_of q out) b) (zeros 512) old
reads_after (Moves Read) q out b old = old
reads_after (Moves Status) q out b old = old
reads_after (Tells t) q out b old = old
reads_after (Alters a) q out b old = old

unfoldable pub reads_by : Asked → List ℕ → ℕ → List ℕ → List ℕ
reads_by nothing out b old = old
reads_by (asks q) out b old = reads_after q.command q out b old

-- after a call: one that is refused changes nothing
unfoldable pub reads : Answered → ℕ → List ℕ → List ℕ
reads x b old = if_good x.answer (reads_by (asked_of x.sent.cdb) x.sent.data_out b old) old

-- after all of them: the last GOOD write or unmapping of the block decides
unfoldable pub recalled_from : List ℕ → List Answered → ℕ → List ℕ
recalled_from old [] b = old
recalled_from old (x ∷ xs) b = recalled_from (reads x b old) xs b

-- "unmapped blocks read as zeros"
unfoldable pub recalled : List Answered → ℕ → List ℕ
recalled xs b = recalled_from (zeros 512) xs b

-- n blocks from a on
unfoldable pub recalled_blocks : List Answered → ℕ → ℕ → List ℕ
recalled_blocks xs a zero = []
recalled_blocks xs a (suc n) = recalled xs a ++ recalled_blocks xs (suc a) n

-- ---- what holds of a fresh store; proofs/FromFresh proves it of every one within its bounds

pub record FromFresh (s : Store) : Type 0 where
  -- it can be used for ever
  pub usable_ever : (es : List Event) → T (usable (after_all (machine step) s es))
  -- what each block reads is a function of the calls and their answers alone
  pub blocks : (es : List Event) (b : ℕ) → read_block (after_all (machine step) s es).pool b ≡ recalled (answered s es) b
  -- so a READ returns what they say of each of its blocks, in whichever form, by whomever, and where it overlaps a WRITE or an UNMAP in part
  pub read_back : (es : List Event) (r : Call) (a : Asks Read r) → IsGood (after_all (machine step) s es) r
      → (step (after_all (machine step) s es) r).seen
      ≡ seen_of s.format Good (recalled_blocks (answered s es) (address_in a.request) (count_in a.request)) r
  -- registrations, reservation, generation and attentions are a function of the reservation-out calls and of those that are answered 13 alone: those
  -- calls, one after another, on a store with nothing in it lead to the same
  pub rights_by_outs : (es : List Event)
      → (after_all (machine step) s es).unit ≡ (after_all (machine step) (plain s.format s.unit) (outs (answered s es))).unit
