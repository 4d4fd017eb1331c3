-- `step` as the code goes through it: the tests before any command, the stages, the command's own. Callers cite these laws, and not the text of `step`.
-- Assumes nothing.
use mathlib.Core.Path.{◌≡◌, refl, ap, ◌∙◌}
use mathlib.Core.Bool.{Bool, true, false, not, ◌&&◌, true≢false, false≢true}
use mathlib.Core.List.{List, [], ◌∷◌}
use Prim.Native.Nat.{ℕ}
use lib.Dec.{T}
use Rattle.std.specs.Prelude.{Ok, Err}
use Rattle.fields.proofs.Tests.{T_false}
use Rattle.answers.specs.declared.Answer.{Answer}
use Rattle.answers.specs.declared.Answer.TheVariants.{Good, Refused, Conflict, Unusable, Short}
use Rattle.answers.specs.Answers.{number_of, is_attention}
use Rattle.answers.specs.Sense.{sense_after}
use Rattle.answers.specs.Order.{Row, ◌if◌, first, next, first_of, if_good_by, refuses}
use Rattle.answers.proofs.OrderLaws.{first_append, next_after, next_refuses}
use Rattle.forms.specs.declared.Move.TheVariants.{Read, Write, WriteSame, Unmap, Status}
use Rattle.forms.specs.declared.Command.{Command}
use Rattle.forms.specs.declared.Command.TheVariants.{Tells, Moves, Alters}
use Rattle.forms.specs.declared.Request.{Request}
use Rattle.forms.specs.Forms.{Entry, entry_of, Asked, asked_in, asked_of}
use Rattle.forms.proofs.Fields.{Fits, asked_fits}
use Rattle.store.specs.Store.{Store, Call, Result, with_unit, refused_unit, leaves, seen_of}
use Rattle.store.specs.Tell.{tell_rows}
use Rattle.store.specs.Move.{move_rows, moved}
use Rattle.store.specs.Alter.{alter_rows}
use Rattle.store.proofs.Rows.{command_quiet}
use Rattle.store.specs.Step.{call_rows, store_rows, stage_rows, command_rows, own_rows, answer_by, data_by, command_store, store_by, step_by, step}
use Rattle.reply.specs.declared.Outcome.{Outcome}
use Rattle.reply.specs.Contract.{call_of, left}
use Rattle.reply.specs.Reply.{reply_of, Served, served, serves}
use Rattle.readiness.specs.Ready.{ready_for}
use Rattle.commands.specs.Served.{asked_at, served_by, bare}
use Rattle.commands.proofs.StageLaws.{stage_refusing, stage_fields, wrong_answer, wrong_refused, asks_answer, asks_request}

-- ---- the tests before any command

rows_pass : (a b d u : Bool) (rows : List Row) → (not a && (not b && (not d && u))) ≡ true
    → first (Unusable if a ∷ Unusable if b ∷ Unusable if d ∷ Unusable if not u ∷ rows) ≡ first rows
unfolding first_of
rows_pass true b d u rows e = absurd (false≢true e)
rows_pass false true d u rows e = absurd (false≢true e)
rows_pass false false true u rows e = absurd (false≢true e)
rows_pass false false false true rows e = refl
rows_pass false false false false rows e = absurd (false≢true e)

rows_stop : (a b d u : Bool) (rows : List Row) → (not a && (not b && (not d && u))) ≡ false
    → first (Unusable if a ∷ Unusable if b ∷ Unusable if d ∷ Unusable if not u ∷ rows) ≡ Unusable
unfolding first_of
rows_stop true b d u rows e = refl
rows_stop false true d u rows e = refl
rows_stop false false true u rows e = refl
rows_stop false false false true rows e = absurd (true≢false e)
rows_stop false false false false rows e = refl

module _ (e : Entry) (s : Store) (c : Call) where
  answer_unready : ready_for s c ≡ false → answer_by e s c ≡ Unusable
  unfolding answer_by call_rows store_rows ready_for
  answer_unready h = rows_stop _ _ _ _ _ h

  answer_ready : ready_for s c ≡ true
      → answer_by e s c ≡ next (first (stage_rows e s.unit c.nexus c.cdb)) (first (own_rows (asked_in e c.cdb) s c))
  unfolding answer_by call_rows store_rows ready_for
  answer_ready h =
      rows_pass _ _ _ _ _ h
      ∙ first_append (stage_rows e s.unit c.nexus c.cdb) _ (stage_refusing e s.unit c.nexus c.cdb)

  -- the stages refuse
  answer_wrong : (a : Answer) → ready_for s c ≡ true → asked_at e s.unit c.nexus c.cdb ≡ Err a → answer_by e s c ≡ a
  answer_wrong a h w =
      answer_ready h
      ∙ next_refuses _ _ (wrong_refused e s.unit c.nexus c.cdb a w)
      ∙ wrong_answer e s.unit c.nexus c.cdb a w

  -- they let a request pass
  answer_asks : (q : Request) → ready_for s c ≡ true → asked_at e s.unit c.nexus c.cdb ≡ Ok q
      → answer_by e s c ≡ first (command_rows q.command q s c)
  unfolding own_rows
  answer_asks q h w =
      answer_ready h
      ∙ next_after _ _ (asks_answer e s.unit c.nexus c.cdb q w)
      ∙ ap (λ (x : Asked). first (own_rows x s c)) (asks_request e s.unit c.nexus c.cdb q w)

-- ---- a call that is refused before its command is looked at

-- an answer that returns no bytes and leaves the store, but what waited for the caller and was returned
refused_result : (a : Answer) (s : Store) (c : Call) → T (refuses a) → (bs : List ℕ) (done : Store)
    → left s.format (bare a (refused_unit a c.nexus s.unit)) s.pool.owners s.pool.marks s.pool.medium c.data_in (sense_after s.format a c.sense)
    ≡ record { seen = seen_of s.format a bs c; store = leaves a done (with_unit s (refused_unit a c.nexus s.unit)) }
unfolding seen_of leaves if_good_by refuses sense_after
refused_result Good s c t bs done = absurd t
refused_result (Refused x) s c t bs done = refl
refused_result Conflict s c t bs done = refl
refused_result Unusable s c t bs done = refl
refused_result Short s c t bs done = refl

module _ (s : Store) (n : ℕ) (cdb out in' sense : List ℕ) where
  step_refused : (a : Answer) → T (refuses a) → answer_by (entry_of cdb) s (call_of n cdb out in' sense) ≡ a
      → left s.format (bare a (refused_unit a n s.unit)) s.pool.owners s.pool.marks s.pool.medium in' (sense_after s.format a sense)
      ≡ step s (call_of n cdb out in' sense)
  unfolding step step_by
  step_refused a t e = rw e (refused_result a s (call_of n cdb out in' sense) t _ _)

  pub step_unready : ready_for s (call_of n cdb [] [] sense) ≡ false
      → left s.format (bare Unusable s.unit) s.pool.owners s.pool.marks s.pool.medium in' sense ≡ step s (call_of n cdb out in' sense)
  unfolding ready_for sense_after refuses refused_unit is_attention number_of
  step_unready h = step_refused Unusable tt (answer_unready (entry_of cdb) s (call_of n cdb out in' sense) h)

  module _ (h : ready_for s (call_of n cdb [] [] sense) ≡ true) where
    pub step_wrong : (a : Answer) (sense' : List ℕ) → asked_at (entry_of cdb) s.unit n cdb ≡ Err a → sense' ≡ sense_after s.format a sense
        → left s.format (bare a (refused_unit a n s.unit)) s.pool.owners s.pool.marks s.pool.medium in' sense' ≡ step s (call_of n cdb out in' sense)
    unfolding ready_for
    step_wrong a sense' w k =
        rw k
        (step_refused a
        (rw (← wrong_answer (entry_of cdb) s.unit n cdb a w) (wrong_refused (entry_of cdb) s.unit n cdb a w))
        (answer_wrong (entry_of cdb) s (call_of n cdb out in' sense) a h w))

    -- ---- a command

    module _ (q : Request) (w : asked_at (entry_of cdb) s.unit n cdb ≡ Ok q) where
      -- at most 128 blocks are moved
      pub asks_fits : Fits q
      unfolding asked_of
      asks_fits =
          asked_fits cdb q (asks_request (entry_of cdb) s.unit n cdb q w)
          (stage_fields (entry_of cdb) s.unit n cdb (asks_answer (entry_of cdb) s.unit n cdb q w))

      -- all that a call leaves, the sense with it
      abbrev sensed : Served → Result
      sensed v = record {
        seen = record {
          answer = v.reply.answer;
          returned = v.reply.returned;
          data_in = v.reply.data_in;
          sense = sense_after s.format v.reply.answer sense;
        };
        store = v.store;
      }

      -- no command looks at the CDB or the sense buffer
      unseen : (k : Command) → served_by k q s (call_of n [] out in' []) ≡ served_by k q s (call_of n cdb out in' sense)
      unfolding served_by command_rows command_store tell_rows move_rows moved alter_rows
      unseen (Tells t) = refl
      unseen (Moves Read) = refl
      unseen (Moves Write) = refl
      unseen (Moves WriteSame) = refl
      unseen (Moves Unmap) = refl
      unseen (Moves Status) = refl
      unseen (Alters a) = refl

      step_asks : sensed (served_by q.command q s (call_of n cdb out in' sense)) ≡ step s (call_of n cdb out in' sense)
      unfolding step step_by seen_of served_by serves reply_of data_by store_by ready_for refused_unit
      step_asks =
          rw (
            answer_asks (entry_of cdb) s (call_of n cdb out in' sense) q h w,
            asks_request (entry_of cdb) s.unit n cdb q w,
            T_false (is_attention (first (command_rows q.command q s (call_of n cdb out in' sense)))) (command_quiet q.command q s (call_of n cdb out in' sense)),
          )

      pub step_served : (r : Outcome) (owners marks medium data_in sense' : List ℕ)
          → served s.format r owners marks medium data_in ≡ served_by q.command q s (call_of n [] out in' []) → sense' ≡ sense_after s.format r.answer sense
          → left s.format r owners marks medium data_in sense' ≡ step s (call_of n cdb out in' sense)
      step_served r owners marks medium data_in sense' e k =
          ap (λ (l : List ℕ). left s.format r owners marks medium data_in l) k
          ∙ ap sensed (e ∙ unseen q.command)
          ∙ step_asks
