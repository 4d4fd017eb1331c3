-- Which answers the rows of the order have, stage by stage.
-- Assumes nothing.
use mathlib.Core.Bool.{Bool, true, false, not, ◌&&◌}
use mathlib.Core.List.{List, [], ◌∷◌, ◌++◌}
use Prim.Native.Nat.{ℕ, ◌+◌, ◌*◌, ◌-◌}
use lib.Dec.{T, eqb, ltb, leb}
use Rattle.std.specs.Prelude.{Some, None}
use Rattle.fields.specs.Bits.{Bits, within, first_byte, top_bit, bit_count}
use Rattle.fields.proofs.Tests.{both}
use Rattle.answers.specs.declared.Refusal.{Refusal}
use Rattle.answers.specs.declared.Refusal.TheVariants.{OutOfRange, ListLength, NoPlace, OtherType, NoRoom}
use Rattle.answers.specs.declared.Answer.{Answer}
use Rattle.answers.specs.declared.Answer.TheVariants.{Good, Refused, Conflict, Unusable, Short}
use Rattle.answers.specs.Answers.{codes_of, number_of, is_attention, not_listed, invalid_field, list_length, list_field, no_place, other_type}
use Rattle.answers.specs.Order.{Row, ◌if◌, first, next, refuses, refusing, first_of, refusing_by}
use Rattle.answers.proofs.OrderLaws.{next_after, next_refuses, good_cases}
use Rattle.pool.specs.Pool.{Pool}
use Rattle.rights.specs.declared.Rights.{Rights}
use Rattle.rights.specs.declared.Action.{Action}
use Rattle.rights.specs.declared.Action.TheVariants.{Register, Reserve, Release, Clear, Preempt, RegisterIgnoring}
use Rattle.rights.specs.declared.Parameters.{Parameters}
use Rattle.rights.specs.Actions.{service_key_bits, flags_byte, register_flags, flag_rows, action_rows, decision_rows}
use Rattle.rights.specs.Attentions.{refusal_of}
use Rattle.descriptors.specs.Descriptors.{data_length_bits}
use Rattle.forms.specs.declared.Move.{Move}
use Rattle.forms.specs.declared.Move.TheVariants.{Read, Write, WriteSame, Unmap, Status}
use Rattle.forms.specs.declared.Command.{Command}
use Rattle.forms.specs.declared.Command.TheVariants.{Tells, Moves, Alters}
use Rattle.forms.specs.declared.Request.{Request}
use Rattle.forms.specs.Forms.{Entry, Asked, nothing, asks}
use Rattle.forms.specs.Tests.{Check, code_rows, length_rows, check_rows, checks_of, field_rows}
use Rattle.store.specs.declared.Unit.{Unit}
use Rattle.store.specs.Store.{Store, Call, waiting}
use Rattle.store.specs.Tell.{tell_rows}
use Rattle.store.specs.Move.{read_rows, write_rows, same_rows, unmap_rows, status_rows, move_rows}
use Rattle.store.specs.Alter.{parameters_of, alter_rows}
use Rattle.store.specs.Step.{call_rows, store_rows, attention_rows, guard_rows, command_rows, own_rows}

-- ---- what holds of the answer of every row, and of GOOD, holds of what is answered

unfoldable pub Each : (Answer → Type 0) → List Row → Type 0
Each Q [] = T true
Each Q ((a if b) ∷ rows) = Q a × Each Q rows

module _ (Q : Answer → Type 0) where
  each_append : (xs ys : List Row) → Each Q xs → Each Q ys → Each Q (xs ++ ys)
  unfolding Each
  each_append [] ys h k = k
  each_append ((a if b) ∷ xs) ys h k = (h.0, each_append xs ys h.1 k)

  pub first_is : (rows : List Row) → Q Good → Each Q rows → Q (first rows)
  unfolding Each first_of
  first_is [] g h = g
  first_is ((a if true) ∷ rows) g h = h.0
  first_is ((a if false) ∷ rows) g h = first_is rows g h.1

  pub next_is : (a b : Answer) → Q a → Q b → Q (next a b)
  next_is a b p q = good_cases a (λ g. rw (next_after a b g) q) (λ r. rw (next_refuses a b r) p)

pub each_refusing : (rows : List Row) → Each (λ a. T (refuses a)) rows → T (refusing rows)
unfolding Each refusing_by
each_refusing [] h = tt
each_refusing ((a if b) ∷ rows) h = both (refuses a) (refusing rows) h.0 (each_refusing rows h.1)

-- answers of some kind, as those with one number: rows that have none of them
pub none : (P : Answer → Bool) (rows : List Row) → T (not (P Good)) → Each (λ a. T (not (P a))) rows → T (not (P (first rows)))
none P rows good e = first_is (λ a. T (not (P a))) rows good e

-- ---- rows before the fields

module _ (Q : Answer → Type 0) where
  pub call_each : (format : ℕ) (c : Call) → Q Unusable → Each Q (call_rows format c)
  unfolding call_rows Each
  call_each format c u = (u, (u, (u, tt)))

  pub store_each : (s : Store) → Q Unusable → Each Q (store_rows s)
  unfolding store_rows Each
  store_each s u = (u, tt)

  pub code_each : (e : Entry) → Q not_listed → Each Q (code_rows e)
  unfolding code_rows Each
  code_each e u = (u, tt)

  pub length_each : (e : Entry) (cdb : List ℕ) → Q Unusable → Each Q (length_rows e cdb)
  unfolding length_rows Each
  length_each (Some code) cdb u = (u, tt)
  length_each None cdb u = tt

  pub attention_each : (u : Unit) (n : ℕ) (cdb : List ℕ) → ((x : ℕ) → Q (Refused (refusal_of x))) → Each Q (attention_rows u n cdb)
  unfolding attention_rows Each
  attention_each u n cdb h = (h (waiting u n), tt)

  pub guard_each : (x : Asked) (r : Rights) (n : ℕ) → Q Conflict → Each Q (guard_rows x r n)
  unfolding guard_rows Each
  guard_each nothing r n u = tt
  guard_each (asks q) r n u = (u, tt)

  -- ---- the fields

  pub check_each : (ks : List Check) (cdb : List ℕ) → ((b : Bits) → Q (invalid_field b)) → Each Q (check_rows ks cdb)
  unfolding check_rows Each
  check_each [] cdb u = tt
  check_each (k ∷ ks) cdb u = (u k.bits, check_each ks cdb u)

  pub field_each : (e : Entry) (cdb : List ℕ) → ((b : Bits) → Q (invalid_field b)) → Each Q (field_rows e cdb)
  unfolding field_rows
  field_each e cdb u = check_each (checks_of e) cdb u

-- ---- a command's own tests

-- a place within so many bytes, for which sense has room
unfoldable pub fits : ℕ → ℕ → ℕ → ℕ → Bool
fits long at top n = leb top 7 && (ltb at 0x1_0000 && leb (8 * at + (7 - top) + n) (8 * long))

-- every field of a list that is named stands in its first bytes
abbrev pub named_bytes : ℕ
named_bytes = 24

unfoldable pub says : ℕ → Answer → Bool
says n a = eqb (number_of a) n

-- what a rule must hold of, to hold of all rows of PERSISTENT RESERVE OUT
pub record AlterAnswers (Q : Answer → Type 0) : Type 0 where
  pub short : Q Short
  pub conflict : Q Conflict
  pub no_length : Q list_length
  pub no_place_law : Q no_place
  pub other_type_law : Q other_type
  pub named : (b : Bits) → T (fits named_bytes (first_byte b) (top_bit b) (bit_count b)) → Q (list_field b)

module _ (Q : Answer → Type 0) (w : AlterAnswers Q) where
  flags_each : (o : Parameters) → Each Q (register_flags o)
  unfolding register_flags Each fits first_byte top_bit bit_count
  flags_each o = (w.named (within flags_byte 3 1) tt, (w.named (within flags_byte 2 1) tt, (w.named (within flags_byte 0 1) tt, tt)))

  actions_each : (a : Action) (r : Rights) (n : ℕ) (o : Parameters) → Each Q (decision_rows a r n o)
  unfolding decision_rows flag_rows action_rows Each fits first_byte top_bit bit_count
  actions_each Register r n o = each_append Q (register_flags o) _ (flags_each o) (w.conflict, (w.no_place_law, tt))
  actions_each Reserve r n o = (w.conflict, (w.conflict, tt))
  actions_each Release r n o = (w.conflict, (w.other_type_law, tt))
  actions_each Clear r n o = (w.conflict, tt)
  actions_each Preempt r n o = (w.conflict, (w.named service_key_bits tt, (w.conflict, tt)))
  actions_each RegisterIgnoring r n o = each_append Q (register_flags o) _ (flags_each o) (w.conflict, (w.no_place_law, tt))

  pub alter_each : (a : Action) (q : Request) (r : Rights) (n : ℕ) (data_out : List ℕ) → Each Q (alter_rows a q r n data_out)
  unfolding alter_rows Each
  alter_each a q r n data_out = (w.no_length, (w.short, actions_each a r n (parameters_of q data_out)))

-- and of all rows of a command's own
pub record OwnAnswers (Q : Answer → Type 0) : Type 0 where
  pub short : Q Short
  pub conflict : Q Conflict
  pub nowhere : (r : Refusal) → T (not (says 2 (Refused r))) → T (not (says 5 (Refused r))) → T (not (says 13 (Refused r))) → Q (Refused r)
  pub named : (b : Bits) → T (fits named_bytes (first_byte b) (top_bit b) (bit_count b)) → Q (list_field b)

module _ (Q : Answer → Type 0) (w : OwnAnswers Q) where
  moves_each : (m : Move) (q : Request) (capacity : ℕ) (p : Pool) (c : Call) → Each Q (move_rows m q capacity p c)
  unfolding move_rows read_rows write_rows same_rows unmap_rows status_rows Each says number_of codes_of fits first_byte top_bit bit_count
  moves_each Read q capacity p c = (w.nowhere (OutOfRange _) tt tt tt, (w.short, tt))
  moves_each Write q capacity p c = (w.nowhere (OutOfRange _) tt tt tt, (w.short, (w.nowhere (NoRoom _) tt tt tt, tt)))
  moves_each WriteSame q capacity p c = (w.nowhere (OutOfRange _) tt tt tt, (w.short, (w.nowhere (NoRoom _) tt tt tt, tt)))
  moves_each Unmap q capacity p c = (w.nowhere ListLength tt tt tt, (w.short, (w.named data_length_bits tt, (w.nowhere (OutOfRange _) tt tt tt, tt))))
  moves_each Status q capacity p c = (w.nowhere (OutOfRange _) tt tt tt, (w.short, tt))

  pub command_each : (k : Command) (q : Request) (s : Store) (c : Call) → Each Q (command_rows k q s c)
  unfolding command_rows tell_rows Each says number_of codes_of
  command_each (Tells t) q s c = (w.short, tt)
  command_each (Moves m) q s c = moves_each m q s.unit.capacity s.pool c
  command_each (Alters a) q s c =
      alter_each Q
      (record {
        short = w.short;
        conflict = w.conflict;
        no_length = w.nowhere ListLength tt tt tt;
        no_place_law = w.nowhere NoPlace tt tt tt;
        other_type_law = w.nowhere OtherType tt tt tt;
        named = w.named;
      })
      a q s.unit.rights c.nexus c.data_out

  pub own_each : (x : Asked) (s : Store) (c : Call) → Each Q (own_rows x s c)
  unfolding own_rows Each
  own_each nothing s c = tt
  own_each (asks q) s c = command_each q.command q s c

-- none of them is GOOD
pub own_refusing : (x : Asked) (s : Store) (c : Call) → T (refusing (own_rows x s c))
unfolding refuses
own_refusing x s c =
    each_refusing _ (own_each (λ a. T (refuses a)) (record { short = tt; conflict = tt; nowhere = λ r t u v. tt; named = λ b t. tt }) x s c)

-- and none returns what waits
pub command_quiet : (k : Command) (q : Request) (s : Store) (c : Call) → T (not (is_attention (first (command_rows k q s c))))
unfolding is_attention says number_of codes_of
command_quiet k q s c =
    none is_attention _ tt
    (command_each _ (record { short = tt; conflict = tt; nowhere = λ r t u v. v; named = λ b t. tt }) k q s c)
