-- The one order of tests in its stages, and what a GOOD or a refusal of the whole says of each. Whoever wants to know of a stage cites these laws,
-- and not the order's text: a stage more is put in here. Assumes nothing.
use mathlib.Core.Path.{◌≡◌, refl, sym, ap, ap₂, ◌∙◌, subst}
use mathlib.Core.Bool.{Bool, true, false, not, ◌&&◌}
use mathlib.Core.List.{List, [], ◌∷◌, ◌++◌, append_assoc}
use Prim.Native.Nat.{ℕ, ◌≤◌}
use lib.Dec.{T, T_not, eqb, ltb, nltb→le}
use lib.ListN.{length}
use Rattle.fields.specs.Field.{byte}
use Rattle.fields.proofs.Tests.{not_not, not_not_intro, false→T, T_true, T_false}
use Rattle.answers.specs.declared.Answer.{Answer}
use Rattle.answers.specs.declared.Answer.TheVariants.{Good, Refused, Conflict, Unusable}
use Rattle.answers.specs.Order.{Row, ◌if◌, first, next, refuses, refusing, first_of, next_by, refusing_by}
use Rattle.answers.proofs.OrderLaws.{row_fails, row_pass, row_end, row_stop, first_append, next_after, next_refuses, next_refused, next_first, next_second, good_cases}
use Rattle.answers.specs.Sense.{sense_bytes}
use Rattle.rights.specs.declared.Rights.{Rights}
use Rattle.rights.specs.Attentions.{refusal_of}
use Rattle.forms.specs.Forms.{Entry, entry_of, Asked, nothing, asks, asked_of}
use Rattle.forms.specs.Tests.{code_rows, length_rows, field_rows}
use Rattle.forms.specs.declared.Request.{Request}
use Rattle.forms.specs.declared.Command.{Command}
use Rattle.forms.specs.declared.Command.TheVariants.{Tells, Moves, Alters}
use Rattle.forms.proofs.Table.{is_moves, moves_in, is_inquiring, inquiring, code_inquiring, other_inquiring, asked_other}
use Rattle.forms.proofs.Refusing.{code_refusing, length_refusing, field_refusing, unserved}
use Rattle.store.specs.declared.Unit.{Unit}
use Rattle.store.specs.Store.{Store, Call, usable, waiting}
use Rattle.store.specs.Step.{call_rows, store_rows, is_inquiry, due, attention_rows, guard_rows, stage_rows, own_rows, answer_by, answer_to}

-- ---- the answer of each stage

abbrev pub call_answer : ℕ → Call → Answer
call_answer format c = first (call_rows format c)

abbrev pub store_answer : Store → Answer
store_answer s = first (store_rows s)

abbrev pub code_answer : Call → Answer
code_answer c = first (code_rows (entry_of c.cdb))

abbrev pub length_answer : Call → Answer
length_answer c = first (length_rows (entry_of c.cdb) c.cdb)

abbrev pub attention_answer : Unit → Call → Answer
attention_answer u c = first (attention_rows u c.nexus c.cdb)

abbrev pub field_answer : Call → Answer
field_answer c = first (field_rows (entry_of c.cdb) c.cdb)

abbrev pub guard_answer : Unit → Call → Answer
guard_answer u c = first (guard_rows (asked_of c.cdb) u.rights c.nexus)

abbrev pub own_answer : Store → Call → Answer
own_answer s c = first (own_rows (asked_of c.cdb) s c)

-- ---- all rows before a command's own refuse

call_refusing : (format : ℕ) (c : Call) → T (refusing (call_rows format c))
unfolding call_rows refusing_by refuses
call_refusing format c = tt

store_refusing : (s : Store) → T (refusing (store_rows s))
unfolding store_rows refusing_by refuses
store_refusing s = tt

pub attention_refusing : (u : Unit) (n : ℕ) (cdb : List ℕ) → T (refusing (attention_rows u n cdb))
unfolding attention_rows refusing_by refuses
attention_refusing u n cdb = tt

pub guard_refusing : (x : Asked) (r : Rights) (n : ℕ) → T (refusing (guard_rows x r n))
unfolding guard_rows refusing_by refuses
guard_refusing nothing r n = tt
guard_refusing (asks q) r n = tt

-- ---- one stage after another

then : (xs ys : List Row) (a : Answer) → T (refusing xs) → first ys ≡ a → first (xs ++ ys) ≡ next (first xs) a
then xs ys a t e = first_append xs ys t ∙ ap (next (first xs)) e

module _ (s : Store) (c : Call) where
  -- of the stages from the code on
  abbrev staged : Answer
  staged =
      next (code_answer c)
      (next (length_answer c) (next (attention_answer s.unit c) (next (field_answer c) (next (guard_answer s.unit c) (own_answer s c)))))

  pub parts : answer_to s c ≡ next (call_answer s.format c) (next (store_answer s) staged)
  unfolding answer_to answer_by stage_rows asked_of
  parts =
      simp append_assoc
      (then (call_rows s.format c) _ _ (call_refusing s.format c)
      (then (store_rows s) _ _ (store_refusing s)
      (then (code_rows (entry_of c.cdb)) _ _ (code_refusing (entry_of c.cdb))
      (then (length_rows (entry_of c.cdb) c.cdb) _ _ (length_refusing (entry_of c.cdb) c.cdb)
      (then (attention_rows s.unit c.nexus c.cdb) _ _ (attention_refusing s.unit c.nexus c.cdb)
      (then (field_rows (entry_of c.cdb) c.cdb) _ _ (field_refusing (entry_of c.cdb) c.cdb)
      (then (guard_rows (asked_of c.cdb) s.unit.rights c.nexus) _ _ (guard_refusing (asked_of c.cdb) s.unit.rights c.nexus) refl)))))))

-- ---- a usable store is not seen before a command's own tests

usable_by : (b : Bool) → T b → first (Unusable if not b ∷ []) ≡ Good
unfolding first_of
usable_by true t = refl
usable_by false t = absurd t

usable_passes : (s : Store) → T (usable s) → store_answer s ≡ Good
unfolding store_rows
usable_passes s u = usable_by (usable s) u

pub passes_usable : (s : Store) → store_answer s ≡ Good → T (usable s)
unfolding store_rows refuses
passes_usable s e = not_not (usable s) (false→T (not (usable s)) (row_fails Unusable _ _ tt e))

-- ---- what waits is returned where it is due

module _ (u : Unit) (n : ℕ) (cdb : List ℕ) where
  pub undue_passes : T (not (due u n cdb)) → first (attention_rows u n cdb) ≡ Good
  unfolding attention_rows
  undue_passes t = row_pass (Refused (refusal_of (waiting u n))) (due u n cdb) [] (T_false _ t) ∙ row_end

  pub passes_undue : first (attention_rows u n cdb) ≡ Good → T (not (due u n cdb))
  unfolding attention_rows refuses
  passes_undue e = false→T (due u n cdb) (row_fails (Refused (refusal_of (waiting u n))) (due u n cdb) [] tt e)

  pub due_stops : T (due u n cdb) → first (attention_rows u n cdb) ≡ Refused (refusal_of (waiting u n))
  unfolding attention_rows
  due_stops t = row_stop (Refused (refusal_of (waiting u n))) (due u n cdb) [] (T_true _ t)

-- where nothing waits nothing is due; what waits is due with any command but INQUIRY, which is seen from what is asked for and from the table's row
module _ (u : Unit) (n : ℕ) where
  pub none_undue : (cdb : List ℕ) → waiting u n ≡ 0 → T (not (due u n cdb))
  unfolding due
  none_undue cdb e = rw e tt

  and_none : (b c : Bool) → T (not c) → (b && c) ≡ false
  and_none true c t = T_false c t
  and_none false c t = refl

  pub inquiry_undue : (cdb : List ℕ) → T (eqb (byte 0 cdb) 0x12) → T (not (due u n cdb))
  unfolding due is_inquiry
  inquiry_undue cdb t = rw (and_none (not (eqb (waiting u n) 0)) (not (eqb (byte 0 cdb) 0x12)) (not_not_intro (eqb (byte 0 cdb) 0x12) t)) tt

  pub asked_due : (cdb : List ℕ) (q : Request) → asked_of cdb ≡ asks q → T (not (is_inquiring q.command)) → due u n cdb ≡ not (eqb (waiting u n) 0)
  unfolding due is_inquiry
  asked_due cdb q e t = rw (T_false (eqb (byte 0 cdb) 0x12) (asked_other cdb q e t)) (and_true (not (eqb (waiting u n) 0)))
    where
      and_true : (b : Bool) → (b && true) ≡ b
      and_true true = refl
      and_true false = refl

  -- neither a command on the blocks nor one that alters rights is INQUIRY
  pub moves_due : (cdb : List ℕ) → T (moves_in (asked_of cdb)) → due u n cdb ≡ not (eqb (waiting u n) 0)
  unfolding moves_in is_moves is_inquiring
  moves_due cdb t = go (asked_of cdb) refl t
    where
      other : (k : Command) → T (is_moves k) → T (not (is_inquiring k))
      other (Tells x) h = absurd h
      other (Moves m) h = tt
      other (Alters a) h = absurd h

      go : (x : Asked) → asked_of cdb ≡ x → T (moves_in x) → due u n cdb ≡ not (eqb (waiting u n) 0)
      go nothing e h = absurd h
      go (asks q) e h = asked_due cdb q e (other q.command h)

  pub entry_due : (cdb cdb' : List ℕ) → entry_of cdb ≡ entry_of cdb' → due u n cdb ≡ due u n cdb'
  unfolding due is_inquiry
  entry_due cdb cdb' e = ap (λ (b : Bool). not (eqb (waiting u n) 0) && not b) (go (eqb (byte 0 cdb) 0x12) (eqb (byte 0 cdb') 0x12) (code_inquiring cdb) (other_inquiring cdb) (code_inquiring cdb') (other_inquiring cdb'))
    where
      go : (b b' : Bool) → (T b → T (inquiring (entry_of cdb))) → (T (not b) → T (not (inquiring (entry_of cdb))))
          → (T b' → T (inquiring (entry_of cdb'))) → (T (not b') → T (not (inquiring (entry_of cdb')))) → b ≡ b'
      go true true f g f' g' = refl
      go false false f g f' g' = refl
      go true false f g f' g' = absurd (T_not (inquiring (entry_of cdb')) (g' tt) (subst (λ (x : Entry). T (inquiring x)) e (f tt)))
      go false true f g f' g' = absurd (T_not (inquiring (entry_of cdb)) (g tt) (subst (λ (x : Entry). T (inquiring x)) (sym e) (f' tt)))

-- ---- where who calls, the buffers and the store are right

module _ (s : Store) (c : Call) (call : call_answer s.format c ≡ Good) (store : T (usable s)) where
  -- the code decides, and what is behind it
  pub from_code : answer_to s c ≡ staged s c
  from_code = parts s c ∙ next_after (call_answer s.format c) _ call ∙ next_after (store_answer s) _ (usable_passes s store)

  -- then what waits, and what is behind it
  pub from_attention : code_answer c ≡ Good → length_answer c ≡ Good
      → answer_to s c ≡ next (attention_answer s.unit c) (next (field_answer c) (next (guard_answer s.unit c) (own_answer s c)))
  from_attention code length = from_code ∙ next_after (code_answer c) _ code ∙ next_after (length_answer c) _ length

  -- then the fields, and what is behind them
  pub from_fields : code_answer c ≡ Good → length_answer c ≡ Good → attention_answer s.unit c ≡ Good
      → answer_to s c ≡ next (field_answer c) (next (guard_answer s.unit c) (own_answer s c))
  from_fields code length attention = from_attention code length ∙ next_after (attention_answer s.unit c) _ attention

-- ---- where nothing before the guard refuses

pub record Cleared (s : Store) (c : Call) : Type 0 where
  pub call : call_answer s.format c ≡ Good
  pub store : T (usable s)
  pub code : code_answer c ≡ Good
  pub length : length_answer c ≡ Good
  pub attention : attention_answer s.unit c ≡ Good
  pub fields : field_answer c ≡ Good

-- the guard and the command's own tests decide
pub cleared : (s : Store) (c : Call) → Cleared s c → answer_to s c ≡ next (guard_answer s.unit c) (own_answer s c)
cleared s c p = from_fields s c p.call p.store p.code p.length p.attention ∙ next_after (field_answer c) _ p.fields

-- a call that is right by itself: who calls, the buffers, and the code, length and fields of the CDB
pub record Righted (format : ℕ) (c : Call) : Type 0 where
  pub call : call_answer format c ≡ Good
  pub code : code_answer c ≡ Good
  pub length : length_answer c ≡ Good
  pub fields : field_answer c ≡ Good

pub itself_righted : (format : ℕ) (c : Call)
    → first (call_rows format c ++ (code_rows (entry_of c.cdb) ++ (length_rows (entry_of c.cdb) c.cdb ++ field_rows (entry_of c.cdb) c.cdb))) ≡ Good
    → Righted format c
itself_righted format c e =
    let e₀ : next (call_answer format c) (next (code_answer c) (next (length_answer c) (field_answer c))) ≡ Good =
    sym
    (then (call_rows format c) _ _ (call_refusing format c)
    (then (code_rows (entry_of c.cdb)) _ _ (code_refusing (entry_of c.cdb))
    (first_append (length_rows (entry_of c.cdb) c.cdb) _ (length_refusing (entry_of c.cdb) c.cdb))))
    ∙ e in
    let e₁ = next_second (call_answer format c) _ e₀ in
    let e₂ = next_second (code_answer c) _ e₁ in
    record {
      call = next_first (call_answer format c) _ e₀;
      code = next_first (code_answer c) _ e₁;
      length = next_first (length_answer c) _ e₂;
      fields = next_second (length_answer c) _ e₂;
    }

-- and nothing is due
pub itself_cleared : (s : Store) (c : Call) → T (usable s) → T (not (due s.unit c.nexus c.cdb))
    → first (call_rows s.format c ++ (code_rows (entry_of c.cdb) ++ (length_rows (entry_of c.cdb) c.cdb ++ field_rows (entry_of c.cdb) c.cdb))) ≡ Good
    → Cleared s c
itself_cleared s c u d e =
    let r = itself_righted s.format c e in
    record {
      call = r.call;
      store = u;
      code = r.code;
      length = r.length;
      attention = undue_passes s.unit c.nexus c.cdb d;
      fields = r.fields;
    }

-- "Testing room before the conflict, which tells an outsider how full the pool is": a conflict is answered whatever the command's own tests say
pub conflict_first : (s : Store) (c : Call) → Cleared s c → guard_answer s.unit c ≡ Conflict → answer_to s c ≡ Conflict
unfolding refuses
conflict_first s c p e = cleared s c p ∙ ap (λ (a : Answer). next a (own_answer s c)) e ∙ next_refuses Conflict (own_answer s c) tt

-- ---- what a GOOD says

module _ (s : Store) (c : Call) (good : answer_to s c ≡ Good) where
  past_call : next (store_answer s) (staged s c) ≡ Good
  past_call = next_second (call_answer s.format c) _ (sym (parts s c) ∙ good)

  past_store : staged s c ≡ Good
  past_store = next_second (store_answer s) _ past_call

  past_code : next (length_answer c) (next (attention_answer s.unit c) (next (field_answer c) (next (guard_answer s.unit c) (own_answer s c)))) ≡ Good
  past_code = next_second (code_answer c) _ past_store

  past_length : next (attention_answer s.unit c) (next (field_answer c) (next (guard_answer s.unit c) (own_answer s c))) ≡ Good
  past_length = next_second (length_answer c) _ past_code

  past_attention : next (field_answer c) (next (guard_answer s.unit c) (own_answer s c)) ≡ Good
  past_attention = next_second (attention_answer s.unit c) _ past_length

  past_fields : next (guard_answer s.unit c) (own_answer s c) ≡ Good
  past_fields = next_second (field_answer c) _ past_attention

  pub good_cleared : Cleared s c
  good_cleared = record {
    call = next_first (call_answer s.format c) _ (sym (parts s c) ∙ good);
    store = passes_usable s (next_first (store_answer s) _ past_call);
    code = next_first (code_answer c) _ past_store;
    length = next_first (length_answer c) _ past_code;
    attention = next_first (attention_answer s.unit c) _ past_length;
    fields = next_first (field_answer c) _ past_attention;
  }

  pub good_guard : guard_answer s.unit c ≡ Good
  good_guard = next_first (guard_answer s.unit c) _ past_fields

  pub good_own : own_answer s c ≡ Good
  good_own = next_second (guard_answer s.unit c) _ past_fields

pub call_nexus : (format : ℕ) (c : Call) → call_answer format c ≡ Good → c.nexus ≤ 15
unfolding call_rows refuses
call_nexus format c e = nltb→le 15 c.nexus (false→T (ltb 15 c.nexus) (row_fails Unusable _ _ tt e))

-- ---- what a refusal says

-- a call that the guard refuses is refused
pub guard_refused : (s : Store) (c : Call) → T (refuses (guard_answer s.unit c)) → T (refuses (answer_to s c))
guard_refused s c t =
    rw (parts s c, next_refuses (guard_answer s.unit c) (own_answer s c) t)
    (next_refused (call_answer s.format c) _ (next_refused (store_answer s) _ (next_refused (code_answer c) _ (next_refused (length_answer c) _ (next_refused (attention_answer s.unit c) _ (next_refused (field_answer c) _ t))))))

-- so is one to which what waits is returned
pub attention_refused : (s : Store) (c : Call) → T (due s.unit c.nexus c.cdb) → T (refuses (answer_to s c))
unfolding refuses
attention_refused s c t =
    rw (parts s c, due_stops s.unit c.nexus c.cdb t, next_refuses (Refused (refusal_of (waiting s.unit c.nexus))) (next (field_answer c) (next (guard_answer s.unit c) (own_answer s c))) tt)
    (next_refused (call_answer s.format c) _ (next_refused (store_answer s) _ (next_refused (code_answer c) _ (next_refused (length_answer c) _ tt))))

-- a call for nothing that the table serves is refused
pub unserved_refused : (s : Store) (c : Call) → asked_of c.cdb ≡ nothing → T (refuses (answer_to s c))
unfolding asked_of
unserved_refused s c e =
    good_cases (answer_to s c)
    (λ g. absurd (unserved (entry_of c.cdb) c.cdb e (good_cleared s c g).code (good_cleared s c g).fields)) (λ t. t)

call_eleven : (x y z : Bool) → next (first (Unusable if x ∷ Unusable if y ∷ Unusable if z ∷ [])) Unusable ≡ Unusable
unfolding first_of next_by refuses
call_eleven true y z = refl
call_eleven false true z = refl
call_eleven false false true = refl
call_eleven false false false = refl

-- "11 … slots or capacity out of bounds, medium not 512 x slots bytes, invalid state"
pub unusable_answer : (s : Store) (c : Call) → T (not (usable s)) → answer_to s c ≡ Unusable
unfolding call_rows store_rows refuses
unusable_answer s c t =
    parts s c
    ∙ ap (λ (a : Answer). next (call_answer s.format c) (next a (staged s c))) (row_stop Unusable _ _ (T_true (not (usable s)) t))
    ∙ ap (next (call_answer s.format c)) (next_refuses Unusable (staged s c) tt)
    ∙ call_eleven (ltb 15 c.nexus) (eqb (length c.cdb) 0) (ltb (length c.sense) (sense_bytes s.format))

-- ---- two stores, one call

-- the tests before a command's own see the format and the unit's record alone: usable stores that agree on them answer alike, if the command's own tests
-- do where nothing is due and the guard lets them be made
module _ (s t : Store) (c : Call) (u : T (usable s)) (v : T (usable t)) (f : s.format ≡ t.format) (e : s.unit ≡ t.unit)
    (h : attention_answer s.unit c ≡ Good → guard_answer s.unit c ≡ Good → own_answer s c ≡ own_answer t c) where
  -- what is behind a stage that refuses is not seen
  behind : (a b d : Answer) → (a ≡ Good → b ≡ d) → next a b ≡ next a d
  behind a b d k = good_cases a (λ g. ap (next a) (k g)) (λ r. next_refuses a b r ∙ sym (next_refuses a d r))

  past_attention_alike : next (attention_answer s.unit c) (next (field_answer c) (next (guard_answer s.unit c) (own_answer s c)))
      ≡ next (attention_answer s.unit c) (next (field_answer c) (next (guard_answer s.unit c) (own_answer t c)))
  past_attention_alike =
      behind (attention_answer s.unit c) _ _ (λ w. ap (next (field_answer c)) (behind (guard_answer s.unit c) (own_answer s c) (own_answer t c) (h w)))

  staged_alike : staged s c ≡ staged t c
  staged_alike =
      ap (λ (a : Answer). next (code_answer c) (next (length_answer c) a)) past_attention_alike
      ∙ ap
      (λ (x : Unit). next (code_answer c) (next (length_answer c) (next (attention_answer x c) (next (field_answer c) (next (guard_answer x c) (own_answer t c)))))) e

  pub answers_alike : answer_to s c ≡ answer_to t c
  answers_alike =
      parts s c
      ∙ ap₂ (λ (a b : Answer). next (call_answer s.format c) (next a b)) (usable_passes s u ∙ sym (usable_passes t v)) staged_alike
      ∙ ap (λ (format : ℕ). next (call_answer format c) (next (store_answer t) (staged t c))) f
      ∙ sym (parts t c)

-- ---- one store, two calls

-- the stages have the same rows
pub record SameRows (s : Store) (c d : Call) : Type 0 where
  pub call : call_rows s.format c ≡ call_rows s.format d
  pub code : code_rows (entry_of c.cdb) ≡ code_rows (entry_of d.cdb)
  pub length : length_rows (entry_of c.cdb) c.cdb ≡ length_rows (entry_of d.cdb) d.cdb
  pub attention : attention_rows s.unit c.nexus c.cdb ≡ attention_rows s.unit d.nexus d.cdb
  pub fields : field_rows (entry_of c.cdb) c.cdb ≡ field_rows (entry_of d.cdb) d.cdb
  pub guard : guard_rows (asked_of c.cdb) s.unit.rights c.nexus ≡ guard_rows (asked_of d.cdb) s.unit.rights d.nexus
  pub own : own_rows (asked_of c.cdb) s c ≡ own_rows (asked_of d.cdb) s d

pub same_answer : (s : Store) (c d : Call) → SameRows s c d → answer_to s c ≡ answer_to s d
unfolding answer_to answer_by stage_rows asked_of
same_answer s c d e = rw (e.call, e.code, e.length, e.attention, e.fields, e.guard, e.own)
