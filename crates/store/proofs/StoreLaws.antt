-- Laws of `step` that its reader may want to see first: what a call leaves, and which command sees and changes what.
-- Assumes nothing.
use mathlib.Core.Path.{◌≡◌, refl, ap, ap₂, ◌∙◌}
use mathlib.Core.Bool.{Bool, true, false, not, cond}
use Prim.Native.Nat.{ℕ}
use lib.Dec.{T}
use Rattle.answers.specs.declared.Answer.{Answer}
use Rattle.answers.specs.declared.Answer.TheVariants.{Good, Refused, Conflict, Unusable, Short}
use Rattle.answers.specs.Answers.{is_attention}
use Rattle.answers.specs.Order.{first, if_good_by, refuses}
use Rattle.answers.proofs.OrderLaws.{row_stop, if_good_law, if_refused, good_cases}
use Rattle.pool.specs.Pool.{Pool}
use Rattle.rights.specs.declared.Rights.{Rights}
use Rattle.rights.specs.declared.Action.{Action}
use Rattle.rights.specs.Actions.{acted}
use Rattle.rights.proofs.AttentionLaws.{notified_still}
use Rattle.forms.specs.declared.Command.{Command}
use Rattle.forms.specs.declared.Command.TheVariants.{Tells, Moves, Alters}
use Rattle.forms.specs.declared.Request.{Request}
use Rattle.forms.specs.Forms.{Asked, nothing, asks, asked_of}
use Rattle.forms.proofs.Table.{is_moves, is_alters, moves_in, alters_in}
use Rattle.store.specs.declared.Unit.{Unit}
use Rattle.store.specs.Store.{Store, Call, with_attentions, with_unit, relieved, enacted, refused_unit, leaves, seen_of}
use Rattle.store.specs.Tell.{told, tell_rows}
use Rattle.store.specs.Alter.{parameters_of, alter_rows}
use Rattle.store.specs.Conflict.{conflict}
use Rattle.store.specs.Step.{guard_rows, command_rows, own_rows, command_data, data_by, command_store, store_by, step_by, step, answer_to}

-- "Testing room before the conflict, which tells an outsider how full the pool is": the guard sees the rights alone, and no block or mapping
pub guard_stops : (q : Request) (r : Rights) (n : ℕ) → conflict r n q.command ≡ true → first (guard_rows (asks q) r n) ≡ Conflict
unfolding guard_rows
guard_stops q r n e = row_stop Conflict _ _ e

-- a store is its format, its unit's record and its pool
pub store_is : (s t : Store) → s.format ≡ t.format → s.unit ≡ t.unit → s.pool ≡ t.pool → s ≡ t
store_is s t f u p =
    ap₂ (λ (x : ℕ) (y : Unit). record { format = x; unit = y; pool = s.pool }) f u
    ∙ ap (λ (z : Pool). record { format = t.format; unit = t.unit; pool = z }) p

-- ---- a call by its answer and by what is asked for

module _ (s : Store) (c : Call) where
  pub step_answer : (step s c).seen.answer ≡ answer_to s c
  unfolding step step_by seen_of answer_to
  step_answer = refl

  pub step_seen : (step s c).seen ≡ seen_of s.format (answer_to s c) (data_by (asked_of c.cdb) s) c
  unfolding step step_by answer_to asked_of
  step_seen = refl

  -- what a refusal leaves: all, but the attention that it returns
  abbrev pub refused_store : Store
  refused_store = with_unit s (refused_unit (answer_to s c) c.nexus s.unit)

  pub step_store : (step s c).store ≡ leaves (answer_to s c) (store_by (asked_of c.cdb) s c) refused_store
  unfolding step step_by answer_to asked_of
  step_store = refl

-- ---- what an answer leaves

pub leaves_good : (a : Answer) (done s : Store) → a ≡ Good → leaves a done s ≡ done
unfolding leaves
leaves_good a done s e = if_good_law a done s e

pub leaves_refused : (a : Answer) (done s : Store) → T (refuses a) → leaves a done s ≡ s
unfolding leaves
leaves_refused a done s t = if_refused a done s t

-- what holds between two stores before and after holds between what is left of them
pub leaves_both : (R : Store → Store → Type 0) (a : Answer) (done s done' s' : Store) → R done done' → R s s' → R (leaves a done s) (leaves a done' s')
unfolding leaves if_good_by refuses
leaves_both R Good done s done' s' x y = x
leaves_both R (Refused n) done s done' s' x y = y
leaves_both R Conflict done s done' s' x y = y
leaves_both R Unusable done s done' s' x y = y
leaves_both R Short done s done' s' x y = y

-- the store once what waited for the caller was returned
abbrev pub relieved_store : Store → Call → Store
relieved_store s c = with_unit s (relieved s.unit c.nexus)

refused_ways : (P : Unit → Type 0) (a : Answer) (n : ℕ) (u : Unit) → P u → (T (is_attention a) → P (relieved u n)) → P (refused_unit a n u)
unfolding refused_unit
refused_ways P a n u kept told = go (is_attention a) told
  where
    go : (b : Bool) → (T b → P (relieved u n)) → P (cond b (relieved u n) u)
    go true h = h tt
    go false h = kept

-- what holds of the store before a call, of what the call does where it is GOOD, and of the store once it returned what waited, holds of what it leaves
pub step_ways : (P : Store → Type 0) (s : Store) (c : Call) → (answer_to s c ≡ Good → P (store_by (asked_of c.cdb) s c)) → P s
    → (T (is_attention (answer_to s c)) → P (relieved_store s c)) → P (step s c).store
step_ways P s c done kept told =
    rw (step_store s c) (good_cases (answer_to s c)
    (λ g. rw (leaves_good (answer_to s c) (store_by (asked_of c.cdb) s c) (refused_store s c) g) (done g))
    (λ t. rw (leaves_refused (answer_to s c) (store_by (asked_of c.cdb) s c) (refused_store s c) t)
    (refused_ways (λ u. P (with_unit s u)) (answer_to s c) c.nexus s.unit kept told)))

-- ---- a command that moves nothing sees the unit's record alone

pub command_rows_law : (k : Command) (q : Request) (s t : Store) (c : Call) → T (not (is_moves k)) → s.unit ≡ t.unit → command_rows k q s c ≡ command_rows k q t c
unfolding command_rows is_moves
command_rows_law (Tells x) q s t c h e = ap (λ (u : Unit). tell_rows x q u c.data_in) e
command_rows_law (Moves m) q s t c h e = absurd h
command_rows_law (Alters a) q s t c h e = ap (λ (u : Unit). alter_rows a q u.rights c.nexus c.data_out) e

pub unit_rows : (x : Asked) (s t : Store) (c : Call) → T (not (moves_in x)) → s.unit ≡ t.unit → own_rows x s c ≡ own_rows x t c
unfolding own_rows moves_in
unit_rows nothing s t c h e = refl
unit_rows (asks q) s t c h e = command_rows_law q.command q s t c h e

pub command_data_law : (k : Command) (q : Request) (s t : Store) → T (not (is_moves k)) → s.unit ≡ t.unit → command_data k q s ≡ command_data k q t
unfolding command_data is_moves
command_data_law (Tells x) q s t h e = ap (λ (u : Unit). told x q u) e
command_data_law (Moves m) q s t h e = absurd h
command_data_law (Alters a) q s t h e = refl

pub unit_data : (x : Asked) (s t : Store) → T (not (moves_in x)) → s.unit ≡ t.unit → data_by x s ≡ data_by x t
unfolding data_by moves_in
unit_data nothing s t h e = refl
unit_data (asks q) s t h e = command_data_law q.command q s t h e

-- an action that leaves the rights leaves the unit's record: it tells nobody anything
pub enacted_still : (a : Action) (n : ℕ) (u : Unit) → enacted a n u u.rights ≡ u
unfolding enacted
enacted_still a n u = ap (with_attentions u) (notified_still u.rights a n u.attentions)

-- ---- who changes what

-- what becomes of the unit's record is seen from it alone
pub command_unit : (k : Command) (q : Request) (s t : Store) (c : Call) → s.unit ≡ t.unit → (command_store k q s c).unit ≡ (command_store k q t c).unit
unfolding command_store
command_unit (Tells x) q s t c e = e
command_unit (Moves m) q s t c e = e
command_unit (Alters a) q s t c e = ap (λ (u : Unit). enacted a c.nexus u (acted a u.rights c.nexus (parameters_of q c.data_out))) e

pub unit_by : (x : Asked) (s t : Store) (c : Call) → s.unit ≡ t.unit → (store_by x s c).unit ≡ (store_by x t c).unit
unfolding store_by
unit_by nothing s t c e = e
unit_by (asks q) s t c e = command_unit q.command q s t c e

-- only a command that alters changes the unit's record
command_keeps_unit : (k : Command) (q : Request) (s : Store) (c : Call) → T (not (is_alters k)) → (command_store k q s c).unit ≡ s.unit
unfolding command_store is_alters
command_keeps_unit (Tells x) q s c h = refl
command_keeps_unit (Moves m) q s c h = refl
command_keeps_unit (Alters a) q s c h = absurd h

pub unit_left : (x : Asked) (s : Store) (c : Call) → T (not (alters_in x)) → (store_by x s c).unit ≡ s.unit
unfolding store_by alters_in
unit_left nothing s c h = refl
unit_left (asks q) s c h = command_keeps_unit q.command q s c h

-- only a command that moves changes the pool
command_keeps_pool : (k : Command) (q : Request) (s : Store) (c : Call) → T (not (is_moves k)) → (command_store k q s c).pool ≡ s.pool
unfolding command_store is_moves
command_keeps_pool (Tells x) q s c h = refl
command_keeps_pool (Moves m) q s c h = absurd h
command_keeps_pool (Alters a) q s c h = refl

pub pool_left : (x : Asked) (s : Store) (c : Call) → T (not (moves_in x)) → (store_by x s c).pool ≡ s.pool
unfolding store_by moves_in
pool_left nothing s c h = refl
pool_left (asks q) s c h = command_keeps_pool q.command q s c h

-- no command changes the format
command_keeps_format : (k : Command) (q : Request) (s : Store) (c : Call) → (command_store k q s c).format ≡ s.format
unfolding command_store
command_keeps_format (Tells x) q s c = refl
command_keeps_format (Moves m) q s c = refl
command_keeps_format (Alters a) q s c = refl

pub format_left : (x : Asked) (s : Store) (c : Call) → (store_by x s c).format ≡ s.format
unfolding store_by
format_left nothing s c = refl
format_left (asks q) s c = command_keeps_format q.command q s c

pub format_kept : (s : Store) (c : Call) → (step s c).store.format ≡ s.format
format_kept s c = step_ways (λ t. t.format ≡ s.format) s c (λ _. format_left (asked_of c.cdb) s c) refl (λ _. refl)

-- one that does neither changes nothing
pub store_left : (x : Asked) (s : Store) (c : Call) → T (not (alters_in x)) → T (not (moves_in x)) → store_by x s c ≡ s
store_left x s c a m = store_is (store_by x s c) s (format_left x s c) (unit_left x s c a) (pool_left x s c m)
