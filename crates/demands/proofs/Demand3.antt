-- Demand 3, proved of `step`: what a nexus learns that is shut out from reading.
-- Assumes nothing.
use mathlib.Core.Path.{◌≡◌, refl, sym, ap, ap₂, ◌∙◌}
use mathlib.Core.Logic.{◌⊎◌, inl, inr}
use mathlib.Core.Bool.{Bool, true, false, not, ◌||◌}
use mathlib.Core.List.{List, [], ◌∷◌, map}
use Prim.Native.Nat.{ℕ}
use lib.Dec.{T, T_not, eqb, eqb→eq, ltb, lt→ltb, nleb→lt}
use Rattle.fields.specs.Bytes.{zeros}
use Rattle.fields.specs.Field.{byte}
use Rattle.fields.proofs.Tests.{and_l, and_r, or_r, or_other, nor_l, nor_r, nand_rest, not_not, not_not_intro, not_map, test, true→T, false→T, T_true}
use Rattle.answers.specs.declared.Answer.{Answer}
use Rattle.answers.specs.declared.Answer.TheVariants.{Good, Refused, Conflict, Unusable, Short}
use Rattle.answers.specs.Answers.{number_of, is_attention}
use Rattle.answers.specs.Order.{first, if_good_by, refuses}
use Rattle.answers.specs.Sense.{fixed, sense_after}
use Rattle.answers.proofs.OrderLaws.{row_stop, not_good}
use Rattle.pool.specs.Valid.{slots_ok}
use Rattle.pool.proofs.Keeping.{pool_ok_of, map_ok_zeros}
use Rattle.rights.specs.declared.Rights.{Rights}
use Rattle.forms.specs.declared.Command.{Command}
use Rattle.forms.specs.declared.Command.TheVariants.{Tells, Moves, Alters}
use Rattle.forms.specs.Forms.{Asked, nothing, asks, asked_of}
use Rattle.forms.proofs.Table.{is_moves, moves_in, alters_in, alters_code, moves_code}
use Rattle.store.specs.declared.Unit.{Unit}
use Rattle.store.specs.Store.{Store, Call, with_unit, usable, waiting, relieved, refused_unit, seen_of}
use Rattle.store.specs.Conflict.{conflict, shut_out}
use Rattle.store.specs.Step.{call_rows, is_inquiry, due, guard_rows, own_rows, answer_by, data_by, store_by, step, answer_to}
use Rattle.store.proofs.ConflictLaws.{shut_moves}
use Rattle.store.proofs.Parts.{attention_answer, guard_answer, passes_undue, moves_due, good_cleared, guard_refused, attention_refused, answers_alike}
use Rattle.store.proofs.Rows.{says}
use Rattle.store.proofs.StoreLaws.{guard_stops, step_answer, step_seen, step_store, step_ways, leaves_both, unit_rows, unit_data, unit_by, format_kept, unit_left, pool_left, store_left}
use Rattle.demands.specs.History.{Event, call, Machine, after, after_event, machine, is_out, is_shut_out, is_somebody, is_waited_for, is_kept, kept, add, watched_on, heard_on, replay, watched, heard}
use Rattle.demands.specs.Demands.{Demand3, Secrecy}
use Rattle.demands.specs.Contents.{plain}
use Rattle.demands.proofs.Answering.{thirteen_due}
use Rattle.demands.proofs.Usable.{usable_format, usable_unit, usable_of, usable_stays}

pub never : {X : Type 0} (b : Bool) → T b → T (not b) → X
never true t n = absurd n
never false t n = absurd t

-- ---- a refusal tells nothing

seen_refused : (format : ℕ) (a : Answer) (bs bs' : List ℕ) (c : Call) → T (refuses a) → seen_of format a bs c ≡ seen_of format a bs' c
unfolding seen_of if_good_by refuses
seen_refused format Good bs bs' c t = absurd t
seen_refused format (Refused x) bs bs' c t = refl
seen_refused format Conflict bs bs' c t = refl
seen_refused format Unusable bs bs' c t = refl
seen_refused format Short bs bs' c t = refl

-- ---- READ conflicts, so every command on the blocks does

-- a command on the blocks from a nexus that is shut out meets the conflict
command_shut : (k : Command) (r : Rights) (n : ℕ) → T (is_moves k) → T (shut_out r n) → T (conflict r n k)
unfolding is_moves
command_shut (Tells x) r n m h = absurd m
command_shut (Moves x) r n m h = shut_moves r n x h
command_shut (Alters x) r n m h = absurd m

guard_shut : (x : Asked) (r : Rights) (n : ℕ) → T (moves_in x) → T (shut_out r n) → first (guard_rows x r n) ≡ Conflict
unfolding moves_in
guard_shut nothing r n m h = absurd m
guard_shut (asks q) r n m h = guard_stops q r n (T_true _ (command_shut q.command r n m h))

shut_guard : (s : Store) (c : Call) → T (moves_in (asked_of c.cdb)) → T (is_shut_out s c) → T (refuses (guard_answer s.unit c))
unfolding is_shut_out refuses
shut_guard s c m h = rw (guard_shut (asked_of c.cdb) s.unit.rights c.nexus m h) tt

shut_refused : (s : Store) (c : Call) → T (moves_in (asked_of c.cdb)) → T (is_shut_out s c) → T (refuses (answer_to s c))
shut_refused s c m h = guard_refused s c (shut_guard s c m h)

-- ---- which calls move and alter, by their code

out_moves_not : (c : Call) → T (is_out c) → T (not (moves_in (asked_of c.cdb)))
unfolding is_out
out_moves_not c o =
    not_map (not (eqb (byte 0 c.cdb) 0x5F)) (moves_in (asked_of c.cdb)) (moves_code c.cdb) (not_not_intro (eqb (byte 0 c.cdb) 0x5F) o)

pub other_alters_not : (c : Call) → T (not (is_out c)) → T (not (alters_in (asked_of c.cdb)))
unfolding is_out
other_alters_not c o = not_map (eqb (byte 0 c.cdb) 0x5F) (alters_in (asked_of c.cdb)) (alters_code c.cdb) o

-- ---- a nexus above 15

module _ (c : Call) (n : T (not (is_somebody c))) where
  nobody_above : T (ltb 15 c.nexus)
  unfolding is_somebody
  nobody_above = lt→ltb 15 c.nexus (nleb→lt c.nexus 15 n)

  nobody_answer : (s : Store) → answer_to s c ≡ Unusable
  unfolding answer_to answer_by call_rows
  nobody_answer s = row_stop Unusable _ _ (T_true (ltb 15 c.nexus) nobody_above)

  pub nobody_eleven : (s : Store) → (step s c).seen.answer ≡ Unusable
  nobody_eleven s = step_answer s c ∙ nobody_answer s

  -- 11 has no sense, in whichever format
  nobody_seen : (s : Store) → (step s c).seen ≡ seen_of fixed Unusable [] c
  unfolding refuses seen_of sense_after if_good_by
  nobody_seen s = step_seen s c ∙ ap (λ (a : Answer). seen_of s.format a (data_by (asked_of c.cdb) s) c) (nobody_answer s)

  pub nobody_learns : (s t : Store) → (step s c).seen ≡ (step t c).seen
  nobody_learns s t = nobody_seen s ∙ sym (nobody_seen t)

  pub nobody_still : (s : Store) → after step s c ≡ s
  unfolding after refuses is_attention number_of
  nobody_still s = step_ways (λ x. x ≡ s) s c (λ g. not_good (answer_to s c) (rw (nobody_answer s) tt) g) refl (λ t. absurd (rw (nobody_answer s) at t))

-- ---- who has something waiting

-- a call that returns what waits has something waiting
pub told_waited : (s : Store) (c : Call) → T (is_attention (answer_to s c)) → T (is_waited_for s.unit c)
unfolding is_waited_for is_attention says due
told_waited s c t = and_l (not (eqb (waiting s.unit c.nexus) 0)) (not (is_inquiry c.cdb)) (thirteen_due s c t)

pub unwaited : {X : Type 0} (s : Store) (c : Call) → T (not (is_waited_for s.unit c)) → T (is_attention (answer_to s c)) → X
unwaited s c n t = never (is_waited_for s.unit c) (told_waited s c t) n

-- where something waits a command on the blocks is refused, before the store is looked at
waited_due : (s : Store) (c : Call) → T (moves_in (asked_of c.cdb)) → T (is_waited_for s.unit c) → T (due s.unit c.nexus c.cdb)
unfolding is_waited_for
waited_due s c m w = rw (moves_due s.unit c.nexus c.cdb m) w

-- ---- one call

-- may a call's sender not read, or does something wait for it
unfoldable pub is_held : Store → Call → Bool
is_held s c = is_shut_out s c || is_waited_for s.unit c

held_refused : (s : Store) (c : Call) → T (moves_in (asked_of c.cdb)) → T (is_held s c) → T (refuses (answer_to s c))
unfolding is_held
held_refused s c m h =
    test (is_shut_out s c) (λ k. shut_refused s c m k) (λ n. attention_refused s c (waited_due s c m (or_other (is_shut_out s c) (is_waited_for s.unit c) n h)))

held_stops : (s : Store) (c : Call) → T (moves_in (asked_of c.cdb)) → T (is_held s c) → attention_answer s.unit c ≡ Good → guard_answer s.unit c ≡ Good → ⊥
unfolding is_held
held_stops s c m h w g =
    test (is_shut_out s c) (λ k. not_good (guard_answer s.unit c) (shut_guard s c m k) g)
    (λ n. T_not (due s.unit c.nexus c.cdb) (passes_undue s.unit c.nexus c.cdb w)
    (waited_due s c m (or_other (is_shut_out s c) (is_waited_for s.unit c) n h)))

-- a call whose command moves nothing, or is refused, gives the same on two stores that agree on the format and the unit's record
module _ (s t : Store) (c : Call) (u : T (usable s)) (v : T (usable t)) (f : s.format ≡ t.format) (e : s.unit ≡ t.unit)
    (h : T (moves_in (asked_of c.cdb)) → T (is_held s c)) where
  own_same : attention_answer s.unit c ≡ Good → guard_answer s.unit c ≡ Good → first (own_rows (asked_of c.cdb) s c) ≡ first (own_rows (asked_of c.cdb) t c)
  own_same w g =
      test (moves_in (asked_of c.cdb))
      (λ m. absurd (held_stops s c m (h m) w g))
      (λ n. ap first (unit_rows (asked_of c.cdb) s t c n e))

  same_answer : answer_to s c ≡ answer_to t c
  same_answer = answers_alike s t c u v f e own_same

  seen_same : seen_of s.format (answer_to s c) (data_by (asked_of c.cdb) s) c ≡ seen_of s.format (answer_to s c) (data_by (asked_of c.cdb) t) c
  seen_same =
      test (moves_in (asked_of c.cdb))
      (λ m. seen_refused s.format (answer_to s c) _ _ c (held_refused s c m (h m)))
      (λ n. ap (λ (bs : List ℕ). seen_of s.format (answer_to s c) bs c) (unit_data (asked_of c.cdb) s t n e))

  pub alike_seen : (step s c).seen ≡ (step t c).seen
  alike_seen =
      step_seen s c ∙ seen_same ∙ ap₂ (λ (x : ℕ) (a : Answer). seen_of x a (data_by (asked_of c.cdb) t) c) f same_answer ∙ sym (step_seen t c)

  -- and leaves them so
  pub alike_unit : (after step s c).unit ≡ (after step t c).unit
  unfolding after
  alike_unit =
      rw (step_store s c, step_store t c, same_answer)
      (leaves_both (λ x y. x.unit ≡ y.unit) (answer_to t c) (store_by (asked_of c.cdb) s c) _ (store_by (asked_of c.cdb) t c) _ (unit_by (asked_of c.cdb) s t c e)
      (ap (refused_unit (answer_to t c) c.nexus) e))

-- a reservation-out call acts on the unit alone, by the call alone
module _ (s t : Store) (c : Call) (u : T (usable s)) (v : T (usable t)) (f : s.format ≡ t.format) (e : s.unit ≡ t.unit) (o : T (is_out c)) where
  out_shut : T (moves_in (asked_of c.cdb)) → T (is_held s c)
  out_shut m = never (moves_in (asked_of c.cdb)) m (out_moves_not c o)

  pub out_seen : (step s c).seen ≡ (step t c).seen
  out_seen = alike_seen s t c u v f e out_shut

  pub out_unit : (after step s c).unit ≡ (after step t c).unit
  out_unit = alike_unit s t c u v f e out_shut

-- so does a call that returns what waits
module _ (s t : Store) (c : Call) (u : T (usable s)) (v : T (usable t)) (f : s.format ≡ t.format) (e : s.unit ≡ t.unit) (w : T (is_waited_for s.unit c)) where
  waited_held : T (moves_in (asked_of c.cdb)) → T (is_held s c)
  unfolding is_held
  waited_held m = or_r (is_shut_out s c) (is_waited_for s.unit c) w

  pub waited_unit : (after step s c).unit ≡ (after step t c).unit
  waited_unit = alike_unit s t c u v f e waited_held

-- any call but a reservation-out leaves the unit, unless it returns what waits
pub other_unit : (s : Store) (c : Call) → T (not (is_out c)) → T (not (is_attention (answer_to s c))) → (after step s c).unit ≡ s.unit
unfolding after
other_unit s c o n =
    step_ways (λ x. x.unit ≡ s.unit) s c (λ g. unit_left (asked_of c.cdb) s c (other_alters_not c o)) refl (λ t. never (is_attention (answer_to s c)) t n)

-- so does any call that is not kept
pub unkept_unit : (s : Store) (c : Call) → T (not (kept s c)) → (after step s c).unit ≡ s.unit
unfolding is_kept is_shut_out
unkept_unit s c t =
    test (is_somebody c)
    (λ k. let rest = nand_rest (is_somebody c) (is_out c || (is_shut_out s c || is_waited_for s.unit c)) k t in
    other_unit s c (nor_l (is_out c) (is_shut_out s c || is_waited_for s.unit c) rest)
    (not_map (is_waited_for s.unit c) (is_attention (answer_to s c)) (told_waited s c)
    (nor_r (is_shut_out s c) (is_waited_for s.unit c) (nor_r (is_out c) (is_shut_out s c || is_waited_for s.unit c) rest))))
    (λ n. ap (λ (x : Store). x.unit) (nobody_still c n s))

-- ---- a kept call

-- a kept call that moves something is one by a nexus that is shut out, or for which something waits
kept_shut : (s : Store) (c : Call) → T (kept s c) → T (moves_in (asked_of c.cdb)) → T (is_held s c)
unfolding is_kept is_shut_out is_out is_held
kept_shut s c t m =
    or_other (eqb (byte 0 c.cdb) 0x5F) (is_shut_out s c || is_waited_for s.unit c) (moves_code c.cdb m)
    (and_r (is_somebody c) (is_out c || (is_shut_out s c || is_waited_for s.unit c)) t)

-- so a kept call gives the same on two stores that agree on the format and the unit's record, and leaves them so
module _ (s t : Store) (c : Call) (u : T (usable s)) (v : T (usable t)) (f : s.format ≡ t.format) (e : s.unit ≡ t.unit) (k : T (kept s c)) where
  pub kept_seen : (step s c).seen ≡ (step t c).seen
  kept_seen = alike_seen s t c u v f e (kept_shut s c k)

  pub kept_unit : (after step s c).unit ≡ (after step t c).unit
  kept_unit = alike_unit s t c u v f e (kept_shut s c k)

-- "Apart from reservation-out calls, a shut-out call changes no stored thing"
pub shut_out_still : (s : Store) (c : Call) → T (not (is_out c)) → T (is_shut_out s c) → T (not (is_waited_for s.unit c)) → after step s c ≡ s
unfolding after
shut_out_still s c o h w =
    step_ways (λ x. x ≡ s) s c
    (λ g. test (moves_in (asked_of c.cdb))
    (λ m. not_good (answer_to s c) (shut_refused s c m h) g)
    (λ n. store_left (asked_of c.cdb) s c (other_alters_not c o) n)) refl
    (λ t. unwaited s c w t)

-- Q-6: "such a call may change only its own": a GOOD one is INQUIRY, which changes nothing
pub inquiry_out_not : (c : Call) → T (is_inquiry c.cdb) → T (not (is_out c))
unfolding is_inquiry is_out
inquiry_out_not c t = rw (eqb→eq (byte 0 c.cdb) 0x12 t) tt

good_inquiry : (s : Store) (c : Call) → T (is_waited_for s.unit c) → answer_to s c ≡ Good → T (is_inquiry c.cdb)
unfolding is_waited_for due
good_inquiry s c w g =
    not_not (is_inquiry c.cdb)
    (nand_rest (not (eqb (waiting s.unit c.nexus) 0)) (not (is_inquiry c.cdb)) w (passes_undue s.unit c.nexus c.cdb (good_cleared s c g).attention))

pub own_alone : (s : Store) (c : Call) → T (is_waited_for s.unit c) → (after step s c ≡ s) ⊎ (after step s c ≡ with_unit s (relieved s.unit c.nexus))
unfolding after
own_alone s c w =
    step_ways (λ x. (x ≡ s) ⊎ (x ≡ with_unit s (relieved s.unit c.nexus))) s c
    (λ g. test (moves_in (asked_of c.cdb))
    (λ m. absurd (not_good (answer_to s c) (attention_refused s c (waited_due s c m w)) g))
    (λ n. inl (store_left (asked_of c.cdb) s c (other_alters_not c (inquiry_out_not c (good_inquiry s c w g))) n)))
    (inl refl) (λ _. inr refl)

-- "a reservation-out call never changes a block or a mapping"
pub out_pool : (s : Store) (c : Call) → T (is_out c) → (after step s c).pool ≡ s.pool
unfolding after
out_pool s c o = step_ways (λ x. x.pool ≡ s.pool) s c (λ g. pool_left (asked_of c.cdb) s c (out_moves_not c o)) refl (λ _. refl)

-- ---- histories of any machine

-- what is asked of one call: a kept one gives the same on two usable states that agree on what everybody may know, and leaves them so; any other
-- leaves what everybody may know; a usable state stays usable, and keeps its format
module _ (m : Machine) (plain : ℕ → Unit → m.State) (plain_format : (f : ℕ) (u : Unit) → m.format (plain f u) ≡ f)
    (plain_unit : (f : ℕ) (u : Unit) → m.unit (plain f u) ≡ u)
    (plain_usable : (s : m.State) → T (m.usable s) → T (m.usable (plain (m.format s) (m.unit s))))
    (stays : (s : m.State) (e : Event) → T (m.usable s) → T (m.usable (m.next s e)))
    (format_stays : (s : m.State) (e : Event) → m.format (m.next s e) ≡ m.format s)
    (sees : (s t : m.State) (c : Call) → T (m.usable s) → T (m.usable t) → m.format s ≡ m.format t → m.unit s ≡ m.unit t → T (is_kept (m.unit s) c)
    → m.seen s c ≡ m.seen t c)
    (leaves : (s t : m.State) (c : Call) → T (m.usable s) → T (m.usable t) → m.format s ≡ m.format t → m.unit s ≡ m.unit t → T (is_kept (m.unit s) c)
    → m.unit (m.next s (call c)) ≡ m.unit (m.next t (call c)))
    (others : (s : m.State) (c : Call) → T (not (is_kept (m.unit s) c)) → m.unit (m.next s (call c)) ≡ m.unit s)
    (learns : (s t : m.State) (c : Call) → T (not (is_somebody c)) → m.seen s c ≡ m.seen t c)
    (changes : (s : m.State) (c : Call) → T (not (is_somebody c)) → m.next s (call c) ≡ s) where
  heard_is_by : (s : m.State) (es : List Event) → T (m.usable s) → heard_on m s es ≡ replay m plain (m.format s) (m.unit s) (watched_on m s es)
  unfolding heard_on watched_on replay add
  heard_is_by s [] u = refl
  heard_is_by s (call c ∷ es) u =
      go (is_kept (m.unit s) c) refl
      (heard_is_by (m.next s (call c)) es (stays s (call c) u)
      ∙ ap (λ (f : ℕ). replay m plain f (m.unit (m.next s (call c))) (watched_on m (m.next s (call c)) es)) (format_stays s (call c)))
    where
      x : m.State
      x = m.next s (call c)

      -- the state with nothing in it that is known as s is
      y : m.State
      y = plain (m.format s) (m.unit s)

      go : (b : Bool) → is_kept (m.unit s) c ≡ b → heard_on m x es ≡ replay m plain (m.format s) (m.unit x) (watched_on m x es)
          → add b (m.seen s c) (heard_on m x es) ≡ replay m plain (m.format s) (m.unit s) (add b c (watched_on m x es))
      go true e ih =
          ap₂ ◌∷◌ (sees s y c u (plain_usable s u) (sym (plain_format (m.format s) (m.unit s))) (sym (plain_unit (m.format s) (m.unit s))) (true→T _ e))
          (ih ∙ ap (λ (v : Unit). replay m plain (m.format s) v (watched_on m x es))
          (leaves s y c u (plain_usable s u) (sym (plain_format (m.format s) (m.unit s))) (sym (plain_unit (m.format s) (m.unit s))) (true→T _ e)))
      go false e ih = ih ∙ ap (λ (v : Unit). replay m plain (m.format s) v (watched_on m x es)) (others s c (false→T _ e))

  pub secrecy_by : Secrecy m plain
  secrecy_by = record {
    heard_is = heard_is_by;
    secret = λ s t es ds u v f e w.
        heard_is_by s es u ∙ ap₂ (replay m plain (m.format s)) e w ∙ ap (λ (x : ℕ). replay m plain x (m.unit t) (watched_on m t ds)) f
        ∙ sym (heard_is_by t ds v);
    nobody_learns = learns;
    nobody_changes = changes;
  }

-- ---- histories of `step`

pub plain_usable : (s : Store) → T (usable s) → T (usable (plain s.format s.unit))
unfolding plain slots_ok zeros
plain_usable s u = usable_of (plain s.format s.unit) (usable_format s u) (usable_unit s u) (pool_ok_of s.unit.capacity _ tt refl (map_ok_zeros s.unit.capacity 1) refl)

pub plain_format : (f : ℕ) (u : Unit) → (plain f u).format ≡ f
unfolding plain
plain_format f u = refl

pub plain_unit : (f : ℕ) (u : Unit) → (plain f u).unit ≡ u
unfolding plain
plain_unit f u = refl

pub event_usable : (s : Store) (e : Event) → T (usable s) → T (usable (after_event step s e))
unfolding after_event
event_usable s (call c) u = usable_stays s c u

event_format : (s : Store) (e : Event) → (after_event step s e).format ≡ s.format
unfolding after_event after
event_format s (call c) = format_kept s c

pub secrecy : Secrecy (machine step) plain
unfolding after_event
secrecy =
    secrecy_by (machine step) plain plain_format plain_unit plain_usable event_usable event_format
    kept_seen kept_unit unkept_unit (λ s t c n. nobody_learns c n s t) (λ s c n. nobody_still c n s)

pub secret : (s t : Store) (cs ds : List Call) → T (usable s) → T (usable t) → s.format ≡ t.format → s.unit ≡ t.unit
    → watched step s cs ≡ watched step t ds → heard step s cs ≡ heard step t ds
unfolding watched heard
secret s t cs ds u v f e w = secrecy.secret s t (map call cs) (map call ds) u v f e w

pub demand_3 : Demand3 step
demand_3 = record { secret = secret; still = shut_out_still; own_alone = own_alone; out_pool = out_pool }
