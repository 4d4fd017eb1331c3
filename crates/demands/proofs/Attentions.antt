-- What is told to those for whom something waits, whom each action tells what, and that nothing is lost over any history: proved of `step`.
-- Assumes nothing.
use mathlib.Core.Path.{◌≡◌, refl, sym, ap, ◌∙◌, subst}
use mathlib.Core.Logic.{◌≢◌}
use mathlib.Core.Bool.{Bool, true, false, not, ◌&&◌, ◌||◌, cond, false≢true}
use mathlib.Core.List.{List, [], ◌∷◌, ◌++◌}
use Prim.Native.Nat.{ℕ, zero, suc, ◌≤◌}
use native.Mathlib.Omega.{arith}
use borrow.Author.Tests.{eq-eqb, ne_eqb}
use lib.Dec.{T, eqb, eqb→eq, eqb_refl}
use Rattle.fields.specs.Field.{byte}
use Rattle.fields.specs.Bits.{number_in}
use Rattle.fields.proofs.Tests.{and_l, and_r, both, by_equal, test, T_true, T_false, false→T}
use Rattle.answers.specs.declared.Answer.{Answer}
use Rattle.answers.specs.declared.Answer.TheVariants.{Refused}
use Rattle.answers.specs.Answers.{codes, codes_of, number_of, is_attention}
use Rattle.answers.specs.Order.{refuses}
use Rattle.answers.proofs.OrderLaws.{if_good_law, if_refused, good_cases}
use Rattle.rights.specs.declared.Rights.{Rights}
use Rattle.rights.specs.declared.Action.{Action}
use Rattle.rights.specs.declared.Action.TheVariants.{Register, Reserve, Release, Clear, Preempt, RegisterIgnoring}
use Rattle.rights.specs.Places.{key_of}
use Rattle.rights.specs.Rights.{is_one_of, one_holds, all_hold, holder_key}
use Rattle.rights.specs.Actions.{preempting, taking_over, acted}
use Rattle.rights.specs.Attentions.{attentions_ok, waiting_for, refusal_of}
use Rattle.rights.specs.Notices.{for_registrants, release_notice, notice, renewed}
use Rattle.rights.proofs.Holders.{holder_key_law}
use Rattle.rights.proofs.AttentionLaws.{returned_own, returned_other, notified_at, sender_keeps}
use Rattle.rights.proofs.NoticeLaws.{registering_notice, reserving_notice, releasing_notice, clearing_notice, preempting_notice, taking_notice}
use Rattle.forms.specs.declared.Command.{Command}
use Rattle.forms.specs.declared.Command.TheVariants.{Tells, Moves, Alters}
use Rattle.forms.specs.declared.Request.{Request}
use Rattle.forms.specs.Forms.{Asked, nothing, asks, asked_of}
use Rattle.forms.proofs.Table.{is_moves, moves_in, is_inquiring, asked_other}
use Rattle.store.specs.Store.{Store, Call, usable, waiting, relieved, enacted}
use Rattle.store.specs.Alter.{parameters_of}
use Rattle.store.specs.Step.{is_inquiry, due, command_store, store_by, step, answer_to}
use Rattle.store.proofs.Parts.{attention_refused}
use Rattle.store.proofs.Rows.{says}
use Rattle.store.proofs.StoreLaws.{step_answer, step_ways, store_left}
use Rattle.demands.specs.History.{Event, call, after, after_event, machine, is_out, after_all}
use Rattle.demands.specs.Generation.{service_key}
use Rattle.demands.specs.Contents.{AsksFor, IsGood}
use Rattle.demands.specs.Reservations.{key_in, is_registered, is_holder, type_in, takes_over, registers}
use Rattle.demands.specs.Attentions.{waits, newest, NowWaits, is_shared, changes_type, Attentions, command_sends, asked_sends, sends, tells, some, sent_to, told_to, latest, NoneLost}
use Rattle.demands.proofs.Answering.{at_attention, thirteen_due, thirteen_is, due_answers}
use Rattle.demands.proofs.Usable.{usable_unit, unit_attentions, usable_stays}
use Rattle.demands.proofs.Demand1.{attention_number, number_attention, told_store_law}
use Rattle.demands.proofs.Demand3.{other_unit, other_alters_not, inquiry_out_not, never}
use Rattle.demands.proofs.Moving.{good_usable, done_after, refused_after}
use Rattle.demands.proofs.Altering.{altered_attentions, altered_ok}
use Rattle.demands.proofs.Reservations.{registers_acted}

-- ---- told

preempted_codes : codes_of (refusal_of 1) ≡ codes 13 0x06 0x2A 0x05
unfolding codes_of refusal_of
preempted_codes = refl

cleared_codes : codes_of (refusal_of 2) ≡ codes 13 0x06 0x2A 0x03
unfolding codes_of refusal_of
cleared_codes = refl

released_codes : codes_of (refusal_of 3) ≡ codes 13 0x06 0x2A 0x04
unfolding codes_of refusal_of
released_codes = refl

-- a refusal that is neither 1 nor 11
unfoldable further : Answer → Bool
further a = refuses a && (not (says 1 a) && not (says 11 a))

not_says : (k : ℕ) (a : Answer) → number_of a ≢ k → T (not (says k a))
unfolding says
not_says k a n = false→T (eqb (number_of a) k) (ne_eqb (number_of a) k n)

module _ (s : Store) (c : Call) (w : waits s c.nexus ≢ 0) (q : byte 0 c.cdb ≢ 0x12) where
  is_due : T (due s.unit c.nexus c.cdb)
  unfolding due is_inquiry waits
  is_due = rw (ne_eqb (waiting s.unit c.nexus) 0 w, ne_eqb (byte 0 c.cdb) 0x12 q) tt

  pub returned : number_of (step s c).seen.answer ≢ 1 → number_of (step s c).seen.answer ≢ 11
      → (step s c).seen.answer ≡ Refused (refusal_of (waits s c.nexus))
  unfolding further refuses says number_of codes_of waits
  returned m n =
      let r = attention_refused s c is_due in
      let one = not_says 1 (answer_to s c) (rw (step_answer s c) at m) in
      let eleven = not_says 11 (answer_to s c) (rw (step_answer s c) at n) in
      step_answer s c
      ∙ due_answers s c (at_attention further tt tt s c (both (refuses (answer_to s c)) _ r (both (not (says 1 (answer_to s c))) _ one eleven)) tt) is_due

module _ (s : Store) (c : Call) (e : number_of (step s c).seen.answer ≡ 13) where
  says_thirteen : T (says 13 (answer_to s c))
  unfolding says is_attention
  says_thirteen = number_attention s c e

  due_then : T (not (eqb (waiting s.unit c.nexus) 0)) × T (not (is_inquiry c.cdb))
  unfolding due
  due_then =
      let t = thirteen_due s c says_thirteen in
      (and_l (not (eqb (waiting s.unit c.nexus) 0)) (not (is_inquiry c.cdb)) t, and_r (not (eqb (waiting s.unit c.nexus) 0)) (not (is_inquiry c.cdb)) t)

  pub only_then : (waits s c.nexus ≢ 0) × (byte 0 c.cdb ≢ 0x12) × ((step s c).seen.answer ≡ Refused (refusal_of (waits s c.nexus)))
  unfolding waits is_inquiry
  only_then = (
    λ z. never (eqb (waiting s.unit c.nexus) 0) (rw z tt) due_then.0,
    λ z. never (eqb (byte 0 c.cdb) 0x12) (rw z tt) due_then.1,
    step_answer s c ∙ thirteen_is s c says_thirteen,
  )

  pub cleared : waits (after step s c) c.nexus ≡ 0
  unfolding waits waiting relieved
  cleared = ap (λ (x : Store). waiting x.unit c.nexus) (told_store_law s c e) ∙ returned_own c.nexus s.unit.attentions

  pub others_wait : (m : ℕ) → m ≢ c.nexus → waits (after step s c) m ≡ waits s m
  unfolding waits waiting relieved
  others_wait m d = ap (λ (x : Store). waiting x.unit m) (told_store_law s c e) ∙ returned_other c.nexus m s.unit.attentions d

-- INQUIRY moves nothing
inquiry_moves_not : (c : Call) → T (is_inquiry c.cdb) → T (not (moves_in (asked_of c.cdb)))
unfolding is_inquiry moves_in is_moves is_inquiring
inquiry_moves_not c t = go (asked_of c.cdb) refl
  where
    command : (k : Command) → (T (not (is_inquiring k)) → T (not (eqb (byte 0 c.cdb) 0x12))) → T (not (is_moves k))
    command (Tells x) h = tt
    command (Moves m) h = never (eqb (byte 0 c.cdb) 0x12) t (h tt)
    command (Alters a) h = tt

    go : (x : Asked) → asked_of c.cdb ≡ x → T (not (moves_in x))
    go nothing e = tt
    go (asks q) e = command q.command (asked_other c.cdb q e)

pub inquiry_passes : (s : Store) (c : Call) → byte 0 c.cdb ≡ 0x12 → after step s c ≡ s
unfolding after is_inquiry
inquiry_passes s c e =
    let t : T (is_inquiry c.cdb) = rw e tt in
    step_ways (λ x. x ≡ s) s c (λ g. store_left (asked_of c.cdb) s c (other_alters_not c (inquiry_out_not c t)) (inquiry_moves_not c t)) refl
    (λ h. absurd ((only_then s c (eqb→eq _ 13 (attention_number s c h))).1 e))

pub outs_alone : (s : Store) (c : Call) → T (not (is_out c)) → number_of (step s c).seen.answer ≢ 13 → (m : ℕ) → waits (after step s c) m ≡ waits s m
unfolding waits
outs_alone s c o n m =
    ap (λ (u : _). waiting u m)
    (other_unit s c o (test (is_attention (answer_to s c)) (λ t. absurd (n (eqb→eq _ 13 (attention_number s c t)))) (λ t. t)))

-- ---- sent

-- one that is not the sender has what it is to be told, or what it had
newest_is : (x old : ℕ) → cond (eqb x 0) old x ≡ newest x old
unfolding newest
newest_is zero old = refl
newest_is (suc x) old = rw (ne_eqb (suc x) 0 (λ z. absurd (omega arith)))

other_told : (a : Action) (before after : Rights) (n m old : ℕ) → m ≢ n → renewed a before after n m old ≡ newest (notice a before after m) old
unfolding renewed
other_told a before after n m old d = rw (ne_eqb m n d) (newest_is (notice a before after m) old)

module _ (a : Action) (s : Store) (c : Call) (w : AsksFor (Alters a) c) (e : IsGood s c) where
  now : Rights
  now = acted a s.unit.rights c.nexus (parameters_of w.request c.data_out)

  all_ok : T (attentions_ok s.unit.attentions)
  all_ok = unit_attentions s.unit (usable_unit s (good_usable s c e))

  at_nexus : (m : ℕ) → m ≤ 15 → waits (after step s c) m ≡ renewed a s.unit.rights now c.nexus m (waits s m)
  unfolding waits waiting now
  at_nexus m h = ap (waiting_for m) (altered_attentions a s c w e) ∙ notified_at a s.unit.rights _ c.nexus m s.unit.attentions all_ok h

  pub sender_untold : c.nexus ≤ 15 → waits (after step s c) c.nexus ≡ waits s c.nexus
  sender_untold h = at_nexus c.nexus h ∙ sender_keeps a s.unit.rights now c.nexus (waits s c.nexus)

  -- another has the notice of this action
  other_waits : (x m : ℕ) → m ≤ 15 → m ≢ c.nexus → notice a s.unit.rights now m ≡ x → NowWaits step s c m x
  other_waits x m h d k =
      at_nexus m h ∙ other_told a s.unit.rights now c.nexus m (waits s m) d ∙ ap (λ (y : ℕ). newest y (waits s m)) k

apart_test : (n m : ℕ) → m ≢ n → T (not (eqb n m))
apart_test n m d = false→T (eqb n m) (ne_eqb n m (λ z. d (sym z)))

module _ (s : Store) (c : Call) (w : AsksFor (Alters Preempt) c) (e : IsGood s c) where
  -- the holder's key under 1, 3, 5, 6
  over_is : service_key c ≢ 0 → eqb (holder_key s.unit.rights) (service_key c) ≡ takes_over s c
  unfolding takes_over type_in key_in
  over_is z =
      holder_key_law s.unit.rights (service_key c) (false→T _ (ne_eqb (service_key c) 0 z))
      ∙ rw (ne_eqb (service_key c) 0 z) (go (one_holds s.unit.rights.kind && eqb (key_of s.unit.rights.holder s.unit.rights.places) (service_key c)) (all_hold s.unit.rights.kind))
    where
      go : (x b : Bool) → x ≡ (x || (b && false))
      go true b = refl
      go false true = refl
      go false false = refl

  pub preempt_tells : service_key c ≢ 0 → (m : ℕ) → m ≤ 15 → m ≢ c.nexus
      → NowWaits step s c m (cond (is_registered s m && eqb (key_in s m) (service_key c)) 1 (cond (is_registered s m && changes_type s c w.request.kind) 3 0))
  unfolding now acted parameters_of number_in service_key is_registered key_in changes_type is_shared type_in for_registrants
  preempt_tells z m h d =
      other_waits Preempt s c w e _ m h d
      (ap (λ (r : Rights). notice Preempt s.unit.rights r m)
      (ap (λ (b : Bool). cond b (taking_over s.unit.rights c.nexus w.request.kind) (preempting s.unit.rights c.nexus w.request.kind (service_key c))) (ne_eqb (service_key c) 0 z))
      ∙ preempting_notice s.unit.rights c.nexus w.request.kind (service_key c) m (altered_ok Preempt s c w e) (apart_test c.nexus m d)
      ∙ rw (over_is z))

  pub zero_key_tells : service_key c ≡ 0 → (m : ℕ) → m ≤ 15 → m ≢ c.nexus → NowWaits step s c m (cond (is_registered s m) 1 0)
  unfolding now acted parameters_of number_in service_key is_registered
  zero_key_tells z m h d =
      other_waits Preempt s c w e _ m h d
      (ap (λ (r : Rights). notice Preempt s.unit.rights r m)
      (ap (λ (b : Bool). cond b (taking_over s.unit.rights c.nexus w.request.kind) (preempting s.unit.rights c.nexus w.request.kind (service_key c))) (eq-eqb (service_key c) 0 z))
      ∙ taking_notice s.unit.rights c.nexus w.request.kind m (apart_test c.nexus m d))

pub clear_tells : (s : Store) (c : Call) → AsksFor (Alters Clear) c → IsGood s c → (m : ℕ) → m ≤ 15 → m ≢ c.nexus → NowWaits step s c m (cond (is_registered s m) 2 0)
unfolding now acted is_registered
clear_tells s c w e m h d = other_waits Clear s c w e _ m h d (clearing_notice s.unit.rights m)

pub release_tells : (s : Store) (c : Call) → AsksFor (Alters Release) c → IsGood s c → (m : ℕ) → m ≤ 15 → m ≢ c.nexus
    → NowWaits step s c m (cond (is_registered s m && (is_shared (type_in s) && is_holder s c.nexus)) 3 0)
unfolding now acted notice is_registered is_shared type_in is_holder for_registrants
release_tells s c w e m h d = other_waits Release s c w e _ m h d (releasing_notice s.unit.rights c.nexus m)

-- both kinds of registering send the same
registers_notice : (a : Action) (before after : Rights) (m : ℕ) → T (registers a) → notice a before after m ≡ release_notice before after m
unfolding registers notice
registers_notice Register before after m t = refl
registers_notice Reserve before after m t = absurd t
registers_notice Release before after m t = absurd t
registers_notice Clear before after m t = absurd t
registers_notice Preempt before after m t = absurd t
registers_notice RegisterIgnoring before after m t = refl

pub register_tells : (a : Action) → T (registers a) → (s : Store) (c : Call) → AsksFor (Alters a) c → IsGood s c → (m : ℕ) → m ≤ 15 → m ≢ c.nexus
    → NowWaits step s c m (cond (is_registered s m && (eqb (service_key c) 0 && (is_one_of (type_in s) (5 ∷ 6 ∷ []) && is_holder s c.nexus))) 3 0)
unfolding now parameters_of number_in service_key is_registered type_in is_holder
register_tells a k s c w e m h d =
    other_waits a s c w e _ m h d
    (registers_notice a s.unit.rights _ m k
    ∙ ap (λ (r : Rights). release_notice s.unit.rights r m) (registers_acted a s.unit.rights c.nexus (parameters_of w.request c.data_out) k)
    ∙ registering_notice s.unit.rights c.nexus (service_key c) m (altered_ok a s c w e) (apart_test c.nexus m d))

pub reserve_tells : (s : Store) (c : Call) → AsksFor (Alters Reserve) c → IsGood s c → (m : ℕ) → m ≤ 15 → waits (after step s c) m ≡ waits s m
unfolding now acted newest
reserve_tells s c w e m h =
    by_equal m c.nexus (λ _. waits (after step s c) m ≡ waits s m)
    (λ i. rw i (sender_untold Reserve s c w e (subst (λ (n : ℕ). n ≤ 15) i h)))
    (λ d. other_waits Reserve s c w e 0 m h d (reserving_notice s.unit.rights c.nexus _ m))

pub attentions : Attentions step
attentions = record {
  preempted_codes = preempted_codes;
  cleared_codes = cleared_codes;
  released_codes = released_codes;
  returned = returned;
  only_then = only_then;
  cleared = cleared;
  others_wait = others_wait;
  inquiry_passes = inquiry_passes;
  outs_alone = outs_alone;
  sender_untold = sender_untold;
  preempt_tells = preempt_tells;
  zero_key_tells = zero_key_tells;
  clear_tells = clear_tells;
  release_tells = release_tells;
  register_tells = register_tells;
  reserve_tells = reserve_tells;
}

-- ---- one call of a history

module _ (s : Store) (c : Call) (n : ℕ) (u : T (usable s)) (h : n ≤ 15) where
  -- what is done
  command_waits : (k : Command) (q : Request)
      → waits (command_store k q s c) n ≡ newest (cond (eqb n c.nexus) 0 (command_sends k s.unit.rights (command_store k q s c).unit.rights n)) (waits s n)
  unfolding command_store command_sends waits waiting enacted newest
  command_waits (Tells t) q = go (eqb n c.nexus)
    where
      go : (b : Bool) → waiting_for n s.unit.attentions ≡ newest (cond b 0 0) (waiting_for n s.unit.attentions)
      go true = refl
      go false = refl
  command_waits (Moves m) q = go (eqb n c.nexus)
    where
      go : (b : Bool) → waiting_for n s.unit.attentions ≡ newest (cond b 0 0) (waiting_for n s.unit.attentions)
      go true = refl
      go false = refl
  command_waits (Alters a) q =
      let r = acted a s.unit.rights c.nexus (parameters_of q c.data_out) in
      notified_at a s.unit.rights r c.nexus n s.unit.attentions (unit_attentions s.unit (usable_unit s u)) h
      ∙ by_equal n c.nexus (λ b. renewed a s.unit.rights r c.nexus n (waiting_for n s.unit.attentions)
      ≡ newest (cond b 0 (notice a s.unit.rights r n)) (waiting_for n s.unit.attentions))
      (λ i. rw i (sender_keeps a s.unit.rights r c.nexus (waiting_for c.nexus s.unit.attentions)))
      (λ d. other_told a s.unit.rights r c.nexus n (waiting_for n s.unit.attentions) d)

  asked_waits : (x : Asked)
      → waits (store_by x s c) n ≡ newest (cond (eqb n c.nexus) 0 (asked_sends x s.unit.rights (store_by x s c).unit.rights n)) (waits s n)
  unfolding store_by asked_sends newest
  asked_waits nothing = go (eqb n c.nexus)
    where
      go : (b : Bool) → waits s n ≡ newest (cond b 0 0) (waits s n)
      go true = refl
      go false = refl
  asked_waits (asks q) = command_waits q.command q

  -- what waits after a call that returned nothing to n is what it sent, or what waited
  sent_waits : IsGood s c → waits (after step s c) n ≡ newest (sends step s c n) (waits s n)
  unfolding sends
  sent_waits g =
      ap (λ (x : Store). waits x n) (done_after s c g) ∙ asked_waits (asked_of c.cdb)
      ∙ ap (λ (y : ℕ). newest y (waits s n))
      (ap (λ (x : Store). cond (eqb n c.nexus) 0 (asked_sends (asked_of c.cdb) s.unit.rights x.unit.rights n)) (sym (done_after s c g))
      ∙ sym (if_good_law (step s c).seen.answer _ 0 g))

  refused_sends : T (refuses (step s c).seen.answer) → sends step s c n ≡ 0
  unfolding sends
  refused_sends t = if_refused (step s c).seen.answer _ 0 t

  -- a call of n that is told
  is_told : Bool
  is_told = eqb n c.nexus && is_attention (step s c).seen.answer

  told_number : T is_told → number_of (step s c).seen.answer ≡ 13
  unfolding is_told is_attention
  told_number t = eqb→eq _ 13 (and_r (eqb n c.nexus) _ t)

  told_own : T is_told → n ≡ c.nexus
  unfolding is_told
  told_own t = eqb→eq n c.nexus (and_l (eqb n c.nexus) (is_attention (step s c).seen.answer) t)

  untold_waits : T (not is_told) → waits (after step s c) n ≡ newest (sends step s c n) (waits s n)
  unfolding is_told newest is_attention
  untold_waits t = good_cases (step s c).seen.answer sent_waits (λ r. sym (kept r))
    where
      kept : T (refuses (step s c).seen.answer) → newest (sends step s c n) (waits s n) ≡ waits (after step s c) n
      kept r =
          ap (λ (y : ℕ). newest y (waits s n)) (refused_sends r)
          ∙ by_equal (number_of (step s c).seen.answer) 13 (λ _. waits s n ≡ waits (after step s c) n)
          (λ e. sym (others_wait s c e n (λ i. never is_told (both (eqb n c.nexus) _ (rw i (eqb_refl c.nexus)) (rw e tt)) t)))
          (λ k. ap (λ (x : Store). waits x n) (sym (refused_after s c r k)))

  -- what it is told, and what waits then
  told_is : T is_told → tells step s c n ≡ waits s n
  unfolding tells is_told
  told_is t = rw (T_true (eqb n c.nexus && is_attention (step s c).seen.answer) t)

  untold_is : T (not is_told) → tells step s c n ≡ 0
  unfolding tells is_told
  untold_is t = rw (T_false (eqb n c.nexus && is_attention (step s c).seen.answer) t)

  told_some : T is_told → waits s n ≢ 0
  told_some t = subst (λ (m : ℕ). waits s m ≢ 0) (sym (told_own t)) (only_then s c (told_number t)).0

  told_then : T is_told → waits (after step s c) n ≡ 0
  told_then t = subst (λ (m : ℕ). waits (after step s c) m ≡ 0) (sym (told_own t)) (cleared s c (told_number t))

-- ---- any history

front : (x : ℕ) (xs ys : List ℕ) → some x xs ++ ys ≡ some x (xs ++ ys)
unfolding some
front zero xs ys = refl
front (suc x) xs ys = refl

none_more : some 0 [] ≡ []
unfolding some
none_more = refl

none_first : (xs : List ℕ) → some 0 xs ≡ xs
unfolding some
none_first xs = refl

newest_none : (old : ℕ) → newest 0 old ≡ old
unfolding newest
newest_none old = refl

-- a list that begins with something is not empty
some_none : (x : ℕ) (xs : List ℕ) → some x xs ≡ [] → (x ≡ 0) × (xs ≡ [])
unfolding some
some_none zero xs e = (refl, e)
some_none (suc x) xs e = absurd (false≢true (ap is_none e))
  where
    is_none : List ℕ → Bool
    is_none [] = true
    is_none (y ∷ ys) = false

latest_some : (x old : ℕ) (xs : List ℕ) → latest (newest x old) xs ≡ latest old (some x xs)
unfolding latest newest some
latest_some zero old xs = refl
latest_some (suc x) old xs = refl

pub waits_on : (s : Store) (es : List Event) (n : ℕ) → T (usable s) → n ≤ 15 → told_to step n s es ≡ []
    → waits (after_all (machine step) s es) n ≡ latest (waits s n) (sent_to step n s es)
unfolding after_all after_event told_to sent_to latest
waits_on s [] n u h e = refl
waits_on s (call c ∷ es) n u h e =
    let k = some_none (tells step s c n) (told_to step n (after step s c) es) e in
    let quiet : T (not (is_told s c n u h)) = test (is_told s c n u h) (λ t. absurd (told_some s c n u h t (sym (told_is s c n u h t) ∙ k.0))) (λ t. t) in
    waits_on (after step s c) es n (usable_stays s c u) h k.1
    ∙ ap (λ (x : ℕ). latest x (sent_to step n (after step s c) es)) (untold_waits s c n u h quiet)
    ∙ latest_some (sends step s c n) (waits s n) (sent_to step n (after step s c) es)

pub next_told : (s : Store) (es : List Event) (c : Call) → T (usable s) → c.nexus ≤ 15 → told_to step c.nexus s es ≡ []
    → latest (waits s c.nexus) (sent_to step c.nexus s es) ≢ 0 → byte 0 c.cdb ≢ 0x12
    → number_of (step (after_all (machine step) s es) c).seen.answer ≢ 1 → number_of (step (after_all (machine step) s es) c).seen.answer ≢ 11
    → (step (after_all (machine step) s es) c).seen.answer ≡ Refused (refusal_of (latest (waits s c.nexus) (sent_to step c.nexus s es)))
next_told s es c u h e w q m n =
    let i = waits_on s es c.nexus u h e in
    returned (after_all (machine step) s es) c (λ z. w (sym i ∙ z)) q m n ∙ ap (λ (x : ℕ). Refused (refusal_of x)) i

module _ (s : Store) (c : Call) (es : List Event) (n : ℕ) (u : T (usable s)) (h : n ≤ 15) (k : sends step s c n ≡ 0) where
  end : List ℕ
  end = some (waits (after_all (machine step) (after step s c) es) n) []

  -- where a call sends nothing, and the law holds of those behind it
  once_by : told_to step n (after step s c) es ++ end ≡ some (waits (after step s c) n) []
      → some (tells step s c n) (told_to step n (after step s c) es) ++ end ≡ some (waits s n) []
  once_by rest =
      test (is_told s c n u h)
      (λ t. ap (λ (x : ℕ). some x (told_to step n (after step s c) es) ++ end) (told_is s c n u h t)
      ∙ front (waits s n) (told_to step n (after step s c) es) end
      ∙ ap (some (waits s n)) (rest ∙ ap (λ (x : ℕ). some x []) (told_then s c n u h t) ∙ none_more))
      (λ t. ap (λ (x : ℕ). some x (told_to step n (after step s c) es) ++ end) (untold_is s c n u h t)
      ∙ front 0 (told_to step n (after step s c) es) end ∙ none_first _ ∙ rest
      ∙ ap (λ (x : ℕ). some x []) (untold_waits s c n u h t ∙ ap (λ (x : ℕ). newest x (waits s n)) k ∙ newest_none (waits s n)))

pub once : (s : Store) (es : List Event) (n : ℕ) → T (usable s) → n ≤ 15 → sent_to step n s es ≡ []
    → told_to step n s es ++ some (waits (after_all (machine step) s es) n) [] ≡ some (waits s n) []
unfolding after_all after_event told_to sent_to end
once s [] n u h e = refl
once s (call c ∷ es) n u h e =
    let k = some_none (sends step s c n) (sent_to step n (after step s c) es) e in
    once_by s c es n u h k.0 (once (after step s c) es n (usable_stays s c u) h k.1)

pub none_lost : NoneLost step
none_lost = record { waits_on = waits_on; next_told = next_told; once = once }
