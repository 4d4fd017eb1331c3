-- Where the answers point: 2 names a field of the CDB that is there, 5 one of the list that is there, and no other answer names one.
-- Assumes nothing.
use mathlib.Core.Path.{◌≡◌, refl, sym, subst}
use mathlib.Core.Bool.{Bool, true, false, not, cond}
use mathlib.Core.List.{List, ◌∷◌}
use Prim.Native.Nat.{ℕ, ◌-◌, ◌≤◌}
use native.Mathlib.Nat.{min-le_right}
use native.Mathlib.Omega.{arith}
use borrow.Author.Tests.{ltb-true, ltb-false, eqb-true, not-false}
use lib.Dec.{T, T_not, ltb, eqb}
use lib.ListN.{length}
use Rattle.std.specs.Prelude.{Some, None}
use Rattle.fields.specs.Field.{byte}
use Rattle.fields.specs.Bits.{Bits, first_byte, top_bit, bit_count, number_in}
use Rattle.answers.specs.declared.Refusal.{Refusal}
use Rattle.answers.specs.declared.Refusal.TheVariants.{NotListed, InvalidField, OutOfRange, ListLength, ListField, NoPlace, OtherType, NoRoom, RegistrationsPreempted, ReservationsPreempted, ReservationsReleased}
use Rattle.answers.specs.declared.Answer.{Answer}
use Rattle.answers.specs.declared.Answer.TheVariants.{Good, Refused, Unusable, Short}
use Rattle.answers.specs.Answers.{codes_of, number_of, invalid_field, list_field, list_length}
use Rattle.answers.specs.Order.{Row, ◌if◌, first, refuses, first_of, refusing_by}
use Rattle.answers.proofs.OrderLaws.{row_fails, first_obeys}
use Rattle.pool.specs.Pool.{Pool}
use Rattle.rights.specs.declared.Rights.{Rights}
use Rattle.rights.specs.declared.Action.{Action}
use Rattle.descriptors.specs.Descriptors.{data_length_bits, most_descriptors, considered}
use Rattle.forms.specs.declared.Move.{Move}
use Rattle.forms.specs.declared.Move.TheVariants.{Read, Write, WriteSame, Unmap, Status}
use Rattle.forms.specs.declared.Command.{Command}
use Rattle.forms.specs.declared.Command.TheVariants.{Tells, Moves, Alters}
use Rattle.forms.specs.declared.Code.{Code}
use Rattle.forms.specs.declared.Request.{Request}
use Rattle.forms.specs.Forms.{Entry, action, lines, entry_for, entry_of, bytes_of, span_bits, Asked, nothing, asks, asked_of, list_length_in}
use Rattle.forms.specs.Tests.{length_rows, check_rows, check_of, test_checks, service_checks, code_checks, checks_of, field_rows}
use Rattle.forms.proofs.Table.{all, obeys, looked_up}
use Rattle.store.specs.Store.{Store, Call}
use Rattle.store.specs.Tell.{tell_rows}
use Rattle.store.specs.Move.{read_rows, write_rows, same_rows, unmap_rows, status_rows, move_rows}
use Rattle.store.specs.Alter.{alter_rows}
use Rattle.store.specs.Step.{command_rows, own_rows, answer_to}
use Rattle.store.proofs.Parts.{call_answer, store_answer, code_answer, length_answer, field_answer, guard_answer, parts, attention_answer}
use Rattle.demands.specs.Pointed.{Place, unplaced, placed, place_of, place_in}
use Rattle.store.proofs.Rows.{Each, first_is, next_is, none, call_each, store_each, code_each, length_each, attention_each, guard_each, field_each, own_each, fits, named_bytes, says}
use Rattle.rights.specs.Attentions.{refusal_of}

-- ---- places

-- what an answer names stands within so many bytes
unfoldable pub place_fits : ℕ → Place → Bool
place_fits long unplaced = true
place_fits long (placed at top n) = fits long at top n

-- a field that is wrong is named, and it stands in the CDB
unfoldable entry_fits : List ℕ → Entry → Bool
entry_fits cdb (Some code) = refusing_by (λ a. place_fits code.long (place_in a)) (check_rows (code_checks code) cdb)
entry_fits cdb None = true

entry_fits_law : (cdb : List ℕ) → T (entry_fits cdb (entry_of cdb))
unfolding entry_of entry_for lines all obeys entry_fits refusing_by code_checks service_checks test_checks check_of span_bits bytes_of check_rows place_fits place_in place_of fits first_byte top_bit bit_count
entry_fits_law cdb = looked_up (λ _ e. entry_fits cdb e) (byte 0 cdb) (action cdb) None lines tt tt

length_is : (code : Code) (cdb : List ℕ) → first (length_rows (Some code) cdb) ≡ Good → length cdb ≡ code.long
unfolding length_rows refuses
length_is code cdb g = eqb-true (length cdb) code.long (not-false _ (row_fails Unusable _ _ tt g))

fits_in : (e : Entry) (cdb : List ℕ) → T (entry_fits cdb e) → first (length_rows e cdb) ≡ Good → T (place_fits (length cdb) (place_in (first (field_rows e cdb))))
unfolding entry_fits field_rows checks_of check_rows first_of place_fits place_in
fits_in (Some code) cdb t g = rw (length_is code cdb g) (first_obeys (λ a. place_fits code.long (place_in a)) _ tt t)
fits_in None cdb t g = tt

module _ (cdb : List ℕ) where
  pub field_fits : first (length_rows (entry_of cdb) cdb) ≡ Good → T (place_fits (length cdb) (place_in (first (field_rows (entry_of cdb) cdb))))
  field_fits = fits_in (entry_of cdb) cdb (entry_fits_law cdb)

  pub field_named : T (says 2 (first (field_rows (entry_of cdb) cdb))) → (b : Bits) × (first (field_rows (entry_of cdb) cdb) ≡ invalid_field b)
  unfolding says number_of
  field_named =
      first_is (λ a. T (says 2 a) → (b : Bits) × (a ≡ invalid_field b)) (field_rows (entry_of cdb) cdb) (λ h. absurd h)
      (field_each _ (entry_of cdb) cdb (λ b h. (b, refl)))

-- a refusal that is neither 2 nor 5 names none
refusal_unplaced : (r : Refusal) → T (not (says 2 (Refused r))) → T (not (says 5 (Refused r))) → place_of r ≡ unplaced
unfolding says number_of codes_of place_of
refusal_unplaced NotListed t u = refl
refusal_unplaced (InvalidField at top n) t u = absurd t
refusal_unplaced (OutOfRange address) t u = refl
refusal_unplaced ListLength t u = refl
refusal_unplaced (ListField at top n) t u = absurd u
refusal_unplaced NoPlace t u = refl
refusal_unplaced OtherType t u = refl
refusal_unplaced (NoRoom address) t u = refl
refusal_unplaced RegistrationsPreempted t u = refl
refusal_unplaced ReservationsPreempted t u = refl
refusal_unplaced ReservationsReleased t u = refl

-- nor does one that returns what waits
told_unplaced : (x : ℕ) → place_of (refusal_of x) ≡ unplaced
unfolding refusal_of place_of
told_unplaced x = go (eqb x 1) (eqb x 2)
  where
    go : (b d : Bool) → place_of (cond b RegistrationsPreempted (cond d ReservationsPreempted ReservationsReleased)) ≡ unplaced
    go true d = refl
    go false true = refl
    go false false = refl

module _ (x : Asked) (s : Store) (c : Call) where
  pub own_named : T (says 5 (first (own_rows x s c))) → (b : Bits) × (first (own_rows x s c) ≡ list_field b)
  unfolding says number_of codes_of
  own_named =
      first_is (λ a. T (says 5 a) → (b : Bits) × (a ≡ list_field b)) (own_rows x s c) (λ h. absurd h)
      (own_each _ (record { short = λ h. absurd h; conflict = λ h. absurd h; nowhere = λ r t u _ h. absurd (T_not (says 5 (Refused r)) u h); named = λ b t h. (b, refl) }) x s c)

  pub own_fits : T (place_fits named_bytes (place_in (first (own_rows x s c))))
  unfolding place_fits place_in place_of
  own_fits =
      first_is (λ a. T (place_fits named_bytes (place_in a))) (own_rows x s c) tt
      (own_each _ (record { short = tt; conflict = tt; nowhere = λ r t u _. subst (λ (p : Place). T (place_fits named_bytes p)) (sym (refusal_unplaced r t u)) tt; named = λ b t. t }) x s c)

-- every other answer names none
pub nowhere_else : (s : Store) (c : Call) → T (not (says 2 (answer_to s c))) → T (not (says 5 (answer_to s c))) → place_in (answer_to s c) ≡ unplaced
unfolding says number_of codes_of place_in place_of
nowhere_else s c =
    rw (parts s c)
    (next_is Q (call_answer s.format c) _ (first_is Q _ (λ t u. refl) (call_each Q s.format c (λ t u. refl)))
    (next_is Q (store_answer s) _ (first_is Q _ (λ t u. refl) (store_each Q s (λ t u. refl)))
    (next_is Q (code_answer c) _ (first_is Q _ (λ t u. refl) (code_each Q (entry_of c.cdb) (λ t u. refl)))
    (next_is Q (length_answer c) _ (first_is Q _ (λ t u. refl) (length_each Q (entry_of c.cdb) c.cdb (λ t u. refl)))
    (next_is Q (attention_answer s.unit c) _ (first_is Q _ (λ t u. refl) (attention_each Q s.unit c.nexus c.cdb (λ x t u. told_unplaced x)))
    (next_is Q (field_answer c) _ (first_is Q _ (λ t u. refl) (field_each Q (entry_of c.cdb) c.cdb (λ b t u. absurd t)))
    (next_is Q (guard_answer s.unit c) _ (first_is Q _ (λ t u. refl) (guard_each Q (asked_of c.cdb) s.unit.rights c.nexus (λ t u. refl)))
    (first_is Q _ (λ t u. refl) (own_each Q (record { short = λ t u. refl; conflict = λ t u. refl; nowhere = λ r _ _ _ t u. refusal_unplaced r t u; named = λ b _ t u. absurd u }) (asked_of c.cdb) s c)))))))))
  where
    Q : Answer → Type 0
    Q a = T (not (says 2 a)) → T (not (says 5 a)) → place_in a ≡ unplaced

-- ---- where a field of a list is named, the list is as long as its first bytes

module _ (number : ℕ) where
  -- a row that does not answer so was passed
  pub row_past : (a : Answer) (x : Bool) (rows : List Row) → T (not (says number a)) → T (says number (first (a if x ∷ rows)))
      → (x ≡ false) × T (says number (first rows))
  unfolding first_of
  row_past a true rows n t = absurd (T_not (says number a) n t)
  row_past a false rows n t = (refl, t)

  -- a row behind which nothing answers so has answered
  pub row_held : (a : Answer) (x : Bool) (rows : List Row) → T (not (says number (first rows))) → T (says number (first (a if x ∷ rows))) → x ≡ true
  unfolding first_of
  row_held a true rows n t = refl
  row_held a false rows n t = absurd (T_not (says number (first rows)) n t)

  -- rows that do not answer so
  pub never : {X : Type 0} (rows : List Row) → T (not (says number Good)) → Each (λ a. T (not (says number a))) rows → T (says number (first rows)) → X
  never rows g e h = absurd (T_not (says number (first rows)) (none (says number) rows g e) h)

alter_long : (a : Action) (q : Request) (r : Rights) (n : ℕ) (data_out : List ℕ) → T (says 5 (first (alter_rows a q r n data_out))) → named_bytes ≤ length data_out
unfolding alter_rows says number_of codes_of
alter_long a q r n data_out h = ltb-false _ _ (row_past 5 Short _ _ tt (row_past 5 list_length _ _ tt h).1).0

unmap_long : (capacity n : ℕ) (data_out : List ℕ) → T (says 5 (first (unmap_rows capacity n data_out))) → named_bytes ≤ length data_out
unfolding unmap_rows considered says number_of codes_of Each
unmap_long capacity n data_out h =
    let sized = row_past 5 Short (ltb (length data_out) n) _ tt (row_past 5 list_length _ _ tt h).1 in
    let more = row_held 5 (list_field data_length_bits) (ltb most_descriptors (considered n data_out)) _ (none (says 5) _ tt (tt, tt)) sized.1 in
    omega (arith, ltb-false (length data_out) n sized.0, ltb-true most_descriptors (considered n data_out) more, min-le_right (number_in data_length_bits data_out) (n - 8))

move_long : (m : Move) (q : Request) (capacity : ℕ) (p : Pool) (c : Call) → T (says 5 (first (move_rows m q capacity p c))) → named_bytes ≤ length c.data_out
unfolding move_rows read_rows write_rows same_rows status_rows says number_of codes_of Each
move_long Read q capacity p c h = never 5 (move_rows Read q capacity p c) tt (tt, (tt, tt)) h
move_long Write q capacity p c h = never 5 (move_rows Write q capacity p c) tt (tt, (tt, (tt, tt))) h
move_long WriteSame q capacity p c h = never 5 (move_rows WriteSame q capacity p c) tt (tt, (tt, (tt, tt))) h
move_long Unmap q capacity p c h = unmap_long capacity (list_length_in q) c.data_out h
move_long Status q capacity p c h = never 5 (move_rows Status q capacity p c) tt (tt, (tt, tt)) h

command_long : (k : Command) (q : Request) (s : Store) (c : Call) → T (says 5 (first (command_rows k q s c))) → named_bytes ≤ length c.data_out
unfolding command_rows tell_rows says number_of Each
command_long (Tells t) q s c h = never 5 (tell_rows t q s.unit c.data_in) tt (tt, tt) h
command_long (Moves m) q s c h = move_long m q s.unit.capacity s.pool c h
command_long (Alters a) q s c h = alter_long a q s.unit.rights c.nexus c.data_out h

pub own_long : (x : Asked) (s : Store) (c : Call) → T (says 5 (first (own_rows x s c))) → named_bytes ≤ length c.data_out
unfolding own_rows says number_of first_of
own_long nothing s c h = absurd h
own_long (asks q) s c h = command_long q.command q s c h
