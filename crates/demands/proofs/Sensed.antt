-- Sense data in both formats, proved of `step`: what a host reads is what was meant, and the address is the one that the request names.
-- Assumes nothing.
use mathlib.Core.Path.{◌≡◌, refl, sym, ap, ◌∙◌, subst}
use mathlib.Core.Logic.{◌≢◌}
use mathlib.Core.Bool.{Bool, true, false, not, ◌&&◌, ◌||◌, cond, false≢true}
use mathlib.Core.List.{List, [], ◌∷◌}
use Prim.Native.Nat.{ℕ, zero, suc, ◌+◌, ◌^◌, ◌≤◌, ◌<◌}
use native.Mathlib.Nat.{mod-eq_of_lt}
use borrow.Author.Tests.{ltb-true, ltb-false, lt-ltb, le-ltb, le-leb, lt-leb}
use lib.Dec.{T, lit<, lit≤, leb, ltb, le→leb}
use lib.ListN.{length}
use Rattle.std.specs.Prelude.{Some, None}
use Rattle.fields.specs.Field.{field}
use Rattle.fields.specs.Bits.{number_in}
use Rattle.fields.proofs.Tests.{both, not_map, and_l}
use Rattle.fields.proofs.FieldLaws.{field_below, below_64}
use Rattle.answers.specs.declared.Refusal.{Refusal}
use Rattle.answers.specs.declared.Refusal.TheVariants.{NotListed, InvalidField, OutOfRange, ListLength, ListField, NoPlace, OtherType, NoRoom, RegistrationsPreempted, ReservationsPreempted, ReservationsReleased}
use Rattle.answers.specs.declared.Answer.{Answer}
use Rattle.answers.specs.declared.Answer.TheVariants.{Good, Refused, Conflict, Unusable, Short}
use Rattle.answers.specs.Answers.{codes_of, number_of, out_of_range, no_room, list_length, list_field}
use Rattle.answers.specs.Order.{Row, ◌if◌, first, next, first_of, refuses}
use Rattle.answers.specs.Sense.{fixed, descriptor, format_ok, sense_bytes, sense_written}
use Rattle.answers.proofs.OrderLaws.{next_refuses}
use Rattle.std.specs.Prelude.{Some as Told}
use Rattle.descriptors.specs.Descriptors.{descriptor_at, data_length_bits, most_descriptors, considered, fails, first_failing, address_of as addressAt, some_fails}
use Rattle.descriptors.proofs.Takes.{first_here, first_later}
use Rattle.forms.specs.declared.Field.TheVariants.{Two, Four, Eight}
use Rattle.forms.specs.declared.Move.{Move}
use Rattle.forms.specs.declared.Move.TheVariants.{Read, Write, WriteSame, Unmap, Status}
use Rattle.forms.specs.declared.Command.{Command}
use Rattle.forms.specs.declared.Command.TheVariants.{Tells, Moves, Alters}
use Rattle.forms.specs.declared.Request.{Request}
use Rattle.forms.specs.Forms.{Span, bytes_of, span_bits, number, request_by, Asked, nothing, asks, asked_of, list_length_in}
use Rattle.forms.proofs.Fields.{asked_row}
use Rattle.pool.specs.Pool.{Pool}
use Rattle.store.specs.Store.{Store, Call, usable}
use Rattle.store.specs.Tell.{tell_rows}
use Rattle.store.specs.Move.{read_rows, write_rows, same_rows, unmap_rows, status_rows, move_rows}
use Rattle.store.specs.Alter.{alter_rows}
use Rattle.store.specs.Step.{call_rows, command_rows, own_rows, step}
use Rattle.store.proofs.Parts.{call_answer, own_answer, parts}
use Rattle.store.proofs.StoreLaws.{step_answer}
use Rattle.demands.specs.Contents.{Asks, address_in, descriptors_from, descriptors_of}
use Rattle.demands.specs.Pointed.{AreBytes}
use Rattle.demands.specs.SenseRead.{sense_long, Information, absent, present, information_in}
use Rattle.demands.specs.Sensed.{ReadsAs, address_of, all_inside, FirstFails, with_sense, Sensed}
use Rattle.demands.proofs.Usable.{format_after}
use Rattle.demands.proofs.Fresh.{unusable_eleven}
use Rattle.store.proofs.Rows.{Each, first_is, none, AlterAnswers, alter_each, says}
use Rattle.demands.proofs.Answering.{OwnNumber, own_is, own_says, three_own, eight_own}
use Rattle.demands.proofs.Named.{row_past, row_held, never}
use Rattle.demands.proofs.Pointed.{says_seen}
use Rattle.demands.proofs.SenseRead.{data_reads, fitting, wrapping, Exactly, fixed_told, exactly_told, described_told}
use Rattle.demands.proofs.SenseTold.{format_is, sense_is, long_read}

-- ---- the format

format_none : (s : Store) (c : Call) → T (not (format_ok s.format)) → (step s c).seen.answer ≡ Unusable
unfolding usable
format_none s c t = unusable_eleven s c (not_map (format_ok s.format) (usable s) (λ u. and_l (format_ok s.format) _ u) t)

-- ---- the buffer for sense

-- three rows that give 11, of which the last holds
third_eleven : (a b : Bool) → first (Unusable if a ∷ Unusable if b ∷ Unusable if true ∷ []) ≡ Unusable
unfolding first_of
third_eleven true b = refl
third_eleven false true = refl
third_eleven false false = refl

call_short : (format : ℕ) (c : Call) → length c.sense < sense_bytes format → call_answer format c ≡ Unusable
unfolding call_rows
call_short format c h = rw (lt-ltb _ _ h) (third_eleven _ _)

eleven_first : (a b : Answer) → a ≡ Unusable → next a b ≡ Unusable
unfolding refuses
eleven_first a b e = rw e (next_refuses Unusable b tt)

short_eleven : (s : Store) (c : Call) → length c.sense < sense_bytes s.format → (step s c).seen.answer ≡ Unusable
short_eleven s c h = step_answer s c ∙ parts s c ∙ eleven_first (call_answer s.format c) _ (call_short s.format c h)

fixed_short : (s : Store) (c : Call) → s.format ≡ fixed → length c.sense < 18 → (step s c).seen.answer ≡ Unusable
unfolding sense_bytes
fixed_short s c e h = short_eleven s c (rw e h)

descriptor_short : (s : Store) (c : Call) → s.format ≡ descriptor → length c.sense < 20 → (step s c).seen.answer ≡ Unusable
unfolding sense_bytes
descriptor_short s c e h = short_eleven s c (rw e h)

-- nothing but the first tests looks at it
module _ (s : Store) (c : Call) (sense : List ℕ) where
  move_unseen : (m : Move) (q : Request) (capacity : ℕ) (p : Pool) → move_rows m q capacity p (with_sense c sense) ≡ move_rows m q capacity p c
  unfolding move_rows
  move_unseen Read q capacity p = refl
  move_unseen Write q capacity p = refl
  move_unseen WriteSame q capacity p = refl
  move_unseen Unmap q capacity p = refl
  move_unseen Status q capacity p = refl

  command_unseen : (k : Command) (q : Request) → command_rows k q s (with_sense c sense) ≡ command_rows k q s c
  unfolding command_rows
  command_unseen (Tells t) q = refl
  command_unseen (Moves m) q = move_unseen m q s.unit.capacity s.pool
  command_unseen (Alters a) q = refl

  own_unseen : (x : Asked) → first (own_rows x s (with_sense c sense)) ≡ first (own_rows x s c)
  unfolding own_rows
  own_unseen nothing = refl
  own_unseen (asks q) = ap first (command_unseen q.command q)

  module _ (h : sense_bytes s.format ≤ length c.sense) (k : sense_bytes s.format ≤ length sense) where
    call_unseen : call_answer s.format (with_sense c sense) ≡ call_answer s.format c
    unfolding call_rows
    call_unseen = rw (le-ltb _ _ h, le-ltb _ _ k)

    long_enough : (step s (with_sense c sense)).seen.answer ≡ (step s c).seen.answer
    long_enough =
        step_answer s (with_sense c sense) ∙ parts s (with_sense c sense)
        ∙ rw (call_unseen, own_unseen (asked_of c.cdb)) (sym (step_answer s c ∙ parts s c))

-- ---- key, codes and length

codes : (s : Store) (c : Call) (x : Refusal) → (step s c).seen.answer ≡ Refused x → ReadsAs s.format (codes_of x) (step s c).seen.sense
codes s c x e = rw (sense_is s c x e) (data_reads s.format x _ (format_is s c x e))

long : (s : Store) (c : Call) (x : Refusal) → (step s c).seen.answer ≡ Refused x
    → sense_long (step s c).seen.sense ≡ sense_written s.format (step s c).seen.answer
long s c x e = long_read s c x e ∙ ap (sense_written s.format) (sym e)

-- ---- which commands answer 3 and 8

-- a number that no row gives of a command that tells, or of PERSISTENT RESERVE OUT
record OfMoves (n : ℕ) : Type 0 where
  own : OwnNumber n
  short : T (not (says n Short))
  alters : AlterAnswers (λ a. T (not (says n a)))

three_moves : OfMoves 3
unfolding says number_of codes_of
three_moves = record {
  own = three_own;
  short = tt;
  alters = record { short = tt; conflict = tt; no_length = tt; no_place_law = tt; other_type_law = tt; named = λ b t. tt };
}

eight_moves : OfMoves 8
unfolding says number_of codes_of
eight_moves = record {
  own = eight_own;
  short = tt;
  alters = record { short = tt; conflict = tt; no_length = tt; no_place_law = tt; other_type_law = tt; named = λ b t. tt };
}

module _ (n : ℕ) (w : OfMoves n) where
  command_moves : (k : Command) (q : Request) (s : Store) (c : Call) → T (says n (first (command_rows k q s c))) → (m : Move) × (k ≡ Moves m)
  unfolding command_rows tell_rows Each
  command_moves (Tells t) q s c h = never n (tell_rows t q s.unit c.data_in) w.own.good (w.short, tt) h
  command_moves (Moves m) q s c h = (m, refl)
  command_moves (Alters a) q s c h =
      never n (alter_rows a q s.unit.rights c.nexus c.data_out) w.own.good (alter_each _ w.alters a q s.unit.rights c.nexus c.data_out) h

  asked_by : (s : Store) (c : Call) → number_of (step s c).seen.answer ≡ n → (m : Move) × Asks m c
  unfolding own_rows first_of Each
  asked_by s c e = go (asked_of c.cdb) refl (own_says n w.own s c (says_seen s c n e))
    where
      go : (x : Asked) → asked_of c.cdb ≡ x → T (says n (first (own_rows x s c))) → (m : Move) × Asks m c
      go nothing a h = absurd (never n [] w.own.good tt h)
      go (asks q) a h = let found = command_moves q.command q s c h in (found.0, record { request = q; is = a; command = found.1 })

-- ---- the address that they name

-- what a call on the blocks is answered where its own rows answer
module _ (n : ℕ) (w : OwnNumber n) {m : Move} (s : Store) (c : Call) (a : Asks m c) (e : number_of (step s c).seen.answer ≡ n) where
  abbrev rows : List Row
  rows = move_rows m a.request s.unit.capacity s.pool c

  rows_are : own_answer s c ≡ first rows
  unfolding own_rows command_rows
  rows_are = rw (a.is, a.command)

  by_rows : (step s c).seen.answer ≡ first rows
  by_rows = step_answer s c ∙ own_is n w s c (says_seen s c n e) ∙ rows_are

  pub rows_say : T (says n (first rows))
  rows_say = subst (λ (x : Answer). T (says n x)) rows_are (own_says n w s c (says_seen s c n e))

range_address : (m : Move) → m ≢ Unmap → (s : Store) (c : Call) (a : Asks m c) → number_of (step s c).seen.answer ≡ 3
    → (step s c).seen.answer ≡ out_of_range (address_in a.request)
unfolding move_rows read_rows write_rows same_rows status_rows says number_of codes_of Each
range_address m d s c a e = by_rows 3 three_own s c a e ∙ go m d a.request s.unit.capacity s.pool (rows_say 3 three_own s c a e)
  where
    go : (m : Move) → m ≢ Unmap → (q : Request) (capacity : ℕ) (p : Pool) → T (says 3 (first (move_rows m q capacity p c)))
        → first (move_rows m q capacity p c) ≡ out_of_range (address_in q)
    go Read d q capacity p = first_is (λ x. T (says 3 x) → x ≡ out_of_range (address_in q)) _ (λ h. absurd h) (λ h. refl, (λ h. absurd h, tt))
    go Write d q capacity p = first_is (λ x. T (says 3 x) → x ≡ out_of_range (address_in q)) _ (λ h. absurd h) (λ h. refl, (λ h. absurd h, (λ h. absurd h, tt)))
    go WriteSame d q capacity p = first_is (λ x. T (says 3 x) → x ≡ out_of_range (address_in q)) _ (λ h. absurd h) (λ h. refl, (λ h. absurd h, (λ h. absurd h, tt)))
    go Unmap d q capacity p = absurd (d refl)
    go Status d q capacity p = first_is (λ x. T (says 3 x) → x ≡ out_of_range (address_in q)) _ (λ h. absurd h) (λ h. refl, (λ h. absurd h, tt))

room_address : (m : Move) (s : Store) (c : Call) (a : Asks m c) → number_of (step s c).seen.answer ≡ 8
    → (step s c).seen.answer ≡ no_room (address_in a.request)
unfolding move_rows read_rows write_rows same_rows unmap_rows status_rows says number_of codes_of Each
room_address m s c a e = by_rows 8 eight_own s c a e ∙ go m a.request s.unit.capacity s.pool (rows_say 8 eight_own s c a e)
  where
    go : (m : Move) (q : Request) (capacity : ℕ) (p : Pool) → T (says 8 (first (move_rows m q capacity p c)))
        → first (move_rows m q capacity p c) ≡ no_room (address_in q)
    go Read q capacity p = first_is (λ x. T (says 8 x) → x ≡ no_room (address_in q)) _ (λ h. absurd h) (λ h. absurd h, (λ h. absurd h, tt))
    go Write q capacity p = first_is (λ x. T (says 8 x) → x ≡ no_room (address_in q)) _ (λ h. absurd h) (λ h. absurd h, (λ h. absurd h, (λ h. refl, tt)))
    go WriteSame q capacity p = first_is (λ x. T (says 8 x) → x ≡ no_room (address_in q)) _ (λ h. absurd h) (λ h. absurd h, (λ h. absurd h, (λ h. refl, tt)))
    go Unmap q capacity p =
        first_is (λ x. T (says 8 x) → x ≡ no_room (address_in q)) _ (λ h. absurd h) (λ h. absurd h, (λ h. absurd h, (λ h. absurd h, (λ h. absurd h, tt))))
    go Status q capacity p = first_is (λ x. T (says 8 x) → x ≡ no_room (address_in q)) _ (λ h. absurd h) (λ h. absurd h, (λ h. absurd h, tt))

-- ---- UNMAP: the first descriptor that fails

module _ (capacity : ℕ) (list : List ℕ) where
  first_fails : (at n : ℕ) → some_fails capacity list at n ≡ true
      → FirstFails capacity (descriptors_from list at n) (addressAt (first_failing capacity list at n))
  unfolding some_fails descriptors_from all_inside fails addressAt
  first_fails at zero e = absurd (false≢true e)
  first_fails at (suc n) e = go (fails capacity (descriptor_at list at)) refl e (λ k. first_fails (at + 16) n k)
    where
      go : (b : Bool) → fails capacity (descriptor_at list at) ≡ b → (b || some_fails capacity list (at + 16) n) ≡ true
          → (some_fails capacity list (at + 16) n ≡ true → FirstFails capacity (descriptors_from list (at + 16) n) (addressAt (first_failing capacity list (at + 16) n)))
          → FirstFails capacity (descriptors_from list at (suc n)) (addressAt (first_failing capacity list at (suc n)))
      go true h k behind = record {
        before = [];
        failing = descriptor_at list at;
        behind = descriptors_from list (at + 16) n;
        list = refl;
        inside = tt;
        past = ltb-true _ _ h;
        begins = sym (ap addressAt (first_here capacity list at n h));
      }
      go false h k behind =
          let later = behind k in
          record {
            before = descriptor_at list at ∷ later.before;
            failing = later.failing;
            behind = later.behind;
            list = ap (λ ds. descriptor_at list at ∷ ds) later.list;
            inside =
                both (leb ((descriptor_at list at).address.0 + (descriptor_at list at).count) capacity) (all_inside capacity later.before)
                (le→leb ((descriptor_at list at).address.0 + (descriptor_at list at).count) capacity (ltb-false capacity ((descriptor_at list at).address.0 + (descriptor_at list at).count) h))
                later.inside;
            past = later.past;
            begins = later.begins ∙ sym (ap addressAt (first_later capacity list at n h));
          }

-- 3 is its last row's
unmap_held : (capacity n : ℕ) (list : List ℕ) → T (says 3 (first (unmap_rows capacity n list))) → some_fails capacity list 8 (considered n list) ≡ true
unfolding unmap_rows says number_of codes_of Each
unmap_held capacity n list h =
    let sized = row_past 3 list_length (leb 1 n && leb n 7) _ tt h in
    let there = row_past 3 Short (ltb (length list) n) _ tt sized.1 in
    let counted = row_past 3 (list_field data_length_bits) (ltb most_descriptors (considered n list)) _ tt there.1 in
    row_held 3 (out_of_range (addressAt (first_failing capacity list 8 (considered n list)))) (some_fails capacity list 8 (considered n list)) []
    (none (says 3) [] tt tt) counted.1

-- what UNMAP is answered, and that a descriptor fails
module _ (s : Store) (c : Call) (a : Asks Unmap c) (e : number_of (step s c).seen.answer ≡ 3) where
  abbrev taken : ℕ
  taken = considered (list_length_in a.request) c.data_out

  unmap_fails : some_fails s.unit.capacity c.data_out 8 taken ≡ true
  unfolding move_rows
  unmap_fails = unmap_held s.unit.capacity (list_length_in a.request) c.data_out (rows_say 3 three_own s c a e)

  unmap_is : (step s c).seen.answer ≡ out_of_range (addressAt (first_failing s.unit.capacity c.data_out 8 taken))
  unfolding move_rows unmap_rows says number_of codes_of Each
  unmap_is =
      by_rows 3 three_own s c a e
      ∙ first_is (λ x. T (says 3 x) → x ≡ out_of_range (addressAt (first_failing s.unit.capacity c.data_out 8 taken))) _ (λ h. absurd h)
      (λ h. absurd h, (λ h. absurd h, (λ h. absurd h, (λ h. refl, tt)))) (rows_say 3 three_own s c a e)

  unmap_address : (address : ℕ) × ((step s c).seen.answer ≡ out_of_range address)
      × FirstFails s.unit.capacity (descriptors_of a.request c.data_out) address
  unfolding descriptors_of
  unmap_address = (_, unmap_is, first_fails s.unit.capacity c.data_out 8 taken unmap_fails)

-- ---- every address of a call has at most 64 bits

module _ (cdb : List ℕ) (h : AreBytes cdb) where
  span_below : (span : Span) → number span cdb < 2 ^ 64
  unfolding number span_bits bytes_of number_in field
  span_below None = lit< tt
  span_below (Some (Two at)) = below_64 2 _ (lit≤ tt) (field_below at 2 cdb h)
  span_below (Some (Four at)) = below_64 4 _ (lit≤ tt) (field_below at 4 cdb h)
  span_below (Some (Eight at)) = below_64 8 _ (lit≤ tt) (field_below at 8 cdb h)

  request_below : (q : Request) → asked_of cdb ≡ asks q → address_in q < 2 ^ 64
  unfolding request_by
  request_below q a =
      let row = asked_row cdb q a in
      subst (λ (x : Request). address_in x < 2 ^ 64) row.request (span_below row.form.address)

failing_below : (capacity : ℕ) (list : List ℕ) → AreBytes list → (at n : ℕ) → addressAt (first_failing capacity list at n) < 2 ^ 64
unfolding first_failing addressAt descriptor_at
failing_below capacity list h at zero = lit< tt
failing_below capacity list h at (suc n) = go (fails capacity (descriptor_at list at)) (failing_below capacity list h (at + 16) n)
  where
    go : (b : Bool) → addressAt (first_failing capacity list (at + 16) n) < 2 ^ 64
        → addressAt (cond b (Told (descriptor_at list at).address) (first_failing capacity list (at + 16) n)) < 2 ^ 64
    go true k = below_64 8 _ (lit≤ tt) (field_below at 8 list h)
    go false k = k

-- the address in an answer
unfoldable pub told_in : Answer → Information
told_in Good = absent
told_in (Refused x) = address_of x
told_in Conflict = absent
told_in Unusable = absent
told_in Short = absent

abbrev Whole : Answer → Type 0
Whole a = wrapping (told_in a) ≡ told_in a

unfoldable is_unmap : Move → Bool
is_unmap Read = false
is_unmap Write = false
is_unmap WriteSame = false
is_unmap Unmap = true
is_unmap Status = false

other_move : (m : Move) → T (not (is_unmap m)) → m ≢ Unmap
unfolding is_unmap
other_move m t e = subst (λ (x : Move). T (not (is_unmap x))) e t

module _ (s : Store) (c : Call) (h : AreBytes c.cdb) (k : AreBytes c.data_out) where
  range_whole : number_of (step s c).seen.answer ≡ 3 → Whole (step s c).seen.answer
  unfolding told_in address_of wrapping is_unmap
  range_whole e = let found = asked_by 3 three_moves s c e in go found.0 found.1
    where
      go : (m : Move) → Asks m c → Whole (step s c).seen.answer
      go Read a = rw (range_address Read (other_move Read tt) s c a e) (ap present (mod-eq_of_lt (request_below c.cdb h a.request a.is)))
      go Write a = rw (range_address Write (other_move Write tt) s c a e) (ap present (mod-eq_of_lt (request_below c.cdb h a.request a.is)))
      go WriteSame a = rw (range_address WriteSame (other_move WriteSame tt) s c a e) (ap present (mod-eq_of_lt (request_below c.cdb h a.request a.is)))
      go Unmap a = rw (unmap_is s c a e) (ap present (mod-eq_of_lt (failing_below s.unit.capacity c.data_out k 8 _)))
      go Status a = rw (range_address Status (other_move Status tt) s c a e) (ap present (mod-eq_of_lt (request_below c.cdb h a.request a.is)))

  room_whole : number_of (step s c).seen.answer ≡ 8 → Whole (step s c).seen.answer
  unfolding told_in address_of wrapping
  room_whole e =
      let found = asked_by 8 eight_moves s c e in
      rw (room_address found.0 s c found.1 e) (ap present (mod-eq_of_lt (request_below c.cdb h found.1.request found.1.is)))

  address_whole : (x : Refusal) → (step s c).seen.answer ≡ Refused x → wrapping (address_of x) ≡ address_of x
  unfolding told_in address_of wrapping number_of codes_of
  address_whole NotListed e = refl
  address_whole (InvalidField at top n) e = refl
  address_whole (OutOfRange address) e = subst Whole e (range_whole (ap number_of e))
  address_whole ListLength e = refl
  address_whole (ListField at top n) e = refl
  address_whole NoPlace e = refl
  address_whole OtherType e = refl
  address_whole (NoRoom address) e = subst Whole e (room_whole (ap number_of e))
  address_whole RegistrationsPreempted e = refl
  address_whole ReservationsPreempted e = refl
  address_whole ReservationsReleased e = refl

-- ---- the address, read

descriptor_address : (s : Store) (c : Call) (x : Refusal) → s.format ≡ descriptor → AreBytes c.cdb → AreBytes c.data_out
    → (step s c).seen.answer ≡ Refused x → information_in (step s c).seen.sense ≡ address_of x
descriptor_address s c x f h k e =
    ap information_in (sense_is s c x e) ∙ rw f (described_told x _) ∙ address_whole s c h k x e

module _ (s : Store) (c : Call) (x : Refusal) (address : ℕ) (f : s.format ≡ fixed) (e : (step s c).seen.answer ≡ Refused x)
    (is : address_of x ≡ present address) where
  fixed_reads : information_in (step s c).seen.sense ≡ fitting (present address)
  fixed_reads = ap information_in (sense_is s c x e) ∙ rw f (fixed_told x _) ∙ ap fitting is

  fixed_address : address ≤ 0xFFFF_FFFF → information_in (step s c).seen.sense ≡ present address
  unfolding fitting
  fixed_address h = fixed_reads ∙ ap (λ (b : Bool). cond b (present address) absent) (le-leb _ _ h)

  fixed_none : 0xFFFF_FFFF < address → information_in (step s c).seen.sense ≡ absent
  unfolding fitting
  fixed_none h = fixed_reads ∙ ap (λ (b : Bool). cond b (present address) absent) (lt-leb _ _ h)

never_clipped : (s : Store) (c : Call) (x : Refusal) → s.format ≡ fixed → (step s c).seen.answer ≡ Refused x → Exactly (address_of x) (step s c).seen.sense
never_clipped s c x f e = rw (sense_is s c x e, f) (exactly_told x _)

pub sensed : Sensed step
sensed = record {
  format_stays = format_after;
  format_none = format_none;
  fixed_short = fixed_short;
  descriptor_short = descriptor_short;
  long_enough = long_enough;
  codes = codes;
  long = long;
  range_asked = asked_by 3 three_moves;
  room_asked = asked_by 8 eight_moves;
  range_address = range_address;
  room_address = room_address;
  unmap_address = unmap_address;
  descriptor_address = descriptor_address;
  fixed_address = fixed_address;
  fixed_none = fixed_none;
  never_clipped = never_clipped;
}
