-- The 10 and 16 byte forms of READ and WRITE: one law over the row of fields and its widths, and the two forms as its instances. What they refuse for a
-- wrong field they refuse alike, but each form has its own place for NACA and for the count, and Q-4 has it told.
-- Assumes nothing.
use mathlib.Core.Path.{◌≡◌, refl, sym, ap, ap₂, ◌∙◌}
use mathlib.Core.Logic.{◌≢◌}
use mathlib.Core.Bool.{Bool, true, false, not}
use mathlib.Core.List.{List, ◌∷◌, ◌++◌}
use Prim.Native.Nat.{ℕ, ◌+◌, ◌-◌, ◌^◌, ◌<◌}
use native.Mathlib.Omega.{arith}
use native.Mathlib.Nat.{add-zero, mod-eq_of_lt, lt_of_lt_of_le}
use borrow.Author.Tests.{ne_eqb}
use lib.Dec.{T, ltb, lit≤}
use lib.ListN.{length}
use lib.Seq.{drop_at}
use Rattle.std.specs.Prelude.{Some}
use Rattle.fields.specs.Bytes.{zeros}
use Rattle.fields.specs.Field.{byte, bit, field, bytes}
use Rattle.fields.specs.Bits.{Bits, number_in}
use Rattle.fields.proofs.BytesLaws.{length_zeros}
use Rattle.fields.proofs.FieldLaws.{field_drop, field_bytes, length_bytes}
use Rattle.answers.specs.declared.Answer.{Answer}
use Rattle.answers.specs.Answers.{invalid_field, codes_of, number_of}
use Rattle.answers.specs.Order.{◌if◌, first, next, refuses, first_of, next_by}
use Rattle.answers.proofs.OrderLaws.{next_after, next_refuses, good_cases}
use Rattle.pool.specs.Bounds.{most_transfer}
use Rattle.pool.specs.Pool.{Pool}
use Rattle.forms.specs.declared.Move.{Move}
use Rattle.forms.specs.declared.Move.TheVariants.{Read, Write, WriteSame, Unmap, Status}
use Rattle.forms.specs.declared.Command.TheVariants.{Moves}
use Rattle.forms.specs.declared.Test.TheVariants.{Nothing, Protection, Count}
use Rattle.forms.specs.declared.Form.{Form}
use Rattle.forms.specs.declared.Request.{Request}
use Rattle.forms.specs.Forms.{Entry, protection_bits, two, four, eight, bytes_of, span_bits, form, action, takes, lines, listed, lookup, entry_for, entry_of, number, request_by, asked_by, asked_in, asked_of, count_in}
use Rattle.forms.specs.Tests.{code_rows, length_rows, not_zero, wrong_in, check_of, field_rows}
use Rattle.forms.proofs.Fields.{tests_of}
use Rattle.store.specs.Store.{Store, Call, Seen, with_pool, leaves, seen_of, with_unit, refused_unit}
use Rattle.store.specs.Move.{move_rows, moved, fetched}
use Rattle.store.specs.Step.{call_rows, guard_rows, own_rows, step, answer_to, attention_rows, store_by}
use Rattle.store.proofs.Parts.{field_answer, parts, asked_due}
use Rattle.store.proofs.StoreLaws.{step_answer, step_seen, step_store}
use Rattle.demands.specs.Contents.{Asks, SameRange, is_transfer, long_of, control, SaysSame, SameButPlace, transfer_cdb, cdb10, cdb16, call_with}
use Rattle.demands.proofs.Moving.{asks_guard, asks_rows, asks_data, asks_store}
use Rattle.demands.proofs.Fielded.{code_rows_law, not_empty, length_rows_law, naca_bits, nowhere, size_span, size_is, three_rows, move_rows_law}
use Rattle.forms.proofs.Table.{is_inquiring}

-- ---- one CDB by its row

transfer_tests : (m : Move) → T (is_transfer m) → tests_of m ≡ (Protection, Count, Nothing)
unfolding is_transfer tests_of
transfer_tests Read t = refl
transfer_tests Write t = refl
transfer_tests WriteSame t = absurd t
transfer_tests Unmap t = absurd t
transfer_tests Status t = absurd t

unfoldable pub protection_in : List ℕ → Bool
protection_in cdb = not_zero (number_in protection_bits cdb)

pub field_rows_law : (m : Move) → T (is_transfer m) → (c : Call) (a : Asks m c) → field_rows (entry_of c.cdb) c.cdb
    ≡ invalid_field (naca_bits c) if bit 2 (control c)
    ∷ three_rows protection_bits (span_bits (size_span a)) nowhere (protection_in c.cdb) (ltb most_transfer (count_in a.request)) false
unfolding check_of wrong_in protection_in number
field_rows_law m t c a = move_rows_law m c a ∙ rw (transfer_tests m t, size_is a)

-- ---- the same requests

module _ (p q : Request) (e : SameRange p q) (c d : Call) (i : c.data_in ≡ d.data_in) (o : c.data_out ≡ d.data_out) where
  rows_same : (m : Move) (capacity : ℕ) (x : Pool) → T (is_transfer m) → move_rows m p capacity x c ≡ move_rows m q capacity x d
  unfolding move_rows is_transfer
  rows_same Read capacity x t = rw (e.address, e.count, i)
  rows_same Write capacity x t = rw (e.address, e.count, o)
  rows_same WriteSame capacity x t = absurd t
  rows_same Unmap capacity x t = absurd t
  rows_same Status capacity x t = absurd t

  fetched_same : (m : Move) (capacity : ℕ) (x : Pool) → T (is_transfer m) → fetched m p capacity x ≡ fetched m q capacity x
  unfolding fetched is_transfer
  fetched_same Read capacity x t = rw (e.address, e.count)
  fetched_same Write capacity x t = refl
  fetched_same WriteSame capacity x t = absurd t
  fetched_same Unmap capacity x t = absurd t
  fetched_same Status capacity x t = absurd t

  moved_same : (m : Move) (x : Pool) → T (is_transfer m) → moved m p x c ≡ moved m q x d
  unfolding moved is_transfer
  moved_same Read x t = refl
  moved_same Write x t = rw (e.address, e.count, o)
  moved_same WriteSame x t = absurd t
  moved_same Unmap x t = absurd t
  moved_same Status x t = absurd t

-- ---- the same but for the place of a wrong field

-- answers: the same number, and where it is not 2 the same answer
record Alike (x y : Answer) : Type 0 where
  pub number : number_of x ≡ number_of y
  pub same : number_of x ≢ 2 → x ≡ y

itself : (x : Answer) → Alike x x
itself x = record { number = refl; same = λ _. refl }

-- whoever stands before them
behind : (a x y : Answer) → Alike x y → Alike (next a x) (next a y)
behind a x y h =
    good_cases a (λ g. rw (next_after a x g, next_after a y g) h) (λ t. rw (next_refuses a x t, next_refuses a y t) (itself a))

-- the same tests of fields at different places, and the same behind them
places_alike : (p p' q q' r r' : Bits) (n x y : Bool) (a : Answer)
    → Alike (next (first (invalid_field p if n ∷ three_rows q r nowhere x y false)) a)
    (next (first (invalid_field p' if n ∷ three_rows q' r' nowhere x y false)) a)
unfolding first_of next_by refuses number_of codes_of
places_alike p p' q q' r r' true x y a = record { number = refl; same = λ d. absurd (d refl) }
places_alike p p' q q' r r' false true y a = record { number = refl; same = λ d. absurd (d refl) }
places_alike p p' q q' r r' false false true a = record { number = refl; same = λ d. absurd (d refl) }
places_alike p p' q q' r r' false false false a = itself a

-- tests that say the same
tests_alike : (p p' q q' r r' : Bits) (n n' x x' y y' : Bool) (a : Answer) → n ≡ n' → x ≡ x' → y ≡ y'
    → Alike (next (first (invalid_field p if n ∷ three_rows q r nowhere x y false)) a)
    (next (first (invalid_field p' if n' ∷ three_rows q' r' nowhere x' y' false)) a)
tests_alike p p' q q' r r' n n' x x' y y' a i j k = rw (i, j, k) (places_alike p p' q q' r r' n' x' y' a)

-- ---- of whole calls

module _ (m : Move) (t : T (is_transfer m)) (s : Store) (c d : Call) (a : Asks m c) (b : Asks m d) (e : SaysSame a b) where
  flags_same : protection_in c.cdb ≡ protection_in d.cdb
  unfolding protection_in not_zero number_in
  flags_same = ap not e.flags

  call_same : call_rows s.format c ≡ call_rows s.format d
  unfolding call_rows
  call_same =
      let p = not_empty a e.first_long in
      let q = not_empty b e.second_long in
      rw (e.nexus, ne_eqb (length c.cdb) 0 (omega arith), ne_eqb (length d.cdb) 0 (omega arith), e.sense)

  code_same : code_rows (entry_of c.cdb) ≡ code_rows (entry_of d.cdb)
  code_same = code_rows_law a ∙ sym (code_rows_law b)

  length_same : length_rows (entry_of c.cdb) c.cdb ≡ length_rows (entry_of d.cdb) d.cdb
  length_same = length_rows_law a e.first_long ∙ sym (length_rows_law b e.second_long)

  attention_same : attention_rows s.unit c.nexus c.cdb ≡ attention_rows s.unit d.nexus d.cdb
  unfolding attention_rows is_inquiring
  attention_same =
      rw (asked_due s.unit c.nexus c.cdb a.request a.is (rw a.command tt), asked_due s.unit d.nexus d.cdb b.request b.is (rw b.command tt), e.nexus)

  guard_same : guard_rows (asked_of c.cdb) s.unit.rights c.nexus ≡ guard_rows (asked_of d.cdb) s.unit.rights d.nexus
  guard_same = asks_guard m c a s.unit.rights c.nexus ∙ rw e.nexus (sym (asks_guard m d b s.unit.rights d.nexus))

  own_same : own_rows (asked_of c.cdb) s c ≡ own_rows (asked_of d.cdb) s d
  own_same =
      asks_rows m c a s
      ∙ rows_same a.request b.request e.range c d e.data_in e.data_out m s.unit.capacity s.pool t
      ∙ sym (asks_rows m d b s)

  -- the fields are tested alike, each at its place
  fields_alike : (x : Answer) → Alike (next (field_answer c) x) (next (field_answer d) x)
  fields_alike x =
      rw (field_rows_law m t c a, field_rows_law m t d b)
      (tests_alike _ _ _ _ _ _ _ _ _ _ _ _ x e.naca flags_same (ap (ltb most_transfer) e.range.count))

  answers_alike : Alike (answer_to s c) (answer_to s d)
  answers_alike =
      rw (parts s c, parts s d, call_same, code_same, length_same, attention_same, guard_same, own_same)
      (behind _ _ _ (behind _ _ _ (behind _ _ _ (behind _ _ _ (behind _ _ _ (fields_alike _))))))

  buffers_same : (x : Answer) (bs : List ℕ) → seen_of s.format x bs c ≡ seen_of s.format x bs d
  unfolding seen_of
  buffers_same x bs = rw (e.data_in, e.sense)

  module _ (same : answer_to s c ≡ answer_to s d) where
    seen_same : (step s c).seen ≡ (step s d).seen
    seen_same =
        step_seen s c
        ∙ ap₂ (λ (x : Answer) (bs : List ℕ). seen_of s.format x bs c) same
        (asks_data m c a s ∙ fetched_same a.request b.request e.range c d e.data_in e.data_out m s.unit.capacity s.pool t ∙ sym (asks_data m d b s))
        ∙ buffers_same _ _
        ∙ sym (step_seen s d)

    store_same : (step s c).store ≡ (step s d).store
    store_same =
        step_store s c
        ∙ ap (λ (n : ℕ). leaves (answer_to s c) (store_by (asked_of c.cdb) s c) (with_unit s (refused_unit (answer_to s c) n s.unit))) e.nexus
        ∙ ap₂ (λ (x : Answer) (y : Store). leaves x y (with_unit s (refused_unit x d.nexus s.unit))) same
        (asks_store m c a s ∙ ap (with_pool s) (moved_same a.request b.request e.range c d e.data_in e.data_out m s.pool t) ∙ sym (asks_store m d b s))
        ∙ sym (step_store s d)

-- READs, or WRITEs, that say the same have the same result, whatever the form of each, but for the place of a wrong field: all that is seen, and the
-- store
pub same_transfer : (m : Move) → T (is_transfer m) → (s : Store) (c d : Call) (a : Asks m c) (b : Asks m d) → SaysSame a b
    → SameButPlace (step s c) (step s d)
same_transfer m t s c d a b e =
    let h = answers_alike m t s c d a b e in
    record {
      number = ap number_of (step_answer s c) ∙ h.number ∙ sym (ap number_of (step_answer s d));
      same = λ n. let same = h.same (λ z. n (ap number_of (step_answer s c) ∙ z)) in
          ap₂ (λ (x : Seen) (y : Store). record { seen = x; store = y }) (seen_same m t s c d a b e same) (store_same m t s c d a b e same);
    }

-- ---- the two forms

-- the address stands in as many bytes as the form has for it
pub address_in_law : (code wide gap narrow rest address count : ℕ) → address < 256 ^ wide
    → field 2 wide (transfer_cdb code wide gap narrow rest address count) ≡ address
unfolding transfer_cdb
address_in_law code wide gap narrow rest address count h =
    sym (field_drop 2 0 wide (transfer_cdb code wide gap narrow rest address count)) ∙ field_bytes wide address _ ∙ mod-eq_of_lt h

-- and so does the count
pub count_in_law : (code wide gap narrow rest address count : ℕ) → count < 256 ^ narrow
    → field (2 + (wide + gap)) narrow (transfer_cdb code wide gap narrow rest address count) ≡ count
unfolding transfer_cdb
count_in_law code wide gap narrow rest address count h =
    let last = bytes narrow count ++ zeros rest in
    let behind = zeros gap ++ last in
    let all = bytes wide address ++ behind in
    sym (field_drop 2 (wide + gap) narrow (code ∷ 0 ∷ all))
    ∙ sym (field_drop wide gap narrow all)
    ∙ ap (field gap narrow) (drop_at (bytes wide address) behind wide (length_bytes wide address))
    ∙ ap (λ (i : ℕ). field i narrow behind) (sym (add-zero gap))
    ∙ sym (field_drop gap 0 narrow behind)
    ∙ ap (field 0 narrow) (drop_at (zeros gap) last gap (length_zeros gap))
    ∙ field_bytes narrow count (zeros rest) ∙ mod-eq_of_lt h

-- a call that asks by a row of the table
asks_by : (m : Move) (c : Call) (long : ℕ) (f : Form) → entry_of c.cdb ≡ listed long (Some f) → f.command ≡ Moves m → Asks m c
unfolding asked_of asked_in asked_by request_by
asks_by m c long f e k = record { request = request_by f c.cdb; is = ap (λ (x : Entry). asked_in x c.cdb) e; command = k }

-- the rows of the two forms
abbrev row10 : Move → Entry
row10 m = listed 10 (Some (form (Moves m) (four 2) (two 7) Protection Count))

abbrev row16 : Move → Entry
row16 m = listed 16 (Some (form (Moves m) (eight 2) (four 10) Protection Count))

module _ (s : Store) (nexus address count : ℕ) (data_out data_in sense : List ℕ) (a : address < 256 ^ 4) (n : count < 256 ^ 2) where
  wider : address < 256 ^ 8
  wider = lt_of_lt_of_le a (lit≤ {m = 256 ^ 4} {n = 256 ^ 8} tt)

  more : count < 256 ^ 4
  more = lt_of_lt_of_le n (lit≤ {m = 256 ^ 2} {n = 256 ^ 4} tt)

  -- two codes whose rows are those of a 10 and of a 16 byte form
  ten_sixteen : (m : Move) → T (is_transfer m) → (x y : ℕ) → entry_for x 0 ≡ row10 m → entry_for y 0 ≡ row16 m
      → SameButPlace (step s (call_with (cdb10 x address count) nexus data_out data_in sense)) (step s (call_with (cdb16 y address count) nexus data_out data_in sense))
  unfolding cdb10 cdb16 transfer_cdb bytes zeros byte entry_of action number_in long_of asks_by request_by number span_bits bytes_of
  ten_sixteen m t x y p q =
      same_transfer m t s _ _ (asks_by m _ 10 _ p refl) (asks_by m _ 16 _ q refl) (record {
        range = record {
          address = address_in_law x 4 1 2 1 address count a ∙ sym (address_in_law y 8 0 4 2 address count wider);
          count = count_in_law x 4 1 2 1 address count n ∙ sym (count_in_law y 8 0 4 2 address count more);
        };
        first_long = sym (ap long_of p);
        second_long = sym (ap long_of q);
        flags = refl;
        naca = ap (λ (e : Entry). bit 2 (byte (long_of e - 1) (cdb10 x address count))) p ∙ sym (ap (λ (e : Entry). bit 2 (byte (long_of e - 1) (cdb16 y address count))) q);
        nexus = refl;
        data_out = refl;
        data_in = refl;
        sense = refl;
      })

  -- READ(10) and READ(16), and WRITE(10) and WRITE(16), of the same blocks have the same result, but for the place of a count that is too high
  pub read_forms : SameButPlace (step s (call_with (cdb10 0x28 address count) nexus data_out data_in sense)) (step s (call_with (cdb16 0x88 address count) nexus data_out data_in sense))
  unfolding entry_for lines lookup takes is_transfer
  read_forms = ten_sixteen Read tt 0x28 0x88 refl refl

  pub write_forms : SameButPlace (step s (call_with (cdb10 0x2A address count) nexus data_out data_in sense)) (step s (call_with (cdb16 0x8A address count) nexus data_out data_in sense))
  unfolding entry_for lines lookup takes is_transfer
  write_forms = ten_sixteen Write tt 0x2A 0x8A refl refl
