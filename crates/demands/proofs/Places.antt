-- The places that answers 2 and 5 name are true: a row's test depends on the bits of its field alone, and the fields of a row stand in order.
-- Assumes nothing.
use mathlib.Core.Path.{◌≡◌, refl, sym, ap, ◌∙◌, subst}
use mathlib.Core.Bool.{Bool, true, not, ◌&&◌}
use mathlib.Core.List.{List, [], ◌∷◌, ◌++◌, map}
use Prim.Native.Nat.{ℕ, ◌-◌}
use native.Mathlib.Omega.{arith}
use lib.Dec.{T, eqb, lit<, lit≤}
use Rattle.std.specs.Prelude.{Some, None}
use Rattle.fields.specs.Field.{byte, bit}
use Rattle.fields.specs.Bits.{Bits, within, first_byte, top_bit, bit_count, number_in, bit_in, AgreeIn, is_place}
use Rattle.fields.proofs.BitsLaws.{agree_number, within_number}
use Rattle.answers.specs.declared.Answer.{Answer}
use Rattle.answers.specs.declared.Answer.TheVariants.{Conflict, Short}
use Rattle.answers.specs.Answers.{codes_of, number_of, invalid_field, out_of_range, list_length, list_field, no_place, other_type, no_room}
use Rattle.answers.specs.Order.{Row, ◌if◌}
use Rattle.pool.specs.Pool.{Pool}
use Rattle.rights.specs.declared.Rights.{Rights}
use Rattle.rights.specs.declared.Action.{Action}
use Rattle.rights.specs.declared.Action.TheVariants.{Register, Reserve, Release, Clear, Preempt, RegisterIgnoring}
use Rattle.rights.specs.declared.Parameters.{Parameters}
use Rattle.rights.specs.Rights.{all_hold}
use Rattle.rights.specs.Actions.{service_key_bits, flags_byte, register_flags, flag_rows, action_rows, decision_rows}
use Rattle.descriptors.specs.Descriptors.{data_length_bits, considered}
use Rattle.forms.specs.declared.Move.{Move}
use Rattle.forms.specs.declared.Move.TheVariants.{Read, Write, WriteSame, Unmap, Status}
use Rattle.forms.specs.declared.Command.{Command}
use Rattle.forms.specs.declared.Command.TheVariants.{Tells, Moves, Alters}
use Rattle.forms.specs.declared.Field.{Field}
use Rattle.forms.specs.declared.Field.TheVariants.{Two, Four, Eight}
use Rattle.forms.specs.declared.Test.{Test}
use Rattle.forms.specs.declared.Test.TheVariants.{Nothing, Page, VitalPage, Protection, Count, Anchor, SameAnchor, SameCount, Scope, Kind}
use Rattle.forms.specs.declared.Code.{Code}
use Rattle.forms.specs.declared.Request.{Request}
use Rattle.forms.specs.Forms.{Span, Service, Entry, action_bits, action, lines, entry_for, entry_of, bytes_of, span_bits, asks, list_length_in}
use Rattle.forms.specs.Tests.{Check, wrong_in, check_rows, is_set, check_of, test_checks, service_checks, code_checks, checks_of, field_rows}
use Rattle.forms.proofs.Table.{all, obeys, looked_up}
use Rattle.store.specs.Store.{Store, Call}
use Rattle.store.specs.Tell.{tell_rows}
use Rattle.store.specs.Move.{read_rows, write_rows, same_rows, unmap_rows, status_rows, move_rows}
use Rattle.store.specs.Alter.{parameters_of, alter_rows}
use Rattle.store.specs.Step.{command_rows, own_rows}
use Rattle.demands.specs.Pointed.{AreBytes, with_list, Alike, placed, place_of, place_in, precedes, precedes_all, in_order, PlacesTrue}

-- ---- which field an answer names

-- a field is known by its first byte, its highest bit and how many bits it has
agree_as : (b p : Bits) → first_byte b ≡ first_byte p → top_bit b ≡ top_bit p → bit_count b ≡ bit_count p → (l m : List ℕ) → AgreeIn p l m → AgreeIn b l m
unfolding bit_in
agree_as b p at top n l m h i hi = rw (at, top) (h i (omega arith))

-- so lists that agree in what an answer names agree in the field that it was made of, of a CDB or of a list
module _ (named : Bits → Answer) (names : (b : Bits) → place_in (named b) ≡ placed (first_byte b) (top_bit b) (bit_count b)) where
  named_same : (b p : Bits) (l m : List ℕ) → named b ≡ named p → AgreeIn p l m → AgreeIn b l m
  named_same b p l m e =
      let same : placed (first_byte b) (top_bit b) (bit_count b) ≡ placed (first_byte p) (top_bit p) (bit_count p) = sym (names b) ∙ ap place_in e ∙ names p in
      agree_as b p (cc) (cc) (cc) l m

cdb_same : (b p : Bits) (l m : List ℕ) → invalid_field b ≡ invalid_field p → AgreeIn p l m → AgreeIn b l m
unfolding place_in place_of
cdb_same = named_same invalid_field (λ b. refl)

list_same : (b p : Bits) (l m : List ℕ) → list_field b ≡ list_field p → AgreeIn p l m → AgreeIn b l m
unfolding place_in place_of
list_same = named_same list_field (λ b. refl)

-- ---- the rows of a CDB

unfoldable Placed : List Check → Type 0
Placed [] = T true
Placed (k ∷ ks) = T (is_place k.bits) × Placed ks

module _ (l m : List ℕ) (hl : AreBytes l) (hm : AreBytes m) where
  alike_checks : (ks : List Check) → Placed ks → Alike invalid_field l m (check_rows ks l) (check_rows ks m)
  unfolding Placed check_rows wrong_in Alike
  alike_checks [] t = tt
  alike_checks (k ∷ ks) t =
      (refl, refl, λ p e h. ap k.wrong (agree_number k.bits l m t.0 hl hm (cdb_same k.bits p l m e h)), alike_checks ks t.1)

bytes_place : (f : Field) → T (is_place (bytes_of f))
unfolding bytes_of is_place
bytes_place (Two at) = tt
bytes_place (Four at) = tt
bytes_place (Eight at) = tt

span_place : (size : Span) → T (is_place (span_bits size))
unfolding span_bits is_place
span_place None = tt
span_place (Some f) = bytes_place f

check_place : (t : Test) (size : Span) → T (is_place (check_of t size).bits)
unfolding check_of is_place
check_place Nothing size = tt
check_place Page size = tt
check_place VitalPage size = tt
check_place Protection size = tt
check_place Count size = span_place size
check_place Anchor size = tt
check_place SameAnchor size = tt
check_place SameCount size = span_place size
check_place Scope size = tt
check_place Kind size = tt

tests_placed : (ts : List Test) (size : Span) → Placed (map (λ t. check_of t size) ts)
unfolding Placed
tests_placed [] size = tt
tests_placed (t ∷ ts) size = (check_place t size, tests_placed ts size)

service_placed : (v : Service) → Placed (service_checks v)
unfolding service_checks test_checks Placed is_place
service_placed (Some f) = tests_placed f.tests f.size
service_placed None = (tt, tt)

entry_placed : (e : Entry) → Placed (checks_of e)
unfolding checks_of code_checks Placed is_place
entry_placed (Some code) = (tt, service_placed code.service)
entry_placed None = tt

cdb_alike : (l m : List ℕ) → AreBytes l → AreBytes m → entry_of l ≡ entry_of m
    → Alike invalid_field l m (field_rows (entry_of l) l) (field_rows (entry_of m) m)
unfolding field_rows
cdb_alike l m hl hm e = rw e (alike_checks l m hl hm (checks_of (entry_of m)) (entry_placed (entry_of m)))

-- ---- which command a CDB is

action_same : (l m : List ℕ) → AgreeIn action_bits l m → action l ≡ action m
unfolding action
action_same l m h = within_number 1 4 5 l m (lit≤ tt) (lit≤ tt) h

cdb_action : (l m : List ℕ) → byte 0 l ≡ byte 0 m → AgreeIn action_bits l m → entry_of l ≡ entry_of m
unfolding entry_of
cdb_action l m e h = rw (e, action_same l m h)

-- ---- the rows of a list

module _ (l m : List ℕ) where
  abbrev Pair : List Row → List Row → Type 0
  Pair xs ys = Alike list_field l m xs ys

  pair_end : Pair [] []
  unfolding Alike
  pair_end = tt

  -- an answer that names no field of a list
  other_row : (a : Answer) (x y : Bool) (xs ys : List Row) → T (not (eqb (number_of a) 5)) → Pair xs ys → Pair (a if x ∷ xs) (a if y ∷ ys)
  unfolding Alike number_of codes_of
  other_row a x y xs ys t h = (refl, refl, λ p e. absurd (subst (λ (r : Answer). T (not (eqb (number_of r) 5))) e t), h)

  -- the address of an answer 3 may depend on the list
  range_row : (i j : ℕ) (x y : Bool) (xs ys : List Row) → Pair xs ys → Pair (out_of_range i if x ∷ xs) (out_of_range j if y ∷ ys)
  unfolding Alike number_of codes_of place_in place_of
  range_row i j x y xs ys h = (refl, refl, λ p e. absurd (subst (λ (r : Answer). T (not (eqb (number_of r) 5))) e tt), h)

  field_row : (b : Bits) (x y : Bool) (xs ys : List Row) → (AgreeIn b l m → x ≡ y) → Pair xs ys → Pair (list_field b if x ∷ xs) (list_field b if y ∷ ys)
  unfolding Alike
  field_row b x y xs ys f h = (refl, refl, λ p e g. f (list_same b p l m e g), h)

  -- rows that do not see the list
  same_rows_law : (xs : List Row) → Pair xs xs
  unfolding Alike
  same_rows_law [] = tt
  same_rows_law ((a if x) ∷ xs) = (refl, refl, λ p e g. refl, same_rows_law xs)

  pairs_append : (xs ys us vs : List Row) → Pair xs ys → Pair us vs → Pair (xs ++ us) (ys ++ vs)
  unfolding Alike
  pairs_append [] [] us vs h k = k
  pairs_append [] (y ∷ ys) us vs h k = absurd h
  pairs_append (x ∷ xs) [] us vs h k = absurd h
  pairs_append ((a if x) ∷ xs) ((b if y) ∷ ys) us vs h k = (h.0, h.1, h.2, pairs_append xs ys us vs h.3 k)

  -- ---- RESERVE OUT

  module _ (o u : Parameters) (flags : o.flags ≡ byte flags_byte l) (flags' : u.flags ≡ byte flags_byte m)
      (service : AgreeIn service_key_bits l m → o.service ≡ u.service) where
    register_pair : Pair (register_flags o) (register_flags u)
    unfolding register_flags bit_in first_byte top_bit bit_count
    register_pair =
        rw (flags, flags')
        (field_row (within flags_byte 3 1) _ _ _ _ (λ h. h 0 (lit< tt))
        (field_row (within flags_byte 2 1) _ _ _ _ (λ h. h 0 (lit< tt))
        (field_row (within flags_byte 0 1) _ _ _ _ (λ h. h 0 (lit< tt)) pair_end)))

    flags_pair : (a : Action) → Pair (flag_rows a o) (flag_rows a u)
    unfolding flag_rows
    flags_pair Register = register_pair
    flags_pair Reserve = pair_end
    flags_pair Release = pair_end
    flags_pair Clear = pair_end
    flags_pair Preempt = pair_end
    flags_pair RegisterIgnoring = register_pair

    module _ (r : Rights) (n : ℕ) where
      action_pair : (a : Action) → Pair (action_rows a r n o) (action_rows a r n u)
      unfolding action_rows number_of codes_of
      action_pair Register = other_row no_place _ _ _ _ tt pair_end
      action_pair Reserve = other_row Conflict _ _ _ _ tt pair_end
      action_pair Release = other_row other_type _ _ _ _ tt pair_end
      action_pair Clear = pair_end
      action_pair Preempt =
          field_row service_key_bits _ _ _ _ (λ h. ap (λ (k : ℕ). eqb k 0 && not (all_hold r.kind)) (service h)) (other_row Conflict _ _ _ _ tt pair_end)
      action_pair RegisterIgnoring = other_row no_place _ _ _ _ tt pair_end

      decision_pair : (a : Action) → Pair (decision_rows a r n o) (decision_rows a r n u)
      unfolding decision_rows number_of
      decision_pair a = pairs_append (flag_rows a o) (flag_rows a u) _ _ (flags_pair a) (other_row Conflict _ _ _ _ tt (action_pair a))

  -- ---- every command

  module _ (hl : AreBytes l) (hm : AreBytes m) where
    alter_pair : (a : Action) (q : Request) (r : Rights) (n : ℕ) → Pair (alter_rows a q r n l) (alter_rows a q r n m)
    unfolding alter_rows parameters_of number_of codes_of is_place
    alter_pair a q r n =
        other_row list_length _ _ _ _ tt
        (other_row Short _ _ _ _ tt (decision_pair _ _ refl refl (λ h. agree_number service_key_bits l m tt hl hm h) r n a))

    unmap_pair : (capacity n : ℕ) → Pair (unmap_rows capacity n l) (unmap_rows capacity n m)
    unfolding unmap_rows considered number_of codes_of is_place
    unmap_pair capacity n =
        other_row list_length _ _ _ _ tt
        (other_row Short _ _ _ _ tt
        (field_row data_length_bits _ _ _ _ (λ h. rw (agree_number data_length_bits l m tt hl hm h)) (range_row _ _ _ _ _ _ pair_end)))

module _ (c : Call) (m : List ℕ) (hl : AreBytes c.data_out) (hm : AreBytes m) where
  move_pair : (k : Move) (q : Request) (capacity : ℕ) (p : Pool)
      → Pair c.data_out m (move_rows k q capacity p c) (move_rows k q capacity p (with_list c m))
  unfolding move_rows write_rows same_rows number_of codes_of
  move_pair Read q capacity p = same_rows_law _ _ _
  move_pair Write q capacity p =
      other_row _ _ (out_of_range _) _ _ _ _ tt (other_row _ _ Short _ _ _ _ tt (other_row _ _ (no_room _) _ _ _ _ tt (pair_end _ _)))
  move_pair WriteSame q capacity p =
      other_row _ _ (out_of_range _) _ _ _ _ tt (other_row _ _ Short _ _ _ _ tt (other_row _ _ (no_room _) _ _ _ _ tt (pair_end _ _)))
  move_pair Unmap q capacity p = unmap_pair c.data_out m hl hm capacity (list_length_in q)
  move_pair Status q capacity p = same_rows_law _ _ _

  command_pair : (k : Command) (q : Request) (s : Store) → Pair c.data_out m (command_rows k q s c) (command_rows k q s (with_list c m))
  unfolding command_rows
  command_pair (Tells t) q s = same_rows_law _ _ _
  command_pair (Moves k) q s = move_pair k q s.unit.capacity s.pool
  command_pair (Alters a) q s = alter_pair c.data_out m hl hm a q s.unit.rights c.nexus

list_alike : (q : Request) (s : Store) (c : Call) (m : List ℕ) → AreBytes c.data_out → AreBytes m
    → Alike list_field c.data_out m (own_rows (asks q) s c) (own_rows (asks q) s (with_list c m))
unfolding own_rows
list_alike q s c m hl hm = command_pair c m hl hm q.command q s

-- ---- in order

control_first : (l : List ℕ) (code : Code) → entry_of l ≡ Some code
    → field_rows (entry_of l) l ≡ invalid_field (within (code.long - 1) 2 1) if bit 2 (byte (code.long - 1) l) ∷ check_rows (service_checks code.service) l
unfolding field_rows checks_of code_checks check_rows wrong_in is_set number_in bit
control_first l code e = rw e

unfoldable order_rule : List ℕ → Entry → Bool
order_rule l (Some code) = in_order (check_rows (service_checks code.service) l)
order_rule l None = true

order_rule_law : (l : List ℕ) → T (order_rule l (entry_of l))
unfolding entry_of entry_for lines all obeys order_rule service_checks test_checks check_of span_bits bytes_of check_rows in_order precedes_all precedes place_in place_of first_byte top_bit bit_count
order_rule_law l = looked_up (λ _ e. order_rule l e) (byte 0 l) (action l) None lines tt tt

cdb_order : (l : List ℕ) (code : Code) → entry_of l ≡ Some code → T (in_order (check_rows (service_checks code.service) l))
unfolding order_rule
cdb_order l code e = subst (λ (x : Entry). T (order_rule l x)) e (order_rule_law l)

move_order : (k : Move) (q : Request) (capacity : ℕ) (p : Pool) (c : Call) → T (in_order (move_rows k q capacity p c))
unfolding move_rows read_rows write_rows same_rows unmap_rows status_rows in_order precedes_all precedes place_in place_of
move_order Read q capacity p c = tt
move_order Write q capacity p c = tt
move_order WriteSame q capacity p c = tt
move_order Unmap q capacity p c = tt
move_order Status q capacity p c = tt

alter_order : (a : Action) (q : Request) (r : Rights) (n : ℕ) (data_out : List ℕ) → T (in_order (alter_rows a q r n data_out))
unfolding alter_rows decision_rows flag_rows register_flags action_rows in_order precedes_all precedes place_in place_of first_byte top_bit bit_count
alter_order Register q r n data_out = tt
alter_order Reserve q r n data_out = tt
alter_order Release q r n data_out = tt
alter_order Clear q r n data_out = tt
alter_order Preempt q r n data_out = tt
alter_order RegisterIgnoring q r n data_out = tt

command_order : (k : Command) (q : Request) (s : Store) (c : Call) → T (in_order (command_rows k q s c))
unfolding command_rows tell_rows in_order precedes_all precedes place_in place_of
command_order (Tells t) q s c = tt
command_order (Moves k) q s c = move_order k q s.unit.capacity s.pool c
command_order (Alters a) q s c = alter_order a q s.unit.rights c.nexus c.data_out

list_order : (q : Request) (s : Store) (c : Call) → T (in_order (own_rows (asks q) s c))
unfolding own_rows
list_order q s c = command_order q.command q s c

pub places_true : PlacesTrue
places_true = record { cdb = cdb_alike; action = cdb_action; list = list_alike; control_first = control_first; cdb_order = cdb_order; list_order = list_order }
