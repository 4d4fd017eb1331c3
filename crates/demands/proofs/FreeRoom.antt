-- The free room and the marks, of whole stores and calls: the marks are right exactly if they agree slot by slot, they stay so after every call, and what
-- is told of the room is what a walk over the owners says.
-- Assumes nothing.
use mathlib.Core.Path.{◌≡◌, refl, sym, ap, ap₂, ◌∙◌, subst}
use mathlib.Core.Logic.{◌≢◌, ◌↔◌, ◌⊎◌, inl, inr}
use mathlib.Core.Bool.{Bool, true, false, not, ◌&&◌, cond}
use mathlib.Core.List.{List, [], ◌∷◌}
use Prim.Native.Nat.{ℕ, zero, suc, ◌+◌, ◌-◌, ◌*◌, ◌/◌, ◌%◌, ◌^◌, ◌≤◌, ◌<◌}
use native.Mathlib.Omega.{arith}
use native.Mathlib.Nat.{add-zero}
use borrow.Author.Tests.{leb-false}
use lib.Dec.{T, eqb, leb, ltb, leb→le, ltb→lt, nltb→le, lt→ltb, not_T}
use lib.ListN.{length, take, drop, get_or, length-take, length-drop, get_or-eq_default}
use lib.Seq.{get_or-take, get_or-drop}
use lib.Pow.{pow_pos}
use Rattle.fields.specs.Bytes.{zeros}
use Rattle.fields.proofs.BytesLaws.{length_zeros}
use Rattle.fields.proofs.Tests.{and_l, and_r, test, by_test, by_equal, true→T, false→T, T_true, T_false}
use Rattle.answers.specs.declared.Answer.{Answer}
use Rattle.answers.specs.declared.Answer.TheVariants.{Good, Short, Unusable}
use Rattle.answers.specs.Answers.{codes_of, number_of, out_of_range, no_room}
use Rattle.answers.specs.Order.{◌if◌, first, first_of, if_good_by, refuses}
use Rattle.answers.specs.Sense.{format_ok, sense_after}
use Rattle.answers.proofs.OrderLaws.{row_pass, row_stop, row_end}
use Rattle.pool.specs.Bounds.{most_slots, word_slots}
use Rattle.pool.specs.Marks.{mark_of, word_of, marks_of, marked, lowest}
use Rattle.pool.specs.Pool.{Pool, place, has, mapped, free, room_for, assign, assign_blocks, write_blocks}
use Rattle.pool.specs.Valid.{capacity_ok, slots_ok}
use Rattle.pool.proofs.Held.{place_at, place_below, place_lowest, has_free, free_zeros}
use Rattle.pool.proofs.Keeping.{pool_ok_slots, pool_ok_whole, pool_ok_map, pool_ok_of}
use Rattle.pool.proofs.Marking.{length_marks_of, marked_free, lowest_free, word_lt, mark_free}
use Rattle.pool.proofs.SlotMarks.{word_digit, word_only}
use Rattle.pool.proofs.Writing.{place_assign, place_write_out, assign_mapped, free_write}
use Rattle.forms.specs.declared.Move.TheVariants.{Write}
use Rattle.forms.specs.Forms.{count_in}
use Rattle.store.specs.Store.{Store, Call, usable}
use Rattle.store.specs.Move.{move_rows, write_rows}
use Rattle.store.specs.Fresh.{fresh_store}
use Rattle.store.specs.Room.{Room, room_answer, room_of}
use Rattle.store.specs.Step.{store_rows, step, answer_to}
use Rattle.store.proofs.Rows.{says}
use Rattle.store.proofs.StoreLaws.{step_answer}
use Rattle.commands.proofs.RoomLaws.{room_read}
use Rattle.ridge.specs.Interface.{room_by, roomed, leaves_room}
use Rattle.demands.specs.History.{after, machine, after_all}
use Rattle.demands.specs.Contents.{Asks, address_in, IsGood}
use Rattle.demands.specs.AtC.{program}
use Rattle.demands.specs.FreeRoom.{mark_at, taken, Agree, MarksDecide, KeepsMarks, Eleven, RefusesMarks, room_with, walked, TellsRoom, new_in, FirstNew, Relies, RoomEver, RoomAtC}
use Rattle.demands.proofs.Usable.{usable_format, usable_unit, usable_pool, usable_marks, usable_of, usable_stays}
use Rattle.demands.proofs.Fresh.{fresh_usable, unusable_eleven}
use Rattle.demands.proofs.Demand1.{refused_store_law, refused_data, refused_none, sense_table}
use Rattle.demands.proofs.Answering.{at_store, eight_own}
use Rattle.demands.proofs.AtC.{usable_ever}
use Rattle.demands.proofs.Moving.{good_usable}
use Rattle.demands.proofs.Transfers.{write_pool, write_room}
use Rattle.demands.proofs.Sensed.{rows_say}
use Rattle.demands.proofs.FromFresh.{history_usable}

-- ---- the marks, slot by slot

-- bit j of word k is the mark of a slot
bit_at : (marks : List ℕ) (i k j : ℕ) → i / word_slots ≡ k → i % word_slots ≡ j → mark_at marks i ≡ get_or marks k 0 / 2 ^ j % 2
unfolding mark_at
bit_at marks i k j q r = ap₂ (λ (x y : ℕ). get_or marks x 0 / 2 ^ y % 2) q r

-- of a slot of the first word, and of one of the second
low_at : (marks : List ℕ) (j : ℕ) → j < word_slots → mark_at marks j ≡ get_or marks 0 0 / 2 ^ j % 2
low_at marks j h = bit_at marks j 0 j (omega arith) (omega arith)

high_at : (marks : List ℕ) (j : ℕ) → j < word_slots → mark_at marks (word_slots + j) ≡ get_or marks 1 0 / 2 ^ j % 2
high_at marks j h = bit_at marks (word_slots + j) 1 j (omega arith) (omega arith)

-- the mark of a slot that is there, and of one that is not
mark_taken : (owners : List ℕ) (i : ℕ) → mark_of (get_or owners i 0) ≡ cond (taken owners i) 1 0
unfolding taken mark_of
mark_taken owners i =
    by_test (ltb i (length owners)) (λ b. mark_of (get_or owners i 0) ≡ cond (b && not (eqb (get_or owners i 0) 0)) 1 0)
    (λ t. turned (eqb (get_or owners i 0) 0))
    (λ t. ap mark_of (get_or-eq_default owners 0 (nltb→le i (length owners) t)) ∙ mark_free)
  where
    turned : (b : Bool) → ◌≡◌ {A = ℕ} (cond b 0 1) (cond (not b) 1 0)
    turned true = refl
    turned false = refl

first_digit : (owners : List ℕ) (j : ℕ) → j < word_slots → word_of (take word_slots owners) / 2 ^ j % 2 ≡ cond (taken owners j) 1 0
first_digit owners j h = word_digit (take word_slots owners) j ∙ ap mark_of (get_or-take word_slots owners j 0 h) ∙ mark_taken owners j

second_digit : (owners : List ℕ) (j : ℕ) → word_of (drop word_slots owners) / 2 ^ j % 2 ≡ cond (taken owners (word_slots + j)) 1 0
second_digit owners j = word_digit (drop word_slots owners) j ∙ ap mark_of (get_or-drop word_slots owners j 0) ∙ mark_taken owners (word_slots + j)

module _ (owners : List ℕ) (few : length owners ≤ most_slots) where
  first_few : length (take word_slots owners) ≤ word_slots
  first_few = omega (arith, length-take word_slots owners)

  second_few : length (drop word_slots owners) ≤ word_slots
  second_few = omega (arith, length-drop word_slots owners)

  marks_wide : (k : ℕ) → get_or (marks_of owners) k 0 < 2 ^ word_slots
  unfolding marks_of
  marks_wide zero = word_lt word_slots (take word_slots owners) first_few
  marks_wide (suc zero) = word_lt word_slots (drop word_slots owners) second_few
  marks_wide (suc (suc k)) = pow_pos word_slots

  marks_each : (i : ℕ) → i < most_slots → mark_at (marks_of owners) i ≡ cond (taken owners i) 1 0
  unfolding marks_of
  marks_each i h =
      test (ltb i word_slots)
      (λ t. let l = ltb→lt i word_slots t in low_at (marks_of owners) i l ∙ first_digit owners i l)
      (λ t.
      let l = nltb→le i word_slots t in
      let e : word_slots + (i - word_slots) ≡ i = omega arith in
      subst (λ (n : ℕ). mark_at (marks_of owners) n ≡ cond (taken owners n) 1 0) e
      (high_at (marks_of owners) (i - word_slots) (omega arith) ∙ second_digit owners (i - word_slots)))

  -- the marks of the owners agree with them
  pub marks_agree : Agree owners (marks_of owners)
  marks_agree = record { words = length_marks_of owners; wide = marks_wide; each = marks_each }

  -- and none else do
  pub agree_marks : (marks : List ℕ) → Agree owners marks → marks ≡ marks_of owners
  unfolding marks_of
  agree_marks [] a = let w = a.words in absurd (omega arith)
  agree_marks (x ∷ []) a = let w = a.words in absurd (omega arith)
  agree_marks (x ∷ y ∷ []) a =
      ap₂ (λ (v w : ℕ). v ∷ w ∷ [])
      (word_only word_slots x (take word_slots owners) first_few (a.wide 0)
      (λ j h. sym (low_at (x ∷ y ∷ []) j h) ∙ a.each j (omega arith) ∙ sym (first_digit owners j h) ∙ word_digit (take word_slots owners) j))
      (word_only word_slots y (drop word_slots owners) second_few (a.wide 1)
      (λ j h. sym (high_at (x ∷ y ∷ []) j h) ∙ a.each (word_slots + j) (omega arith) ∙ sym (second_digit owners j)
      ∙ word_digit (drop word_slots owners) j))
  agree_marks (x ∷ y ∷ z ∷ zs) a = let w = a.words in absurd (omega arith)

-- ---- which marks are valid

slots_few : (n : ℕ) → T (slots_ok n) → n ≤ most_slots
unfolding slots_ok
slots_few n t = leb→le n most_slots (and_r (leb 1 n) (leb n most_slots) t)

pub usable_few : (s : Store) → T (usable s) → length s.pool.owners ≤ most_slots
usable_few s u = slots_few (length s.pool.owners) (pool_ok_slots s.unit.capacity s.pool (usable_pool s u))

pub usable_agree : (s : Store) → T (usable s) → Agree s.pool.owners s.pool.marks
usable_agree s u = subst (Agree s.pool.owners) (sym (usable_marks s u)) (marks_agree s.pool.owners (usable_few s u))

pub marks_decide : MarksDecide
marks_decide = record {
  valid = λ s. (
    λ u. (
      record {
        format = usable_format s u;
        unit = usable_unit s u;
        slots = pool_ok_slots s.unit.capacity s.pool (usable_pool s u);
        medium = pool_ok_whole s.unit.capacity s.pool (usable_pool s u);
        map = pool_ok_map s.unit.capacity s.pool (usable_pool s u);
      },
      usable_agree s u,
    ),
    λ h. usable_of s h.0.format h.0.unit
        (pool_ok_of s.unit.capacity s.pool h.0.slots h.0.medium h.0.map
        (agree_marks s.pool.owners (slots_few (length s.pool.owners) h.0.slots) s.pool.marks h.1)),
  );
  one = λ owners marks other few a b. agree_marks owners few marks a ∙ sym (agree_marks owners few other b);
}

-- ---- after any history

-- of one valid store
module _ (s : Store) (u : T (usable s)) where
  marks_count : marked s.pool.marks + free s.pool.owners ≡ length s.pool.owners
  marks_count = rw (usable_marks s u) (marked_free s.pool.owners)

  marks_lowest : lowest s.pool.marks ≡ place 0 s.pool.owners
  marks_lowest = rw (usable_marks s u) (lowest_free s.pool.owners (usable_few s u))

pub keeps_marks : KeepsMarks step
keeps_marks = record {
  marks = λ s es u. usable_marks (after_all (machine step) s es) (history_usable s es u);
  agree = λ s es u. usable_agree (after_all (machine step) s es) (history_usable s es u);
  free_count = λ s es u. marks_count (after_all (machine step) s es) (history_usable s es u);
  lowest_free = λ s es u. marks_lowest (after_all (machine step) s es) (history_usable s es u);
}

-- ---- other marks are refused

module _ (owners : List ℕ) (i : ℕ) where
  said : (marks : List ℕ) → Agree owners marks → i < most_slots → (b : Bool) → taken owners i ≡ b → mark_at marks i ≡ cond b 1 0
  said marks a h b e = a.each i h ∙ ap (λ (x : Bool). cond x 1 0) e

  free_slot : get_or owners i 0 ≡ 0 → taken owners i ≡ false
  unfolding taken
  free_slot e = rw e (never (ltb i (length owners)))
    where
      never : (b : Bool) → (b && false) ≡ false
      never true = refl
      never false = refl

  taken_slot : i < length owners → get_or owners i 0 ≢ 0 → taken owners i ≡ true
  unfolding taken
  taken_slot h d =
      rw (T_true (ltb i (length owners)) (lt→ltb i (length owners) h))
      (by_equal (get_or owners i 0) 0 (λ b. not b ≡ true) (λ e. absurd (d e)) (λ _. refl))

module _ (s : Store) (c : Call) where
  eleven : T (not (usable s)) → Eleven step s c
  unfolding number_of sense_after
  eleven t =
      let e = unusable_eleven s c t in
      let d : (step s c).seen.answer ≢ Good = λ g. let z = ap number_of (sym e ∙ g) in absurd (omega arith) in
      record {
        answer = e;
        store = refused_store_law s c d (λ n. let z = ap number_of (sym e) ∙ n in absurd (omega arith));
        returned = refused_none s c d;
        data_in = refused_data s c d;
        sense = sense_table s c ∙ ap (λ (a : Answer). sense_after s.format a c.sense) e;
      }

  disagree : (Agree s.pool.owners s.pool.marks → length s.pool.owners ≤ most_slots → ⊥) → Eleven step s c
  disagree d = eleven (not_T (usable s) (λ u. d (usable_agree s u) (usable_few s u)))

pub refuses_marks : RefusesMarks step
refuses_marks = record {
  bare = λ s c i h m e.
      let o = s.pool.owners in
      disagree s c (λ a f. let z = sym m ∙ said o i s.pool.marks a (omega arith) false (free_slot o i e) in absurd (omega arith));
  unmarked = λ s c i h m d.
      let o = s.pool.owners in
      disagree s c (λ a f. let z = sym m ∙ said o i s.pool.marks a (omega arith) true (taken_slot o i h d) in absurd (omega arith));
  beyond = λ s c i l h m.
      let o = s.pool.owners in
      disagree s c (λ a f. let z = sym m ∙ said o i s.pool.marks a h false (free_slot o i (get_or-eq_default o 0 l)) in absurd (omega arith));
  words = λ s c d. disagree s c (λ a f. d a.words);
}

-- ---- what is told

module _ (s : Store) where
  pub told_walk : T (usable s) → room_of s ≡ walked s.pool
  unfolding room_of room_answer store_rows if_good_by refuses
  told_walk u = rw (row_pass Unusable _ _ (ap not (T_true (usable s) u)) ∙ row_end)

  pub untold : T (not (usable s)) → room_of s ≡ room_with Unusable 0 0
  unfolding room_of room_answer store_rows if_good_by refuses
  untold t = rw (row_stop Unusable _ _ (ap not (T_false (usable s) t)))

  module _ (u : T (usable s)) where
    pub free_is : (room_of s).free ≡ free s.pool.owners
    free_is = ap (λ (r : Room). r.free) (told_walk u)

    lowest_is : (room_of s).lowest ≡ place 0 s.pool.owners
    lowest_is = ap (λ (r : Room). r.lowest) (told_walk u)

    there : 0 < (room_of s).free → T (has 0 s.pool.owners)
    there h = has_free s.pool.owners (rw free_is at h)

    low_free : 0 < (room_of s).free → (room_of s).lowest < length s.pool.owners × (get_or s.pool.owners (room_of s).lowest 0 ≡ 0)
    low_free h = rw lowest_is (place_below 0 s.pool.owners (there h), place_at 0 s.pool.owners (there h))

    lower_taken : (i : ℕ) → i < (room_of s).lowest → T (taken s.pool.owners i)
    lower_taken i h =
        let l : i < place 0 s.pool.owners = rw lowest_is at h in
        let d = place_lowest 0 s.pool.owners i l in
        test (ltb i (length s.pool.owners))
        (λ t. true→T _ (taken_slot s.pool.owners i (ltb→lt i (length s.pool.owners) t) d))
        (λ t. absurd (d (get_or-eq_default s.pool.owners 0 (nltb→le i (length s.pool.owners) t))))

pub tells_room_law : TellsRoom room_of
tells_room_law = record {
  told = told_walk;
  read_off = λ s u. sym (room_read s (T_true (usable s) u) _ refl);
  untold = untold;
  lowest_free = low_free;
  lower_taken = lower_taken;
  by_owners = λ s t u v e. told_walk s u ∙ ap (λ (o : List ℕ). room_with Good (free o) (place 0 o)) e ∙ sym (told_walk t v);
}

-- ---- what a WRITE does to it

-- only where blocks lack room is 8 answered
eight_lacks : (a : ℕ) (x y z : Bool) → T (says 8 (first (out_of_range a if x ∷ Short if y ∷ no_room a if not z ∷ []))) → z ≡ false
unfolding says number_of codes_of first_of
eight_lacks a true y z t = absurd t
eight_lacks a false true z t = absurd t
eight_lacks a false false true t = absurd t
eight_lacks a false false false t = refl

-- the first unmapped block takes the lowest free slot
first_place : (owners : List ℕ) (a n i : ℕ) → i < n → mapped owners (a + i) ≡ false → ((j : ℕ) → j < i → mapped owners (a + j) ≡ true)
    → place (suc (a + i)) (assign_blocks owners a n) ≡ place 0 owners
unfolding assign_blocks
first_place owners a zero i h new below = absurd (omega arith)
first_place owners a (suc n) zero h new below =
    let e = add-zero a in
    ap (λ (k : ℕ). place (suc k) (assign_blocks (assign owners a) (suc a) n)) e
    ∙ place_write_out (assign owners a) (suc a) n a (λ z. absurd (omega arith))
    ∙ place_assign owners a (false→T _ (ap (mapped owners) (sym e) ∙ new))
first_place owners a (suc n) (suc i) h new below =
    let e : a + suc i ≡ suc a + i = omega arith in
    let k = assign_mapped owners a (true→T _ (ap (mapped owners) (sym (add-zero a)) ∙ below 0 (omega arith))) in
    ap (λ (l : List ℕ). place (suc (a + suc i)) (assign_blocks l (suc a) n)) k
    ∙ ap (λ (m : ℕ). place (suc m) (assign_blocks owners (suc a) n)) e
    ∙ first_place owners (suc a) n i (omega arith) (ap (mapped owners) (sym e) ∙ new)
    (λ j l. let f : suc a + j ≡ a + suc j = omega arith in ap (mapped owners) f ∙ below (suc j) (omega arith))

module _ (s : Store) (w : Call) (a : Asks Write w) where
  lacks : number_of (step s w).seen.answer ≡ 8 → (room_of s).free < new_in s a.request
  unfolding move_rows write_rows room_for new_in says
  lacks e =
      let u = at_store (says 8) eight_own.good eight_own.unusable s w (said_eight e) in
      rw (free_is s u) (leb-false _ _ (eight_lacks (address_in a.request) _ _ _ (rows_say 8 eight_own s w a e)))
    where
      said_eight : number_of (step s w).seen.answer ≡ 8 → T (says 8 (answer_to s w))
      said_eight e = rw (← step_answer s w, e) tt

  module _ (g : IsGood s w) where
    roomy : new_in s a.request ≤ (room_of s).free
    unfolding new_in
    roomy = rw (free_is s (good_usable s w g)) (write_room s w a g)

    owners_after : (after step s w).pool.owners ≡ assign_blocks s.pool.owners (address_in a.request) (count_in a.request)
    unfolding write_blocks
    owners_after = ap (λ (p : Pool). p.owners) (write_pool s w a g)

    less : (room_of (after step s w)).free + new_in s a.request ≡ (room_of s).free
    unfolding new_in
    less =
        let u = good_usable s w g in
        let x = free_is s u in
        let y = free_is (after step s w) (usable_stays s w u) ∙ ap free owners_after in
        let z = free_write s.pool.owners (address_in a.request) (count_in a.request) (write_room s w a g) in
        omega arith

    takes_lowest : (i : ℕ) → FirstNew s a.request i → place (suc (address_in a.request + i)) (after step s w).pool.owners ≡ (room_of s).lowest
    takes_lowest i n =
        ap (place (suc (address_in a.request + i))) owners_after
        ∙ first_place s.pool.owners (address_in a.request) (count_in a.request) i n.among n.new n.before
        ∙ sym (lowest_is s (good_usable s w g))

  eight_when : IsGood s w ⊎ (number_of (step s w).seen.answer ≡ 8) → number_of (step s w).seen.answer ≡ 8 ↔ (room_of s).free < new_in s a.request
  eight_when (inl g) = (lacks, λ h. let r = roomy g in absurd (omega arith))
  eight_when (inr e) = (lacks, λ h. e)

pub relies : Relies step room_of
relies = record { no_room_law = eight_when; smaller = less; first_slot = takes_lowest }

-- ---- from a fresh store

module _ (capacity format slots : ℕ) (medium : List ℕ) (b : T (capacity_ok capacity)) (f : T (format_ok format)) (n : T (slots_ok slots))
    (m : length medium ≡ 512 * slots) where
  pub fresh_room : RoomEver step room_of (fresh_store capacity format slots medium)
  unfolding fresh_store slots_ok place zeros
  fresh_room =
      let s = fresh_store capacity format slots medium in
      let u = fresh_usable capacity format slots medium b f n m in
      record {
        at_first = told_walk s u ∙ ap₂ (room_with Good) (free_zeros slots ∙ sym (length_zeros slots)) (none_taken slots (slots_some slots n));
        agree = λ es. usable_agree (after_all (machine step) s es) (history_usable s es u);
        told = λ es. told_walk (after_all (machine step) s es) (history_usable s es u);
      }
    where
      slots_some : (k : ℕ) → T (slots_ok k) → 1 ≤ k
      slots_some k t = leb→le 1 k (and_l (leb 1 k) (leb k most_slots) t)

      none_taken : (k : ℕ) → 1 ≤ k → place 0 (zeros k) ≡ 0
      none_taken zero h = absurd (omega arith)
      none_taken (suc k) h = refl

-- ---- at the C interface

module _ (s : Store) (before lower : ℕ) where
  roomed_told : T (usable s) → roomed s before lower ≡ leaves_room 0 (free s.pool.owners) (place 0 s.pool.owners)
  unfolding roomed room_by number_of if_good_by refuses
  roomed_told u = ap (λ (r : Room). room_by r before lower) (told_walk s u)

  roomed_untold : T (not (usable s)) → roomed s before lower ≡ leaves_room 11 before lower
  unfolding roomed room_by number_of if_good_by refuses
  roomed_untold t = ap (λ (r : Room). room_by r before lower) (untold s t)

pub room_at_c : RoomAtC
room_at_c = record {
  told = roomed_told;
  untold = roomed_untold;
  told_ever = λ s es before lower u. roomed_told (after_all program s es) before lower (usable_ever s es u);
}
