-- The useless builds meet demand 3 and fail the cases, each by what it does: every build that refuses everything fails A, every one with a constant
-- answer E, every one that leaves the state alone H. A build that tests room before the conflict fails demand 3. Assumes nothing.
use mathlib.Core.Path.{◌≡◌, refl, sym, ap, ap₂, ◌∙◌, subst}
use mathlib.Core.Bool.{Bool, true, false, not, ◌&&◌, cond}
use mathlib.Core.List.{List, [], ◌∷◌, ◌++◌, map}
use Prim.Native.Nat.{ℕ}
use native.Mathlib.Omega.{arith}
use lib.Dec.{T, eqb, not_T, T_not}
use Rattle.fields.proofs.Tests.{and_l, and_r}
use Rattle.answers.specs.declared.Refusal.{Refusal}
use Rattle.answers.specs.declared.Refusal.TheVariants.{NotListed, InvalidField, OutOfRange, ListLength, ListField, NoPlace, OtherType, NoRoom, RegistrationsPreempted, ReservationsPreempted, ReservationsReleased}
use Rattle.answers.specs.declared.Answer.{Answer}
use Rattle.answers.specs.declared.Answer.TheVariants.{Good, Refused, Conflict, Unusable, Short}
use Rattle.answers.specs.Answers.{codes_of, number_of, no_room}
use Rattle.forms.specs.Forms.{asked_of}
use Rattle.store.specs.Store.{Store, Call, Seen, usable}
use Rattle.demands.specs.History.{Build, after, kept, add, watched, heard}
use Rattle.store.specs.Step.{step}
use Rattle.demands.specs.Demands.{Demand2, Demand3}
use Rattle.demands.specs.Useless.{Refusing, Constant, Leaving, blind, unmoved, constant, refusing, leaving, is_write, lacks_room, room_first, start_of}
use Rattle.demands.specs.Checker.{Want, good, lays, refused_with, past_end_at, no_room_at, whole, met, Case, Expect, ◌gives◌, run, passed_by, passed, all_passed}
use Rattle.demands.specs.Bench.{block, two, made, write_10}
use Rattle.demands.specs.Cases.{case_of, case_still, case_new, case_a, case_b, case_c, case_d, case_e, case_f, case_g, case_h, case_i, cases, write_h}
use Rattle.demands.proofs.Computing.{meaning}
use Rattle.demands.proofs.Comparing.{met_equal}
use mathlib.Core.Logic.{inl}

-- ---- they meet demand 3

module _ (g : ℕ → Call → Seen) where
  heard_blind : (s : Store) (cs : List Call) → heard (blind g) s cs ≡ map (g s.format) (watched (blind g) s cs)
  unfolding heard watched blind after add
  heard_blind s [] = refl
  heard_blind s (c ∷ cs) = go (kept s c) (heard_blind s cs)
    where
      go : (b : Bool) → heard (blind g) s cs ≡ map (g s.format) (watched (blind g) s cs)
          → add b (g s.format c) (heard (blind g) s cs) ≡ map (g s.format) (add b c (watched (blind g) s cs))
      go true ih = ap (λ (l : List Seen). g s.format c ∷ l) ih
      go false ih = ih

  blind_still : (s : Store) (c : Call) → after (blind g) s c ≡ s
  unfolding blind after
  blind_still s c = refl

  -- what looks at nothing of the store but its format tells nothing of it
  pub blind_meets : Demand3 (blind g)
  blind_meets = record {
    secret = λ s t cs ds u v f e w. heard_blind s cs ∙ ap₂ (λ (x : ℕ) (l : List Call). map (g x) l) f w ∙ sym (heard_blind t ds);
    still = λ s c o h w. blind_still s c;
    own_alone = λ s c w. inl (blind_still s c);
    out_pool = λ s c o. ap (λ (x : Store). x.pool) (blind_still s c);
  }

pub constant_meets : (a : Answer) → Demand3 (constant a)
unfolding constant
constant_meets a = blind_meets (unmoved a)

pub refusing_meets : Demand3 refusing
unfolding refusing
refusing_meets = constant_meets _

pub leaving_meets : Demand3 leaving
unfolding leaving
leaving_meets = constant_meets _

-- ---- they fail the cases

module _ (f : Build) (end s : Store) (c : Call) (w : Call → Want) (es : List Expect) (t : T (run whole f end s ((c gives w) ∷ es))) where
  shown : number_of (f s c).seen.answer ≡ (w c).number
  unfolding run
  shown = (met_equal (w c) (f s c).seen (and_l (met whole.shows (w c) (f s c).seen) (run whole f end (f s c).store es) t)).number

  rest : T (run whole f end (f s c).store es)
  unfolding run
  rest = and_r (met whole.shows (w c) (f s c).seen) (run whole f end (f s c).store es) t

-- the number 0 is GOOD's alone
number_good : (a : Answer) → number_of a ≡ 0 → a ≡ Good
unfolding number_of codes_of
number_good Good e = refl
number_good (Refused x) e = absurd (coded x e)
  where
    coded : (r : Refusal) → (codes_of r).number ≡ 0 → ⊥
    coded NotListed e = omega arith
    coded (InvalidField at top n) e = omega arith
    coded (OutOfRange address) e = omega arith
    coded ListLength e = omega arith
    coded (ListField at top n) e = omega arith
    coded NoPlace e = omega arith
    coded OtherType e = omega arith
    coded (NoRoom address) e = omega arith
    coded RegistrationsPreempted e = omega arith
    coded ReservationsPreempted e = omega arith
    coded ReservationsReleased e = omega arith
number_good Conflict e = absurd (omega arith)
number_good Unusable e = absurd (omega arith)
number_good Short e = absurd (omega arith)

-- A, E and H begin with a call that must be done
module _ (f : Build) (r : Refusing f) where
  refusing_any : (x : Case) (c : Call) (bs : List ℕ) (es : List Expect) → x.calls ≡ (c gives good bs) ∷ es → T (not (passed f x))
  unfolding passed passed_by good
  refusing_any x c bs es e =
      not_T (passed f x)
      (λ t. r.refuses x.start c
      (number_good (f x.start c).seen.answer
      (shown f x.end x.start c (good bs) es (subst (λ (l : List Expect). T (run whole f x.end x.start l)) e t))))

  pub refusing_fails_A : T (not (passed f case_a))
  unfolding case_a case_new case_still case_of
  refusing_fails_A = refusing_any case_a _ _ _ refl

  pub refusing_fails_E : T (not (passed f case_e))
  unfolding case_e case_new case_still case_of
  refusing_fails_E = refusing_any case_e _ _ _ refl

  pub refusing_fails_H : T (not (passed f case_h))
  unfolding case_h case_of
  refusing_fails_H = refusing_any case_h _ _ _ refl

-- E wants 0 and then 3, and H wants 0 and then 8. A has one call, and whoever says GOOD to all may pass it: CasesPass, `always_good_A`
module _ (a : Answer) (f : Build) (k : Constant a f) where
  constantly : (s : Store) (c : Call) (n : ℕ) → number_of (f s c).seen.answer ≡ n → number_of a ≡ n
  constantly s c n e = subst (λ (b : Answer). number_of b ≡ n) (k.answers s c) e

  pub constant_fails_E : T (not (passed f case_e))
  unfolding passed passed_by case_e case_new case_still case_of good past_end_at refused_with lays
  constant_fails_E =
      not_T (passed f case_e)
      (λ t. zero_or_three (number_of a) (constantly _ _ 0 (shown f _ _ _ _ _ t)) (constantly _ _ 3 (shown f _ _ _ _ _ (rest f _ _ _ _ _ t))))
    where
      zero_or_three : (n : ℕ) → n ≡ 0 → n ≡ 3 → ⊥
      zero_or_three n e d = omega arith

  pub constant_fails_H : T (not (passed f case_h))
  unfolding passed passed_by case_h case_of good no_room_at refused_with lays
  constant_fails_H =
      not_T (passed f case_h)
      (λ t. zero_or_eight (number_of a) (constantly _ _ 0 (shown f _ _ _ _ _ t)) (constantly _ _ 8 (shown f _ _ _ _ _ (rest f _ _ _ _ _ t))))
    where
      zero_or_eight : (n : ℕ) → n ≡ 0 → n ≡ 8 → ⊥
      zero_or_eight n e d = omega arith

-- H asks two answers of one call, between which the store must change. A and E change nothing, so that whoever stores nothing may pass them:
-- CasesPass, `pretends_A_E`
module _ (f : Build) (l : Leaving f) where
  -- the calls that follow, on the same store
  next : (end s : Store) (c : Call) (w : Call → Want) (es : List Expect) → T (run whole f end s ((c gives w) ∷ es)) → T (run whole f end s es)
  next end s c w es t = subst (λ (x : Store). T (run whole f end x es)) (l.stays s c) (rest f end s c w es t)

  pub leaving_fails_H : T (not (passed f case_h))
  unfolding passed passed_by case_h case_of good no_room_at refused_with lays
  leaving_fails_H = not_T (passed f case_h) go
    where
      eight_or_none : (n : ℕ) → n ≡ 8 → n ≡ 0 → ⊥
      eight_or_none n e d = omega arith

      go : T (passed f case_h) → ⊥
      go t =
          let u = next _ _ _ _ _ t in
          eight_or_none (number_of (f case_h.start write_h).seen.answer) (shown f _ _ write_h _ _ u)
          (shown f _ _ write_h _ _ (next _ _ _ _ _ (next _ _ _ _ _ (next _ _ _ _ _ u))))

-- what is seen is a function of the format and the call alone: it leaves the state alone
pub blind_fails : (g : ℕ → Call → Seen) → T (not (passed (blind g) case_h))
unfolding after
blind_fails g = leaving_fails_H (blind g) (record { stays = blind_still g })

-- the builds written out are of their kinds
pub refusing_refuses : Refusing refusing
unfolding refusing constant blind unmoved
refusing_refuses = record { refuses = λ s c e. let z : ◌≡◌ {A = ℕ} 0 1 = cc in omega arith }

pub constant_answers : (a : Answer) → Constant a (constant a)
unfolding constant blind unmoved
constant_answers a = record { answers = λ s c. refl }

pub leaving_stays : Leaving leaving
unfolding leaving constant blind
leaving_stays = record { stays = λ s c. refl }

-- ---- "demand 2 shuts them out (A, E, H)"

one_of_all : (f : Build) (xs : List Case) (x : Case) (ys : List Case) → T (all_passed f (xs ++ (x ∷ ys))) → T (passed f x)
unfolding all_passed
one_of_all f [] x ys t = and_l (passed f x) (all_passed f ys) t
one_of_all f (z ∷ xs) x ys t = one_of_all f xs x ys (and_r (passed f z) (all_passed f (xs ++ (x ∷ ys))) t)

module _ (f : Build) (d : Demand2 f) where
  pub demand_2_does_some : Refusing f → ⊥
  unfolding cases
  demand_2_does_some r = T_not (passed f case_a) (refusing_fails_A f r) (one_of_all f [] case_a _ d.bench)

  pub demand_2_tells_apart : (a : Answer) → Constant a f → ⊥
  unfolding cases
  demand_2_tells_apart a k =
      T_not (passed f case_e) (constant_fails_E a f k) (one_of_all f (case_a ∷ case_b ∷ case_c ∷ case_d ∷ []) case_e _ d.bench)

  pub demand_2_stores : Leaving f → ⊥
  unfolding cases
  demand_2_stores l =
      T_not (passed f case_h) (leaving_fails_H f l)
      (one_of_all f (case_a ∷ case_b ∷ case_c ∷ case_d ∷ case_e ∷ case_f ∷ case_g ∷ []) case_h _ d.bench)

-- ---- slip 4

-- where `step` does not answer 10 it is `step`
pub room_first_else : (s : Store) (c : Call) → T (not (eqb (number_of (step s c).seen.answer) 10)) → room_first s c ≡ step s c
unfolding room_first
room_first_else s c t = go (eqb (number_of (step s c).seen.answer) 10) t
  where
    go : (b : Bool) → T (not b)
        → cond (b && lacks_room (asked_of c.cdb) s.pool.owners) (blind (unmoved (no_room (start_of (asked_of c.cdb)))) s c) (step s c) ≡ step s c
    go true t = absurd t
    go false t = refl

-- it fails I, and passes G and H, whose WRITEs lack room too
pub room_first_cases : T (not (passed room_first case_i) && passed room_first case_g && passed room_first case_h)
unfolding meaning room_first lacks_room is_write start_of blind unmoved
room_first_cases = tt

-- type 6, held by nexus 1, and nexus 3 is shut out: its WRITE has room in the one store, and lacks it in the other
half : Store
half = made (1 ∷ 0 ∷ []) two 6 1 0

full : Store
full = made (5 ∷ 4 ∷ []) two 6 1 0

one_write : List Call
one_write = write_10 3 0 2 (block 0xB0 ++ block 0xC0) ∷ []

heard_number : List Seen → ℕ
heard_number [] = 0
heard_number (x ∷ xs) = number_of x.answer

half_usable : T (usable half)
unfolding meaning half
half_usable = tt

full_usable : T (usable full)
unfolding meaning full
full_usable = tt

same_format : half.format ≡ full.format
unfolding meaning half full
same_format = refl

same_unit_law : half.unit ≡ full.unit
unfolding meaning half full
same_unit_law = refl

same_watched : watched room_first half one_write ≡ watched room_first full one_write
unfolding meaning half full one_write room_first lacks_room is_write start_of blind unmoved
same_watched = refl

-- the conflict, and the room
heard_half : heard_number (heard room_first half one_write) ≡ 10
unfolding meaning half one_write heard_number room_first lacks_room is_write start_of blind unmoved
heard_half = refl

heard_full : heard_number (heard room_first full one_write) ≡ 8
unfolding meaning full one_write heard_number room_first lacks_room is_write start_of blind unmoved
heard_full = refl

pub room_first_fails : Demand3 room_first → ⊥
room_first_fails d =
    ten_or_eight (heard_number (heard room_first half one_write)) heard_half
    (ap heard_number (d.secret half full one_write one_write half_usable full_usable same_format same_unit_law same_watched) ∙ heard_full)
  where
    ten_or_eight : (n : ℕ) → n ≡ 10 → n ≡ 8 → ⊥
    ten_or_eight n e d = omega arith
