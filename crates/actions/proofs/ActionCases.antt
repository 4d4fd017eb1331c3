-- What the six actions decide, case by case, as the code meets them.
-- Assumes nothing.
use mathlib.Core.Path.{◌≡◌, sym, ◌∙◌}
use mathlib.Core.Bool.{true, false, not}
use mathlib.Core.List.{[], ◌∷◌}
use Prim.Native.Nat.{ℕ}
use lib.Dec.{T, eqb}
use Rattle.std.specs.Prelude.{Ok, Err}
use Rattle.answers.specs.declared.Answer.{Answer}
use Rattle.answers.specs.declared.Answer.TheVariants.{Good, Conflict}
use Rattle.answers.specs.Answers.{list_field, no_place, other_type}
use Rattle.answers.specs.Order.{◌if◌, first, first_of, if_good_by, refuses}
use Rattle.answers.proofs.OrderLaws.{if_refused}
use Rattle.rights.specs.declared.Rights.{Rights}
use Rattle.rights.specs.declared.Parameters.{Parameters}
use Rattle.rights.specs.declared.Action.TheVariants.{Register, Reserve, Release, Clear, Preempt, RegisterIgnoring}
use Rattle.rights.specs.Places.{key_of, known}
use Rattle.rights.specs.Rights.{all_hold, holds, held, ended}
use Rattle.rights.specs.Actions.{service_key_bits, register_flags, flag_rows, stranger, key_wrong, crowded, action_rows, decision_rows}
use Rattle.rights.specs.Actions.{registering, reserving, releasing, clearing, preempting, taking_over, acted, unless_refused, decided}
use Rattle.rights.proofs.DecisionLaws.{flags_refused, flags_passed}

module _ (r : Rights) (n : ℕ) (o : Parameters) where
  -- ---- registering

  pub enter_crowded : crowded r n o ≡ true → unless_refused (first (no_place if crowded r n o ∷ [])) (registering r n o.service) ≡ Err no_place
  unfolding first_of if_good_by refuses
  enter_crowded e = simp e

  pub enter_done : crowded r n o ≡ false
      → unless_refused (first (no_place if crowded r n o ∷ [])) (registering r n o.service) ≡ Ok (registering r n o.service)
  unfolding first_of if_good_by refuses
  enter_done e = simp e

  pub register_flags_law : (x : Answer) → x ≡ first (register_flags o) → T (refuses x) → decided Register r n o ≡ Err x
  unfolding decided flag_rows
  register_flags_law x e t = simp (flags_refused Register r n o (rw e at t) ∙ sym e, if_refused x (Ok (acted Register r n o)) (Err x) t)

  pub register_key : first (register_flags o) ≡ Good → eqb o.key (key_of n r.places) ≡ false → decided Register r n o ≡ Err Conflict
  unfolding decided flag_rows key_wrong first_of if_good_by refuses
  register_key e f = rw (flags_passed Register r n o e) (simp f)

  pub register_enters : first (register_flags o) ≡ Good → eqb o.key (key_of n r.places) ≡ true
      → decided Register r n o ≡ unless_refused (first (no_place if crowded r n o ∷ [])) (registering r n o.service)
  unfolding decided flag_rows key_wrong action_rows acted first_of
  register_enters e f = rw (flags_passed Register r n o e) (simp f)

  pub ignoring_flags : (x : Answer) → x ≡ first (register_flags o) → T (refuses x) → decided RegisterIgnoring r n o ≡ Err x
  unfolding decided flag_rows
  ignoring_flags x e t = simp (flags_refused RegisterIgnoring r n o (rw e at t) ∙ sym e, if_refused x (Ok (acted RegisterIgnoring r n o)) (Err x) t)

  pub ignoring_enters : first (register_flags o) ≡ Good
      → decided RegisterIgnoring r n o ≡ unless_refused (first (no_place if crowded r n o ∷ [])) (registering r n o.service)
  unfolding decided flag_rows key_wrong action_rows acted first_of
  ignoring_enters e = rw (flags_passed RegisterIgnoring r n o e)

  -- ---- a stranger

  pub reserve_stranger : stranger r n o ≡ true → decided Reserve r n o ≡ Err Conflict
  unfolding decided decision_rows flag_rows key_wrong first_of if_good_by refuses
  reserve_stranger e = simp e

  pub release_stranger : stranger r n o ≡ true → decided Release r n o ≡ Err Conflict
  unfolding decided decision_rows flag_rows key_wrong first_of if_good_by refuses
  release_stranger e = simp e

  pub clear_stranger : stranger r n o ≡ true → decided Clear r n o ≡ Err Conflict
  unfolding decided decision_rows flag_rows key_wrong first_of if_good_by refuses
  clear_stranger e = simp e

  pub preempt_stranger : stranger r n o ≡ true → decided Preempt r n o ≡ Err Conflict
  unfolding decided decision_rows flag_rows key_wrong first_of if_good_by refuses
  preempt_stranger e = simp e

  -- ---- the others, of a nexus that gave its key

  module _ (s : stranger r n o ≡ false) where
    pub reserve_made : eqb r.kind 0 ≡ true → decided Reserve r n o ≡ Ok (held r o.kind n)
    unfolding decided decision_rows flag_rows key_wrong action_rows acted reserving first_of if_good_by refuses
    reserve_made e = simp (s, e)

    pub reserve_other : eqb r.kind 0 ≡ false → holds r n ≡ false → decided Reserve r n o ≡ Err Conflict
    unfolding decided decision_rows flag_rows key_wrong action_rows first_of if_good_by refuses
    reserve_other e f = simp (s, e, f)

    pub reserve_again : eqb r.kind 0 ≡ false → holds r n ≡ true → eqb r.kind o.kind ≡ true → decided Reserve r n o ≡ Ok r
    unfolding decided decision_rows flag_rows key_wrong action_rows acted reserving first_of if_good_by refuses
    reserve_again e f g = simp (s, e, f, g)

    pub reserve_type : eqb r.kind 0 ≡ false → holds r n ≡ true → eqb r.kind o.kind ≡ false → decided Reserve r n o ≡ Err Conflict
    unfolding decided decision_rows flag_rows key_wrong action_rows first_of if_good_by refuses
    reserve_type e f g = simp (s, e, f, g)

    pub release_other : holds r n ≡ false → decided Release r n o ≡ Ok r
    unfolding decided decision_rows flag_rows key_wrong action_rows acted releasing first_of if_good_by refuses
    release_other e = simp (s, e)

    pub release_done : holds r n ≡ true → eqb r.kind o.kind ≡ true → decided Release r n o ≡ Ok (ended r)
    unfolding decided decision_rows flag_rows key_wrong action_rows acted releasing first_of if_good_by refuses
    release_done e f = simp (s, e, f)

    pub release_type : holds r n ≡ true → eqb r.kind o.kind ≡ false → decided Release r n o ≡ Err other_type
    unfolding decided decision_rows flag_rows key_wrong action_rows first_of if_good_by refuses
    release_type e f = simp (s, e, f)

    pub clear_done : decided Clear r n o ≡ Ok (clearing r)
    unfolding decided decision_rows flag_rows key_wrong action_rows acted first_of if_good_by refuses
    clear_done = simp s

    pub preempt_zero : eqb o.service 0 ≡ true
        → decided Preempt r n o ≡ unless_refused (first (list_field service_key_bits if not (all_hold r.kind) ∷ [])) (taking_over r n o.kind)
    unfolding decided decision_rows flag_rows key_wrong action_rows acted first_of
    preempt_zero e = simp (s, e)

    pub preempt_unknown : eqb o.service 0 ≡ false → known o.service r.places ≡ false → decided Preempt r n o ≡ Err Conflict
    unfolding decided decision_rows flag_rows key_wrong action_rows first_of if_good_by refuses
    preempt_unknown e f = simp (s, e, f)

    pub preempt_done : eqb o.service 0 ≡ false → known o.service r.places ≡ true → decided Preempt r n o ≡ Ok (preempting r n o.kind o.service)
    unfolding decided decision_rows flag_rows key_wrong action_rows acted first_of if_good_by refuses
    preempt_done e f = simp (s, e, f)
