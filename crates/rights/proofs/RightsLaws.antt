-- The types exclude one another; with none, only the holder field counts.
-- Assumes nothing.
use mathlib.Core.Path.{◌≡◌, refl, sym, ap, ◌∙◌}
use mathlib.Core.Bool.{Bool, true, false, true≢false, or-false}
use Prim.Native.Nat.{ℕ}
use lib.Dec.{T, eqb}
use borrow.Author.Tests.{ne_eqb}
use mathlib.Core.List.{List}
use Rattle.fields.proofs.Tests.{T_true}
use Rattle.rights.specs.declared.Place.{Place}
use Rattle.rights.specs.Rights.{is_one_of, is_type, one_holds, all_hold, stands}

-- what passes a test is nothing that fails it
differs : (q : ℕ → Bool) (kind k : ℕ) → q kind ≡ true → q k ≡ false → eqb kind k ≡ false
differs q kind k e f = ne_eqb kind k (λ z. true≢false (sym e ∙ ap q z ∙ f))

module _ (kind : ℕ) where
  pub one_not_none : one_holds kind ≡ true → eqb kind 0 ≡ false
  unfolding one_holds is_one_of
  one_not_none e = differs one_holds kind 0 e refl

  pub all_not_none : all_hold kind ≡ true → eqb kind 0 ≡ false
  unfolding all_hold is_one_of
  all_not_none e = differs all_hold kind 0 e refl

  -- one of the six is not none
  pub type_not_none : T (is_type kind) → eqb kind 0 ≡ false
  unfolding is_type is_one_of
  type_not_none t = differs is_type kind 0 (T_true (is_type kind) t) refl

  pub one_not_all : one_holds kind ≡ true → all_hold kind ≡ false
  unfolding one_holds all_hold is_one_of
  one_not_all e = simp (differs one_holds kind 7 e refl, differs one_holds kind 8 e refl)

-- "with no reservation, holder and type are 0"
pub stands_none : (ps : List Place) (kind holder : ℕ) → kind ≡ 0 → stands ps kind holder ≡ eqb holder 0
unfolding stands one_holds all_hold is_one_of
stands_none ps kind holder e = rw (e, or-false, or-false)
