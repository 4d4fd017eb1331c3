-- The column by the reservation's type, as the code tells the types apart.
-- Assumes nothing.
use mathlib.Core.Path.{◌≡◌}
use mathlib.Core.Logic.{inl, inr}
use mathlib.Core.Bool.{Bool, false, cond}
use mathlib.Core.List.{[], ◌∷◌}
use Prim.Native.Nat.{ℕ}
use borrow.Author.Tests.{ne_eqb}
use types.Run.{OneOf}
use Rattle.std.specs.Prelude.{None}
use Rattle.rights.specs.declared.Rights.{Rights}
use Rattle.rights.specs.Places.{registered}
use Rattle.rights.specs.Rights.{is_one_of, holds}
use Rattle.store.specs.Conflict.{Column, registered_nexus, other_write_exclusive, other_exclusive_access, column_under, column_of}

-- the column of a nexus that does not hold
pub not_holder : (r : Rights) (n : ℕ) (column : Column) → holds r n ≡ false → column ≡ column_under r.kind (registered n r.places)
    → column ≡ column_of r n
unfolding column_of
not_holder r n column e h = rw e h

-- the types for registrants
pub write_exclusive : (kind : ℕ) (known : Bool) → OneOf (5 ∷ 7 ∷ []) kind → cond known registered_nexus other_write_exclusive ≡ column_under kind known
unfolding column_under is_one_of
write_exclusive kind known (inl e) = rw e
write_exclusive kind known (inr e) = rw e

pub exclusive_access : (kind : ℕ) (known : Bool) → OneOf (6 ∷ 8 ∷ []) kind → cond known registered_nexus other_exclusive_access ≡ column_under kind known
unfolding column_under is_one_of
exclusive_access kind known (inl e) = rw e
exclusive_access kind known (inr e) = rw e

-- no type
pub no_type : (kind : ℕ) (known : Bool) → (OneOf (1 ∷ []) kind → ⊥) → (OneOf (3 ∷ []) kind → ⊥) → (OneOf (5 ∷ 7 ∷ []) kind → ⊥)
    → (OneOf (6 ∷ 8 ∷ []) kind → ⊥) → None ≡ column_under kind known
unfolding column_under is_one_of
no_type kind known a b c d =
    simp (
      ne_eqb kind 1 a,
      ne_eqb kind 3 b,
      ne_eqb kind 5 (λ e. c (inl e)),
      ne_eqb kind 7 (λ e. c (inr e)),
      ne_eqb kind 6 (λ e. d (inl e)),
      ne_eqb kind 8 (λ e. d (inr e)),
    )
