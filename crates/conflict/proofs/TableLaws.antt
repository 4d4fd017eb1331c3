-- The code's table: each command's row in its place, and a row without a conflict.
-- Assumes nothing.
use mathlib.Core.Path.{◌≡◌, refl, sym}
use mathlib.Core.Bool.{Bool, true, false, ◌||◌, true≢false}
use mathlib.Core.List.{List, [], ◌∷◌}
use Prim.Native.Nat.{ℕ, zero, suc, ◌<◌}
use native.Mathlib.Omega.{arith}
use lib.Dec.{T, ltb, ltb→lt}
use lib.ListN.{get_or}
use Rattle.std.specs.Prelude.{Some, None}
use Rattle.rights.specs.declared.Rights.{Rights}
use Rattle.rights.specs.declared.Action.TheVariants.{Register}
use Rattle.rights.specs.Rights.{is_one_of, one_holds, all_hold, holds}
use Rattle.forms.specs.declared.Tell.TheVariants.{Ready, Inquiry, Capacity10, Capacity16, Keys, Reservation}
use Rattle.forms.specs.declared.Move.TheVariants.{Read, Write, WriteSame, Unmap, Status}
use Rattle.forms.specs.declared.Command.{Command}
use Rattle.forms.specs.declared.Command.TheVariants.{Tells, Moves, Alters}
use Rattle.store.specs.Conflict.{Column, Allowed, column_under, column_of, row, says, conflict}
use Rattle.store.proofs.ConflictLaws.{by_row, column_listed}
use Rattle.conflict.specs.Rows.{number_of, somewhere}

-- the rows, in the order in which the code has them
unfoldable pub table : List (List Bool)
table =
    row (Moves Status)
    ∷ row (Tells Inquiry)
    ∷ row (Tells Keys)
    ∷ row (Tells Reservation)
    ∷ row (Alters Register)
    ∷ row (Moves Read)
    ∷ row (Tells Capacity10)
    ∷ row (Tells Capacity16)
    ∷ row (Tells Ready)
    ∷ row (Moves Unmap)
    ∷ row (Moves Write)
    ∷ row (Moves WriteSame)
    ∷ []

pub number_listed : (k : Command) → number_of k < 12
unfolding number_of
number_listed k = ltb→lt (number_of k) 12 (by_row (λ x. T (ltb (number_of x) 12)) tt tt tt tt tt (λ _. tt) tt tt tt tt tt tt tt k)

pub row_there : (k : Command) → get_or table (number_of k) [] ≡ row k
unfolding table number_of row
row_there = by_row (λ k. get_or table (number_of k) [] ≡ row k) refl refl refl refl refl (λ _. refl) refl refl refl refl refl refl refl

-- ---- nobody is stopped where there is no reservation, and by a row without a conflict

pub none_stopped : (r : Rights) (n : ℕ) (k : Command) → r.kind ≡ 0 → false ≡ conflict r n k
unfolding conflict column_of column_under holds one_holds all_hold is_one_of says
none_stopped r n k e = rw e

none_of_five : (a b c d e : Bool) → (a || b || c || d || e) ≡ false
    → (a ≡ false) × (b ≡ false) × (c ≡ false) × (d ≡ false) × (e ≡ false)
none_of_five true b c d e h = absurd (true≢false h)
none_of_five false true c d e h = absurd (true≢false h)
none_of_five false false true d e h = absurd (true≢false h)
none_of_five false false false true e h = absurd (true≢false h)
none_of_five false false false false true h = absurd (true≢false h)
none_of_five false false false false false h = (refl, refl, refl, refl, refl)

nowhere : (cells : List Bool) (column : ℕ) → somewhere cells ≡ false → column < 5 → get_or cells column Allowed ≡ false
unfolding somewhere
nowhere cells column e h = go (none_of_five _ _ _ _ _ e) column h
  where
    go : (get_or cells 0 Allowed ≡ false) × (get_or cells 1 Allowed ≡ false) × (get_or cells 2 Allowed ≡ false) × (get_or cells 3 Allowed ≡ false)
        × (get_or cells 4 Allowed ≡ false)
        → (column : ℕ) → column < 5 → get_or cells column Allowed ≡ false
    go n zero h = n.0
    go n (suc zero) h = n.1
    go n (suc (suc zero)) h = n.2
    go n (suc (suc (suc zero))) h = n.3
    go n (suc (suc (suc (suc zero)))) h = n.4
    go n (suc (suc (suc (suc (suc column))))) h = absurd (omega arith)

pub nobody_stopped : (r : Rights) (n : ℕ) (k : Command) → somewhere (row k) ≡ false → false ≡ conflict r n k
unfolding conflict says
nobody_stopped r n k e = sym (go (column_of r n) refl)
  where
    go : (column : Column) → column_of r n ≡ column → says column (row k) ≡ false
    go None h = refl
    go (Some column) h = nowhere (row k) column e (column_listed r n column h)
