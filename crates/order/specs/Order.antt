-- An order of tests, over any type of answer: a list of rows, each an answer and when it is given.
-- Assumes nothing.
use Rattle.std.specs.Prelude.{◌≡◌, Bool, true, false, ◌&&◌, cond, List, [], ◌∷◌}

infix 68 ◌if◌
pub data Row (A : Type 0) : Type 0 where
  ◌if◌ : A → Bool → Row A

-- "Each is given exactly when its condition holds and nothing earlier in the order does": the first row that holds, and `good` where none does
unfoldable pub first_of : {A : Type 0} → A → List (Row A) → A
first_of good [] = good
first_of good ((a if b) ∷ rows) = elim b [ true ↦ a | false ↦ first_of good rows ]

-- a refusal stands; after an answer that refuses nothing the later one counts
unfoldable pub next_by : {A : Type 0} → (A → Bool) → A → A → A
next_by refuses a later = cond (refuses a) a later

-- a value where the call is done, and another where it is refused
unfoldable pub if_good_by {ℓ} : {A : Type 0} {X : Type ℓ} → (A → Bool) → A → X → X → X
if_good_by refuses a done kept = cond (refuses a) kept done

-- rows that all refuse
unfoldable pub refusing_by : {A : Type 0} → (A → Bool) → List (Row A) → Bool
refusing_by refuses [] = true
refusing_by refuses ((a if b) ∷ rows) = refuses a && refusing_by refuses rows

-- `good` is the one answer that does not refuse
pub record OneGood {A : Type 0} (good : A) (refuses : A → Bool) : Type 0 where
  pub passes : refuses good ≡ false
  pub alone : (a : A) → refuses a ≡ false → a ≡ good
