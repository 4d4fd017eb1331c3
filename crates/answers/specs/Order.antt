-- The order of tests of the store's calls: rows of its answers.
-- Assumes nothing.
use Rattle.std.specs.Prelude.{Bool, true, false, List}
use Rattle.order.specs.Order.{Row as RowOf}
use Rattle.answers.specs.declared.Answer.{Answer}
use Rattle.answers.specs.declared.Answer.TheVariants.{Good, Refused, Conflict, Unusable, Short}
pub use Rattle.order.specs.Order.{◌if◌}
unfoldable pub use Rattle.order.specs.Order.{first_of, next_by, if_good_by, refusing_by}

abbrev pub Row : Type 0
Row = RowOf Answer

-- an answer that is not GOOD
unfoldable pub refuses : Answer → Bool
refuses Good = false
refuses (Refused refusal) = true
refuses Conflict = true
refuses Unusable = true
refuses Short = true

-- the first row that holds, and GOOD where none does
abbrev pub first : List Row → Answer
first = first_of Good

-- a refusal stands; after GOOD the later answer counts
abbrev pub next : Answer → Answer → Answer
next = next_by refuses

-- a value where the call is done, and another where it is refused
abbrev pub if_good {ℓ} : {A : Type ℓ} → Answer → A → A → A
if_good = if_good_by refuses

-- rows that all refuse
abbrev pub refusing : List Row → Bool
refusing = refusing_by refuses
