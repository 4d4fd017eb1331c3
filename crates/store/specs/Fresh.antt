-- A fresh store: "no mapping, registration or reservation and generation 0. Making one is no call of a history and leaves the medium bytes;
-- bad bounds give 11 and leave all." Q-8: "Chosen when a store is made fresh, sense is fixed as now or descriptor format". Q-6: no attention waits,
-- "none when fresh". Q-7: no slot is marked, whatever the marks were. Assumes nothing.
use Rattle.std.specs.Prelude.{not, List, [], ◌∷◌, ℕ, eqb, length}
use Rattle.fields.specs.Bytes.{zeros}
use Rattle.answers.specs.declared.Answer.{Answer}
use Rattle.answers.specs.declared.Answer.TheVariants.{Unusable}
use Rattle.answers.specs.Order.{◌if◌, first, if_good}
use Rattle.answers.specs.Sense.{format_ok}
use Rattle.pool.specs.Bounds.{mark_words}
use Rattle.pool.specs.Pool.{pool}
use Rattle.pool.specs.Valid.{capacity_ok, slots_ok}
use Rattle.rights.specs.Rights.{no_rights}
use Rattle.rights.specs.Attentions.{no_attentions}
use Rattle.store.specs.declared.Unit.{Unit}
use Rattle.store.specs.Store.{Store}

unfoldable pub fresh_unit : ℕ → Unit
fresh_unit capacity = record { capacity = capacity; rights = no_rights; attentions = no_attentions }

-- the bounds and the format alone are tested: the medium is not lent; Q-7: "two 64-bit words"
unfoldable pub fresh_answer : ℕ → ℕ → ℕ → ℕ → Answer
fresh_answer capacity format slots words =
    first
    (Unusable if not (capacity_ok capacity)
    ∷ Unusable if not (format_ok format)
    ∷ Unusable if not (slots_ok slots)
    ∷ Unusable if not (eqb words mark_words)
    ∷ [])

-- what making a store leaves; a refusal makes no unit (the code has an `Err` there), and the place for it holds one without blocks, on which every
-- call is refused
pub record FreshResult : Type 0 where
  pub answer : Answer
  pub unit : Unit
  pub owners : List ℕ
  pub marks : List ℕ

unfoldable pub fresh : ℕ → ℕ → List ℕ → List ℕ → FreshResult
fresh capacity format owners marks = record {
  answer = fresh_answer capacity format (length owners) (length marks);
  unit = if_good (fresh_answer capacity format (length owners) (length marks)) (fresh_unit capacity) (fresh_unit 0);
  owners = if_good (fresh_answer capacity format (length owners) (length marks)) (zeros (length owners)) owners;
  marks = if_good (fresh_answer capacity format (length owners) (length marks)) (zeros mark_words) marks;
}

unfoldable pub fresh_store : ℕ → ℕ → ℕ → List ℕ → Store
fresh_store capacity format slots medium =
    record { format = format; unit = fresh_unit capacity; pool = pool (zeros slots) (zeros mark_words) medium }
