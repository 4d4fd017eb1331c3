-- Whether a fresh store was made: with a unit where the answer is GOOD, and without one where it refuses.
-- Assumes nothing.
use mathlib.Core.Path.{◌≡◌, refl, sym, ap, ◌∙◌}
use mathlib.Core.List.{List}
use Prim.Native.Nat.{ℕ}
use lib.Dec.{T}
use lib.ListN.{length}
use Rattle.std.specs.Prelude.{Result, Ok, Err, IsOk}
use Rattle.answers.specs.declared.Answer.{Answer}
use Rattle.answers.specs.declared.Answer.TheVariants.{Good, Refused, Conflict, Unusable, Short}
use Rattle.answers.specs.Order.{if_good_by, refuses}
use Rattle.answers.proofs.OrderLaws.{row_stop}
use Rattle.pool.specs.Valid.{capacity_ok}
use Rattle.store.specs.declared.Unit.{Unit}
use Rattle.store.specs.Fresh.{FreshResult, fresh_unit, fresh_answer, fresh}
use Rattle.reply.specs.Contract.{made}

-- a fresh store has blocks where its answer is GOOD
good_blocks : (capacity format slots words : ℕ) → fresh_answer capacity format slots words ≡ Good → fresh_unit 0 ≡ fresh_unit capacity → ⊥
unfolding fresh_answer fresh_unit capacity_ok
good_blocks capacity format slots words g e =
    let none : capacity ≡ 0 = sym (ap (λ (u : Unit). u.capacity) e) in
    let stopped : fresh_answer 0 format slots words ≡ Unusable = row_stop Unusable _ _ refl in
    let both : Good ≡ Unusable = sym g ∙ ap (λ (n : ℕ). fresh_answer n format slots words) none ∙ stopped in
    cc

-- so an answer without a unit is none that is GOOD
pub unmade_refuses : (capacity format : ℕ) (before marked : List ℕ) (a : Answer) (owners marks : List ℕ)
    → made (Err a) owners marks ≡ fresh capacity format before marked → T (refuses a)
unfolding fresh if_good_by refuses
unmade_refuses capacity format before marked Good owners marks e =
    let good : fresh_answer capacity format (length before) (length marked) ≡ Good = sym (ap (λ (x : FreshResult). x.answer) e) in
    let unit : fresh_unit 0 ≡ fresh_unit capacity = rw good at (ap (λ (x : FreshResult). x.unit) e) in
    absurd (good_blocks capacity format (length before) (length marked) good unit)
unmade_refuses capacity format before marked (Refused x) owners marks e = tt
unmade_refuses capacity format before marked Conflict owners marks e = tt
unmade_refuses capacity format before marked Unusable owners marks e = tt
unmade_refuses capacity format before marked Short owners marks e = tt

-- and one that is GOOD comes with a unit
pub good_made : (capacity format : ℕ) (before marked : List ℕ) (r : Result Unit Answer) (owners marks : List ℕ)
    → made r owners marks ≡ fresh capacity format before marked → (fresh capacity format before marked).answer ≡ Good → IsOk r
unfolding refuses
good_made capacity format before marked (Ok u) owners marks e g = refl
good_made capacity format before marked (Err a) owners marks e g =
    let t : T (refuses a) = unmade_refuses capacity format before marked a owners marks e in
    let good : a ≡ Good = ap (λ (x : FreshResult). x.answer) e ∙ g in
    absurd (rw good at t)
