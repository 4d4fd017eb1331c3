-- A fresh store: what making one leaves, and that calls may begin on it; on a store that is not usable every call gives 11.
-- Assumes nothing.
use mathlib.Core.Path.{◌≡◌, refl, sym, ap, ◌∙◌}
use mathlib.Core.Bool.{Bool, true, false, not, ◌&&◌}
use mathlib.Core.List.{List, [], ◌∷◌}
use Prim.Native.Nat.{ℕ, ◌*◌}
use lib.Dec.{T, eqb}
use lib.ListN.{length}
use Rattle.fields.specs.Bytes.{zeros}
use Rattle.fields.proofs.BytesLaws.{length_zeros}
use Rattle.answers.specs.declared.Answer.{Answer}
use Rattle.answers.specs.declared.Answer.TheVariants.{Good, Unusable}
use Rattle.answers.specs.Order.{◌if◌, first, if_good, first_of, if_good_by, refuses}
use Rattle.answers.specs.Sense.{format_ok}
use Rattle.pool.specs.Bounds.{mark_words}
use Rattle.pool.specs.Valid.{capacity_ok, slots_ok}
use Rattle.pool.proofs.Marking.{marks_zeros}
use Rattle.pool.proofs.Keeping.{pool_ok_of, map_ok_zeros}
use Rattle.rights.specs.Places.{used, registered}
use Rattle.rights.specs.Rights.{no_rights, place_ok, places_apart, places_ok, stands, rights_ok}
use Rattle.store.specs.Store.{Store, Call, usable}
use Rattle.store.specs.Step.{step}
use Rattle.store.proofs.Parts.{unusable_answer}
use Rattle.store.proofs.StoreLaws.{step_answer}
use Rattle.store.specs.Fresh.{fresh_unit, fresh_answer, FreshResult, fresh, fresh_store}
use Rattle.rights.proofs.AttentionLaws.{none_ok}
use Rattle.demands.proofs.Usable.{unit_of, usable_of}

-- ---- making one

module _ (capacity format : ℕ) (owners marks : List ℕ) where
  bounds : (a b c d : Bool) → T (a && (b && (c && d))) → first (Unusable if not a ∷ Unusable if not b ∷ Unusable if not c ∷ Unusable if not d ∷ []) ≡ Good
  unfolding first_of
  bounds true true true true t = refl
  bounds true true true false t = absurd t
  bounds true true false d t = absurd t
  bounds true false c d t = absurd t
  bounds false b c d t = absurd t

  no_bounds : (a b c d : Bool) → T (not (a && (b && (c && d))))
      → first (Unusable if not a ∷ Unusable if not b ∷ Unusable if not c ∷ Unusable if not d ∷ []) ≡ Unusable
  unfolding first_of
  no_bounds true true true true t = absurd t
  no_bounds true true true false t = refl
  no_bounds true true false d t = refl
  no_bounds true false c d t = refl
  no_bounds false b c d t = refl

  -- all that making one leaves, by its answer
  by_answer : Answer → FreshResult
  by_answer a = record {
    answer = a;
    unit = if_good a (fresh_unit capacity) (fresh_unit 0);
    owners = if_good a (zeros (length owners)) owners;
    marks = if_good a (zeros mark_words) marks;
  }

  -- "no mapping, registration or reservation and generation 0"
  pub fresh_made : T (capacity_ok capacity && (format_ok format && (slots_ok (length owners) && eqb (length marks) mark_words)))
      → fresh capacity format owners marks
      ≡ record { answer = Good; unit = fresh_unit capacity; owners = zeros (length owners); marks = zeros mark_words }
  unfolding by_answer fresh fresh_answer if_good_by refuses
  fresh_made t = ap by_answer (bounds (capacity_ok capacity) (format_ok format) (slots_ok (length owners)) (eqb (length marks) mark_words) t)

  -- "bad bounds give 11 and leave all", and so does a format that is none, and marks that are not two words
  pub fresh_refused : T (not (capacity_ok capacity && (format_ok format && (slots_ok (length owners) && eqb (length marks) mark_words))))
      → fresh capacity format owners marks ≡ record { answer = Unusable; unit = fresh_unit 0; owners = owners; marks = marks }
  unfolding by_answer fresh fresh_answer if_good_by refuses
  fresh_refused t = ap by_answer (no_bounds (capacity_ok capacity) (format_ok format) (slots_ok (length owners)) (eqb (length marks) mark_words) t)

-- ---- calls may begin on it

no_rights_ok : T (rights_ok no_rights)
unfolding rights_ok no_rights places_ok places_apart place_ok used registered stands
no_rights_ok = tt

pub fresh_usable : (capacity format slots : ℕ) (medium : List ℕ) → T (capacity_ok capacity) → T (format_ok format) → T (slots_ok slots)
    → length medium ≡ 512 * slots → T (usable (fresh_store capacity format slots medium))
unfolding fresh_store fresh_unit
fresh_usable capacity format slots medium b f s e =
    usable_of (fresh_store capacity format slots medium) f (unit_of (fresh_unit capacity) b no_rights_ok none_ok)
    (pool_ok_of capacity _ (rw length_zeros s) (rw length_zeros e) (map_ok_zeros capacity slots) (sym (marks_zeros slots)))

-- ---- on no other

-- "11 … slots or capacity out of bounds, medium not 512 x slots bytes, invalid state"
pub unusable_eleven : (s : Store) (c : Call) → T (not (usable s)) → (step s c).seen.answer ≡ Unusable
unusable_eleven s c t = step_answer s c ∙ unusable_answer s c t
