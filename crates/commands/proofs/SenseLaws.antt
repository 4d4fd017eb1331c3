-- Sense after an answer that is taken apart: a refusal's is put, any other leaves the buffer.
-- Assumes nothing.
use mathlib.Core.Path.{◌≡◌, refl, sym, ap, ◌∙◌}
use mathlib.Core.Logic.{inl, inr}
use mathlib.Core.List.{List, [], ◌∷◌}
use Prim.Native.Nat.{ℕ}
use native.Mathlib.Omega.{arith}
use types.Run.{OneOf}
use denote.Enum.Declared.{tag_of}
use Rattle.fields.specs.Bytes.{put}
use Rattle.answers.specs.contracts.Answer.{the_type}
use Rattle.answers.specs.declared.Refusal.{Refusal}
use Rattle.answers.specs.declared.Answer.{Answer}
use Rattle.answers.specs.declared.Answer.TheVariants.{Good, Refused, Conflict, Unusable, Short}
use Rattle.answers.specs.Sense.{sense_data, sense_after}

pub senseless : (format : ℕ) (a : Answer) (sense : List ℕ) → OneOf (0 ∷ 2 ∷ 3 ∷ 4 ∷ []) (tag_of the_type a) → sense ≡ sense_after format a sense
unfolding sense_after
senseless format Good sense k = refl
senseless format (Refused x) sense (inl e) = absurd (omega arith)
senseless format (Refused x) sense (inr (inl e)) = absurd (omega arith)
senseless format (Refused x) sense (inr (inr (inl e))) = absurd (omega arith)
senseless format (Refused x) sense (inr (inr (inr e))) = absurd (omega arith)
senseless format Conflict sense k = refl
senseless format Unusable sense k = refl
senseless format Short sense k = refl

pub senseless_but_refused : (format : ℕ) (a : Answer) (sense : List ℕ) → ((x : Refusal) → a ≡ Refused x → ⊥) → sense ≡ sense_after format a sense
unfolding sense_after
senseless_but_refused format Good sense k = refl
senseless_but_refused format (Refused x) sense k = absurd (k x refl)
senseless_but_refused format Conflict sense k = refl
senseless_but_refused format Unusable sense k = refl
senseless_but_refused format Short sense k = refl

pub refused_sense : (format : ℕ) (a : Answer) (x : Refusal) (sense : List ℕ) {after : List ℕ} → a ≡ Refused x → after ≡ put sense 0 (sense_data format x)
    → after ≡ sense_after format a sense
unfolding sense_after
refused_sense format a x sense e k = k ∙ sym (ap (λ (b : Answer). sense_after format b sense) e)
