-- A call on the blocks: what its GOOD says of the store before it, what is seen of it, and what it leaves.
-- Assumes nothing.
use mathlib.Core.Path.{◌≡◌, refl, sym, ap, ap₂, ◌∙◌, subst}
use mathlib.Core.Logic.{◌≢◌}
use mathlib.Core.List.{List, [], ◌∷◌}
use Prim.Native.Nat.{ℕ, ◌≤◌}
use lib.Dec.{T}
use Rattle.answers.specs.declared.Answer.{Answer}
use Rattle.answers.specs.declared.Answer.TheVariants.{Good, Conflict}
use Rattle.fields.proofs.Tests.{by_equal}
use Rattle.answers.specs.Answers.{number_of}
use Rattle.answers.specs.Order.{◌if◌, first, refuses}
use Rattle.answers.proofs.OrderLaws.{good_cases, not_good}
use Rattle.answers.specs.Sense.{sense_after}
use Rattle.rights.specs.declared.Rights.{Rights}
use Rattle.forms.specs.declared.Move.{Move}
use Rattle.forms.specs.declared.Move.TheVariants.{Read, Write, WriteSame, Unmap, Status}
use Rattle.forms.specs.declared.Command.TheVariants.{Moves}
use Rattle.forms.specs.Forms.{asked_of, count_in}
use Rattle.forms.proofs.Fields.{is_counted, asked_fits}
use Rattle.store.specs.Store.{Store, Call, with_unit, with_pool, usable, relieved, seen_of}
use Rattle.store.specs.Conflict.{conflict}
use Rattle.store.specs.Move.{move_rows, moved, fetched}
use Rattle.store.specs.Step.{guard_rows, command_rows, own_rows, command_data, data_by, command_store, store_by, step, answer_to}
use Rattle.store.proofs.Parts.{good_cleared, good_own}
use Rattle.store.proofs.StoreLaws.{step_answer, step_seen, refused_store, step_store, leaves_good}
use Rattle.demands.specs.History.{after}
use Rattle.demands.specs.Contents.{Asks, IsGood, is_transfer}
use Rattle.demands.proofs.Demand1.{told_store_law, refused_store_law}

-- only a usable store answers GOOD
pub good_usable : (s : Store) (c : Call) → IsGood s c → T (usable s)
good_usable s c e = (good_cleared s c (sym (step_answer s c) ∙ e)).store

-- ---- what a call leaves

-- done
pub done_after : (s : Store) (c : Call) → IsGood s c → after step s c ≡ store_by (asked_of c.cdb) s c
unfolding after
done_after s c e = step_store s c ∙ leaves_good (answer_to s c) _ (refused_store s c) (sym (step_answer s c) ∙ e)

-- refused, but not to tell what waited
pub refused_after : (s : Store) (c : Call) → T (refuses (step s c).seen.answer) → number_of (step s c).seen.answer ≢ 13 → after step s c ≡ s
refused_after s c t = refused_store_law s c (not_good (step s c).seen.answer t)

-- and then too it leaves the blocks and their map
pub refused_pool : (s : Store) (c : Call) → T (refuses (step s c).seen.answer) → (after step s c).pool ≡ s.pool
refused_pool s c t =
    by_equal (number_of (step s c).seen.answer) 13 (λ _. (after step s c).pool ≡ s.pool)
    (λ e. ap (λ (x : Store). x.pool) (told_store_law s c e)) (λ n. ap (λ (x : Store). x.pool) (refused_after s c t n))

-- the store once the caller was told what waited for it
abbrev pub told_store : Store → Call → Store
told_store s c = with_unit s (relieved s.unit c.nexus)

-- one of the three
pub after_ways : (s : Store) (c : Call) (P : Store → Type 0) → (IsGood s c → P (after step s c)) → P s
    → (number_of (step s c).seen.answer ≡ 13 → P (told_store s c)) → P (after step s c)
after_ways s c P done kept told =
    good_cases (step s c).seen.answer done
    (λ t. by_equal (number_of (step s c).seen.answer) 13 (λ _. P (after step s c))
    (λ e. subst P (sym (told_store_law s c e)) (told e)) (λ n. subst P (sym (refused_after s c t n)) kept))

-- ---- what a call on the blocks asks for

module _ (m : Move) (c : Call) (a : Asks m c) where
  pub asks_guard : (r : Rights) (n : ℕ) → guard_rows (asked_of c.cdb) r n ≡ Conflict if conflict r n (Moves m) ∷ []
  unfolding guard_rows
  asks_guard r n = rw (a.is, a.command)

  pub asks_rows : (s : Store) → own_rows (asked_of c.cdb) s c ≡ move_rows m a.request s.unit.capacity s.pool c
  unfolding own_rows command_rows
  asks_rows s = rw (a.is, a.command)

  pub asks_data : (s : Store) → data_by (asked_of c.cdb) s ≡ fetched m a.request s.unit.capacity s.pool
  unfolding data_by command_data
  asks_data s = rw (a.is, a.command)

  pub asks_store : (s : Store) → store_by (asked_of c.cdb) s c ≡ with_pool s (moved m a.request s.pool c)
  unfolding store_by command_store
  asks_store s = rw (a.is, a.command)

-- ---- GOOD has no sense, so that the format makes no difference to what is seen

pub good_any : (f g : ℕ) (bs : List ℕ) (c : Call) → seen_of f Good bs c ≡ seen_of g Good bs c
unfolding seen_of sense_after
good_any f g bs c = refl

-- ---- a call on the blocks that is GOOD

module _ (m : Move) (s : Store) (c : Call) (a : Asks m c) (e : IsGood s c) where
  -- what is seen of it
  pub good_seen : (step s c).seen ≡ seen_of s.format Good (fetched m a.request s.unit.capacity s.pool) c
  good_seen = step_seen s c ∙ ap₂ (λ (x : Answer) (bs : List ℕ). seen_of s.format x bs c) (sym (step_answer s c) ∙ e) (asks_data m c a s)

  -- what it leaves
  pub good_after : after step s c ≡ with_pool s (moved m a.request s.pool c)
  good_after = done_after s c e ∙ asks_store m c a s

  pub good_pool : (after step s c).pool ≡ moved m a.request s.pool c
  good_pool = ap (λ (t : Store). t.pool) good_after

  -- none of its own rows holds
  pub good_rows : first (move_rows m a.request s.unit.capacity s.pool c) ≡ Good
  good_rows = ap first (sym (asks_rows m c a s)) ∙ good_own s c (sym (step_answer s c) ∙ e)

-- the unit's record is left by every call on the blocks, unless that told what waited
pub moves_unit : (m : Move) (s : Store) (c : Call) → Asks m c → number_of (step s c).seen.answer ≢ 13 → (after step s c).unit ≡ s.unit
moves_unit m s c a n =
    after_ways s c (λ t. t.unit ≡ s.unit) (λ e. ap (λ (t : Store). t.unit) (good_after m s c a e)) refl (λ e. absurd (n e))

counted_command : (m : Move) → T (is_transfer m) → T (is_counted (Moves m))
unfolding is_transfer is_counted
counted_command Read t = tt
counted_command Write t = tt
counted_command WriteSame t = absurd t
counted_command Unmap t = absurd t
counted_command Status t = absurd t

-- "count above 128: 2"
pub good_count : (m : Move) (s : Store) (c : Call) (a : Asks m c) → IsGood s c → T (is_transfer m) → count_in a.request ≤ 128
good_count m s c a e t =
    asked_fits c.cdb a.request a.is (good_cleared s c (sym (step_answer s c) ∙ e)).fields (rw a.command (counted_command m t))
