-- A usable store stays usable after every call, and its lists keep their lengths.
-- Assumes nothing.
use mathlib.Core.Path.{◌≡◌, refl, sym, ap, ◌∙◌, subst}
use mathlib.Core.Bool.{◌&&◌}
use mathlib.Core.List.{List}
use Prim.Native.Nat.{ℕ, zero, suc, ◌+◌, ◌≤◌}
use lib.Dec.{T}
use lib.ListN.{length}
use Rattle.fields.proofs.Tests.{and_l, and_r, both}
use Rattle.answers.specs.declared.Answer.TheVariants.{Good, Short}
use Rattle.answers.specs.Answers.{list_length}
use Rattle.answers.specs.Order.{first, refuses}
use Rattle.answers.specs.Sense.{format_ok}
use Rattle.answers.proofs.OrderLaws.{rows_after}
use Rattle.pool.specs.Bounds.{mark_words}
use Rattle.pool.specs.Marks.{marks_of}
use Rattle.pool.specs.Pool.{Pool, pool, with_owners, write_blocks, unmap_blocks, unmap_owners}
use Rattle.pool.specs.Valid.{capacity_ok, pool_ok}
use Rattle.pool.proofs.Marking.{length_marks_of}
use Rattle.pool.proofs.Keeping.{pool_ok_marks, pool_ok_write_blocks, pool_ok_unmap_blocks, length_assign_blocks, length_put_blocks, length_unmap_owners}
use Rattle.descriptors.specs.Descriptors.{descriptor_at, unmap_all}
use Rattle.rights.specs.declared.Action.{Action}
use Rattle.rights.specs.declared.Rights.{Rights}
use Rattle.rights.specs.Rights.{is_type, rights_ok}
use Rattle.rights.specs.Actions.{acted}
use Rattle.rights.specs.Attentions.{attentions_ok}
use Rattle.rights.proofs.AttentionLaws.{returned_ok, notified_ok}
use Rattle.rights.proofs.Keeping.{makes, acted_keeps}
use Rattle.forms.specs.declared.Move.{Move}
use Rattle.forms.specs.declared.Move.TheVariants.{Read, Write, WriteSame, Unmap, Status}
use Rattle.forms.specs.declared.Command.{Command}
use Rattle.forms.specs.declared.Command.TheVariants.{Tells, Moves, Alters}
use Rattle.forms.specs.declared.Request.{Request}
use Rattle.forms.specs.Forms.{Asked, nothing, asks, asked_of, count_in}
use Rattle.forms.proofs.Fields.{is_maker, asked_typed}
use Rattle.store.specs.declared.Unit.{Unit}
use Rattle.store.specs.Store.{Store, Call, with_unit, unit_ok, usable, relieved, enacted}
use Rattle.store.specs.Move.{move_rows, moved}
use Rattle.store.specs.Alter.{parameters_of, alter_rows}
use Rattle.store.specs.Step.{command_rows, own_rows, command_store, store_by, step, answer_to}
use Rattle.store.proofs.Parts.{Cleared, good_cleared, good_own, call_nexus}
use Rattle.store.proofs.StoreLaws.{step_ways, format_kept}
use Rattle.store.proofs.SameLaws.{same_ways}
use Rattle.store.proofs.MoveLaws.{write_passes, same_passes}
use Rattle.demands.specs.History.{after}

-- ---- usable, taken apart and put together

pub usable_format : (s : Store) → T (usable s) → T (format_ok s.format)
unfolding usable
usable_format s u = and_l (format_ok s.format) _ u

usable_rest : (s : Store) → T (usable s) → T (unit_ok s.unit && pool_ok s.unit.capacity s.pool)
unfolding usable
usable_rest s u = and_r (format_ok s.format) _ u

pub usable_unit : (s : Store) → T (usable s) → T (unit_ok s.unit)
usable_unit s u = and_l (unit_ok s.unit) (pool_ok s.unit.capacity s.pool) (usable_rest s u)

pub usable_pool : (s : Store) → T (usable s) → T (pool_ok s.unit.capacity s.pool)
usable_pool s u = and_r (unit_ok s.unit) (pool_ok s.unit.capacity s.pool) (usable_rest s u)

-- "A mark without its owner, an owner without its mark, or a mark beyond the slots makes the state invalid."
pub usable_marks : (s : Store) → T (usable s) → s.pool.marks ≡ marks_of s.pool.owners
usable_marks s u = pool_ok_marks s.unit.capacity s.pool (usable_pool s u)

pub usable_words : (s : Store) → T (usable s) → length s.pool.marks ≡ mark_words
usable_words s u = ap length (usable_marks s u) ∙ length_marks_of s.pool.owners

pub usable_of : (s : Store) → T (format_ok s.format) → T (unit_ok s.unit) → T (pool_ok s.unit.capacity s.pool) → T (usable s)
unfolding usable
usable_of s f x y = both (format_ok s.format) _ f (both (unit_ok s.unit) (pool_ok s.unit.capacity s.pool) x y)

pub unit_capacity : (u : Unit) → T (unit_ok u) → T (capacity_ok u.capacity)
unfolding unit_ok
unit_capacity u t = and_l (capacity_ok u.capacity) (rights_ok u.rights && attentions_ok u.attentions) t

pub unit_rights : (u : Unit) → T (unit_ok u) → T (rights_ok u.rights)
unfolding unit_ok
unit_rights u t =
    and_l (rights_ok u.rights) (attentions_ok u.attentions) (and_r (capacity_ok u.capacity) (rights_ok u.rights && attentions_ok u.attentions) t)

pub unit_attentions : (u : Unit) → T (unit_ok u) → T (attentions_ok u.attentions)
unfolding unit_ok
unit_attentions u t =
    and_r (rights_ok u.rights) (attentions_ok u.attentions) (and_r (capacity_ok u.capacity) (rights_ok u.rights && attentions_ok u.attentions) t)

pub unit_of : (u : Unit) → T (capacity_ok u.capacity) → T (rights_ok u.rights) → T (attentions_ok u.attentions) → T (unit_ok u)
unfolding unit_ok
unit_of u x y z =
    both (capacity_ok u.capacity) (rights_ok u.rights && attentions_ok u.attentions) x (both (rights_ok u.rights) (attentions_ok u.attentions) y z)

-- what waits for a nexus, once it was returned
pub relieved_usable : (s : Store) (n : ℕ) → T (usable s) → T (usable (with_unit s (relieved s.unit n)))
unfolding relieved
relieved_usable s n u =
    let v = usable_unit s u in
    usable_of _ (usable_format s u)
    (unit_of _ (unit_capacity s.unit v) (unit_rights s.unit v) (returned_ok n s.unit.attentions (unit_attentions s.unit v)))
    (usable_pool s u)

-- ---- commands that move

unmap_all_ok : (capacity : ℕ) (p : Pool) (owners list : List ℕ) (at n : ℕ) → T (pool_ok capacity (with_owners p owners))
    → T (pool_ok capacity (with_owners p (unmap_all owners list at n)))
unfolding unmap_all unmap_blocks
unmap_all_ok capacity p owners list at zero t = t
unmap_all_ok capacity p owners list at (suc n) t =
    unmap_all_ok capacity p (unmap_owners owners (descriptor_at list at).address.0 (descriptor_at list at).count) list (at + 16) n
    (pool_ok_unmap_blocks capacity (with_owners p owners) (descriptor_at list at).address.0 (descriptor_at list at).count t)

-- the owners that stand there bring the marks that stand there
own_marks : (capacity : ℕ) (p : Pool) → T (pool_ok capacity p) → T (pool_ok capacity (with_owners p p.owners))
own_marks capacity p t = subst (λ (m : List ℕ). T (pool_ok capacity (pool p.owners m p.medium))) (pool_ok_marks capacity p t) t

unmap_all_length : (owners list : List ℕ) (at n : ℕ) → length (unmap_all owners list at n) ≡ length owners
unfolding unmap_all
unmap_all_length owners list at zero = refl
unmap_all_length owners list at (suc n) =
    unmap_all_length (unmap_owners owners (descriptor_at list at).address.0 (descriptor_at list at).count) list (at + 16) n ∙ length_unmap_owners owners (descriptor_at list at).address.0 (descriptor_at list at).count

moved_ok : (m : Move) (q : Request) (capacity : ℕ) (p : Pool) (c : Call) → T (pool_ok capacity p) → first (move_rows m q capacity p c) ≡ Good
    → T (pool_ok capacity (moved m q p c))
unfolding move_rows moved
moved_ok Read q capacity p c t e = t
moved_ok Write q capacity p c t e =
    pool_ok_write_blocks capacity p _ _ c.data_out t ((write_passes capacity p.owners q.address.0 (count_in q) c.data_out).0 e).0
moved_ok WriteSame q capacity p c t e =
    let h = (same_passes capacity p.owners q.address.0 (count_in q) q.options c.data_out).0 e in
    same_ways p _ _ q.options c.data_out (λ x. T (pool_ok capacity x))
    (λ _. pool_ok_unmap_blocks capacity p _ _ t) (λ _. pool_ok_write_blocks capacity p _ _ _ t h.0)
moved_ok Unmap q capacity p c t e = unmap_all_ok capacity p p.owners c.data_out 8 _ (own_marks capacity p t)
moved_ok Status q capacity p c t e = t

moved_owners : (m : Move) (q : Request) (p : Pool) (c : Call) → length (moved m q p c).owners ≡ length p.owners
unfolding moved write_blocks unmap_blocks
moved_owners Read q p c = refl
moved_owners Write q p c = length_assign_blocks p.owners _ _
moved_owners WriteSame q p c =
    same_ways p _ _ q.options c.data_out (λ x. length x.owners ≡ length p.owners)
    (λ _. length_unmap_owners p.owners _ _) (λ _. length_assign_blocks p.owners _ _)
moved_owners Unmap q p c = unmap_all_length p.owners c.data_out 8 _
moved_owners Status q p c = refl

moved_medium : (m : Move) (q : Request) (p : Pool) (c : Call) → length (moved m q p c).medium ≡ length p.medium
unfolding moved write_blocks unmap_blocks
moved_medium Read q p c = refl
moved_medium Write q p c = length_put_blocks _ p.medium _ _ c.data_out
moved_medium WriteSame q p c =
    same_ways p _ _ q.options c.data_out (λ x. length x.medium ≡ length p.medium)
    (λ _. refl) (λ _. length_put_blocks _ p.medium _ _ _)
moved_medium Unmap q p c = refl
moved_medium Status q p c = refl

-- ---- commands that alter

altered_ok : (a : Action) (q : Request) (r : Rights) (n : ℕ) (data_out : List ℕ) → T (rights_ok r) → n ≤ 15 → (T (makes a) → T (is_type q.kind))
    → first (alter_rows a q r n data_out) ≡ Good → T (rights_ok (acted a r n (parameters_of q data_out)))
unfolding alter_rows parameters_of refuses
altered_ok a q r n data_out t small k e =
    acted_keeps a r n (parameters_of q data_out) t small (rows_after Short _ _ tt (rows_after list_length _ _ tt e)) k

-- ---- a call

command_usable : (k : Command) (q : Request) (s : Store) (c : Call) → T (usable s) → c.nexus ≤ 15 → (T (is_maker k) → T (is_type q.kind))
    → first (command_rows k q s c) ≡ Good → T (usable (command_store k q s c))
unfolding command_rows command_store is_maker enacted
command_usable (Tells t) q s c u n k e = u
command_usable (Moves m) q s c u n k e =
    usable_of _ (usable_format s u) (usable_unit s u) (moved_ok m q s.unit.capacity s.pool c (usable_pool s u) e)
command_usable (Alters a) q s c u n k e =
    usable_of _ (usable_format s u)
    (unit_of _ (unit_capacity s.unit (usable_unit s u)) (altered_ok a q s.unit.rights c.nexus c.data_out (unit_rights s.unit (usable_unit s u)) n k e)
    (notified_ok a s.unit.rights _ c.nexus s.unit.attentions (unit_attentions s.unit (usable_unit s u))))
    (usable_pool s u)

done_usable : (s : Store) (c : Call) → answer_to s c ≡ Good → T (usable (store_by (asked_of c.cdb) s c))
unfolding own_rows store_by
done_usable s c e = go (asked_of c.cdb) refl (good_own s c e)
  where
    p : Cleared s c
    p = good_cleared s c e

    go : (x : Asked) → asked_of c.cdb ≡ x → first (own_rows x s c) ≡ Good → T (usable (store_by x s c))
    go nothing a g = p.store
    go (asks q) a g = command_usable q.command q s c p.store (call_nexus s.format c p.call) (asked_typed c.cdb q a p.fields) g

-- a usable store stays usable
pub usable_stays : (s : Store) (c : Call) → T (usable s) → T (usable (after step s c))
unfolding after
usable_stays s c u = step_ways (λ x. T (usable x)) s c (done_usable s c) u (λ _. relieved_usable s c.nexus u)

-- and keeps its format
pub format_after : (s : Store) (c : Call) → (after step s c).format ≡ s.format
unfolding after
format_after s c = format_kept s c

-- ---- lengths

-- what every command keeps of the pool every call keeps
module _ (size : Pool → ℕ) (moves : (m : Move) (q : Request) (p : Pool) (c : Call) → size (moved m q p c) ≡ size p) where
  command_size : (k : Command) (q : Request) (s : Store) (c : Call) → size (command_store k q s c).pool ≡ size s.pool
  unfolding command_store
  command_size (Tells t) q s c = refl
  command_size (Moves m) q s c = moves m q s.pool c
  command_size (Alters a) q s c = refl

  done_size : (x : Asked) (s : Store) (c : Call) → size (store_by x s c).pool ≡ size s.pool
  unfolding store_by
  done_size nothing s c = refl
  done_size (asks q) s c = command_size q.command q s c

  size_stays : (s : Store) (c : Call) → size (after step s c).pool ≡ size s.pool
  unfolding after
  size_stays s c = step_ways (λ x. size x.pool ≡ size s.pool) s c (λ g. done_size (asked_of c.cdb) s c) refl (λ _. refl)

pub owners_stay : (s : Store) (c : Call) → length (after step s c).pool.owners ≡ length s.pool.owners
owners_stay = size_stays (λ p. length p.owners) moved_owners

pub marks_stay : (s : Store) (c : Call) → length (after step s c).pool.marks ≡ length s.pool.marks
unfolding after
marks_stay s c =
    step_ways (λ x. length x.pool.marks ≡ length s.pool.marks) s c
    (λ g. usable_words (store_by (asked_of c.cdb) s c) (done_usable s c g) ∙ sym (usable_words s (good_cleared s c g).store)) refl (λ _. refl)

pub medium_stays : (s : Store) (c : Call) → length (after step s c).pool.medium ≡ length s.pool.medium
medium_stays = size_stays (λ p. length p.medium) moved_medium
