-- When a READ, a WRITE and an UNMAP are GOOD, and which refusal they get otherwise: "READ: 10, 3, 12. WRITE: 10, 3, 12, 8."
-- Assumes nothing.
use mathlib.Core.Path.{◌≡◌, refl, sym, ap, ◌∙◌, subst}
use mathlib.Core.Logic.{◌↔◌}
use mathlib.Core.Bool.{true, false, not, ◌&&◌}
use mathlib.Core.List.{List}
use Prim.Native.Nat.{ℕ, ◌+◌, ◌*◌, ◌≤◌, ◌<◌}
use borrow.Author.Tests.{lt-ltb, le-ltb, lt-leb}
use lib.Dec.{T, leb}
use lib.ListN.{length}
use Rattle.answers.specs.declared.Answer.{Answer}
use Rattle.answers.specs.declared.Answer.TheVariants.{Good, Conflict, Short}
use Rattle.answers.specs.Answers.{out_of_range, no_room}
use Rattle.answers.specs.Order.{first}
use Rattle.answers.proofs.OrderLaws.{row_pass, row_stop, row_end, next_after}
use Rattle.answers.specs.Sense.{format_ok}
use Rattle.pool.specs.Pool.{free, unmapped, room_for}
use Rattle.pool.specs.Valid.{capacity_ok, slots_ok}
use Rattle.descriptors.specs.Descriptors.{considered, some_fails}
use Rattle.rights.specs.Rights.{is_one_of, one_holds, all_hold, holds, no_rights}
use Rattle.forms.specs.declared.Move.{Move}
use Rattle.forms.specs.declared.Move.TheVariants.{Read, Write, Unmap}
use Rattle.forms.specs.declared.Command.TheVariants.{Moves}
use Rattle.forms.specs.Forms.{count_in, list_length_in}
use Rattle.store.specs.declared.Unit.{Unit}
use Rattle.store.specs.Store.{Store, Call, usable, waiting}
use Rattle.store.specs.Conflict.{column_under, column_of, says, conflict}
use Rattle.store.specs.Move.{past_end, read_rows, write_rows, move_rows}
use Rattle.store.specs.Fresh.{fresh_unit, fresh_store}
use Rattle.store.specs.Step.{step, due}
use Rattle.store.proofs.Parts.{guard_answer, Cleared, cleared, itself_cleared, conflict_first as first-conflict, none_undue}
use Rattle.store.proofs.StoreLaws.{step_answer}
use Rattle.store.proofs.MoveLaws.{read_passes, write_passes, unmap_passes}
use Rattle.demands.specs.History.{after}
use Rattle.demands.specs.Contents.{Asks, address_in, IsGood, by_itself, Quiet, Reaches, Inside, Room, SameRange}
use Rattle.demands.proofs.Usable.{usable_stays, format_after}
use Rattle.demands.proofs.Fresh.{fresh_usable}
use Rattle.rights.proofs.AttentionLaws.{waiting_none}
use Rattle.demands.proofs.Moving.{good_usable, good_after, asks_guard, asks_rows}
use Rattle.demands.proofs.Transfers.{write_inside}

-- ---- up to a command's own tests

module _ (m : Move) (s : Store) (c : Call) (a : Asks m c) (u : T (usable s)) (g : by_itself s.format c ≡ Good) (d : Quiet s c) where
  right : Cleared s c
  unfolding by_itself
  right = itself_cleared s c u d g

  -- "10" comes first
  pub conflict_first : conflict s.unit.rights c.nexus (Moves m) ≡ true → (step s c).seen.answer ≡ Conflict
  conflict_first h =
      step_answer s c ∙ first-conflict s c right (ap first (asks_guard m c a s.unit.rights c.nexus) ∙ row_stop Conflict _ _ h)

  -- then the command's own
  pub own_answers : conflict s.unit.rights c.nexus (Moves m) ≡ false
      → (step s c).seen.answer ≡ first (move_rows m a.request s.unit.capacity s.pool c)
  own_answers h =
      step_answer s c ∙ cleared s c right
      ∙ next_after (guard_answer s.unit c) _ (ap first (asks_guard m c a s.unit.rights c.nexus) ∙ row_pass Conflict _ _ h ∙ row_end)
      ∙ ap first (asks_rows m c a s)

pub rows_answer : (m : Move) (s : Store) (c : Call) (a : Asks m c) → Reaches s a
    → (step s c).seen.answer ≡ first (move_rows m a.request s.unit.capacity s.pool c)
rows_answer m s c a r = own_answers m s c a r.store r.call r.quiet r.free

-- an answer is GOOD exactly where the rows that give it are
pub decided_by_law : {X : Type 0} {a b : Answer} → a ≡ b → b ≡ Good ↔ X → a ≡ Good ↔ X
decided_by_law e h = (λ g. h.0 (sym e ∙ g), λ x. e ∙ h.1 x)

-- ---- READ

module _ (s : Store) (c : Call) (a : Asks Read c) (r : Reaches s a) where
  -- "3": the range ends past the capacity
  pub read_past_end : s.unit.capacity < address_in a.request + count_in a.request → (step s c).seen.answer ≡ out_of_range (address_in a.request)
  unfolding move_rows read_rows past_end
  read_past_end h = rows_answer Read s c a r ∙ row_stop (out_of_range _) _ _ (lt-ltb _ _ h)

  -- then "12": data-in is too short
  pub read_short : Inside s a.request → length c.data_in < 512 * count_in a.request → (step s c).seen.answer ≡ Short
  unfolding move_rows read_rows past_end
  read_short h l = rows_answer Read s c a r ∙ row_pass (out_of_range _) _ _ (le-ltb _ _ h) ∙ row_stop Short _ _ (lt-ltb _ _ l)

  -- GOOD exactly where neither holds
  pub read_good : IsGood s c ↔ (Inside s a.request × (512 * count_in a.request ≤ length c.data_in))
  unfolding move_rows
  read_good = decided_by_law (rows_answer Read s c a r) (read_passes s.unit.capacity _ _ c.data_in)

-- ---- WRITE

module _ (s : Store) (c : Call) (a : Asks Write c) (r : Reaches s a) where
  pub write_past_end : s.unit.capacity < address_in a.request + count_in a.request → (step s c).seen.answer ≡ out_of_range (address_in a.request)
  unfolding move_rows write_rows past_end
  write_past_end h = rows_answer Write s c a r ∙ row_stop (out_of_range _) _ _ (lt-ltb _ _ h)

  pub write_short : Inside s a.request → length c.data_out < 512 * count_in a.request → (step s c).seen.answer ≡ Short
  unfolding move_rows write_rows past_end
  write_short h l = rows_answer Write s c a r ∙ row_pass (out_of_range _) _ _ (le-ltb _ _ h) ∙ row_stop Short _ _ (lt-ltb _ _ l)

  -- "8": more unmapped blocks than free slots
  pub write_no_room : Inside s a.request → 512 * count_in a.request ≤ length c.data_out
      → free s.pool.owners < unmapped s.pool.owners (address_in a.request) (count_in a.request) → (step s c).seen.answer ≡ no_room (address_in a.request)
  unfolding move_rows write_rows past_end room_for
  write_no_room h l n =
      rows_answer Write s c a r ∙ row_pass (out_of_range _) _ _ (le-ltb _ _ h) ∙ row_pass Short _ _ (le-ltb _ _ l)
      ∙ row_stop (no_room _) _ _ (ap not (lt-leb _ _ n))

  pub write_good : IsGood s c ↔ (Inside s a.request × (512 * count_in a.request ≤ length c.data_out) × Room s a.request)
  unfolding move_rows
  write_good = decided_by_law (rows_answer Write s c a r) (write_passes s.unit.capacity s.pool.owners _ _ c.data_out)

-- ---- UNMAP: "10; list length 0 gives GOOD; length 1 to 7 gives 4; 12; more than 16 descriptors 5; 3 if any descriptor fails"

pub unmap_good : (s : Store) (c : Call) (a : Asks Unmap c) → Reaches s a
    → IsGood s c
    ↔ (((leb 1 (list_length_in a.request) && leb (list_length_in a.request) 7) ≡ false)
    × (list_length_in a.request ≤ length c.data_out)
    × (considered (list_length_in a.request) c.data_out ≤ 16)
    × (some_fails s.unit.capacity c.data_out 8 (considered (list_length_in a.request) c.data_out) ≡ false))
unfolding move_rows
unmap_good s c a r = decided_by_law (rows_answer Unmap s c a r) (unmap_passes s.unit.capacity (list_length_in a.request) c.data_out)

-- ---- a READ of what a WRITE has written

-- it is GOOD for every nexus that may read, with room for the data
pub read_follows : (s : Store) (w r : Call) (a : Asks Write w) (b : Asks Read r) → SameRange a.request b.request → IsGood s w → by_itself s.format r ≡ Good → Quiet s r
    → conflict s.unit.rights r.nexus (Moves Read) ≡ false → 512 * count_in b.request ≤ length r.data_in → IsGood (after step s w) r
read_follows s w r a b e g t q f l =
    let still : (after step s w).unit ≡ s.unit = ap (λ (x : Store). x.unit) (good_after Write s w a g) in
    (read_good (after step s w) r b
    (record { store = usable_stays s w (good_usable s w g); call = ap (λ (x : ℕ). by_itself x r) (format_after s w) ∙ t; quiet = subst (λ (u : Unit). T (not (due u r.nexus r.cdb))) (sym still) q; free = ap (λ (u : Unit). conflict u.rights r.nexus (Moves Read)) still ∙ f })
    ).1 (
      subst (λ (u : Unit). address_in b.request + count_in b.request ≤ u.capacity) (sym still) (rw (← e.address, ← e.count) (write_inside s w a g)),
      l,
    )

-- ---- a READ of a fresh store

pub fresh_read_good : (capacity format slots : ℕ) (medium : List ℕ) (r : Call) → T (capacity_ok capacity) → T (format_ok format) → T (slots_ok slots) → length medium ≡ 512 * slots
    → (a : Asks Read r) → by_itself format r ≡ Good → address_in a.request + count_in a.request ≤ capacity → 512 * count_in a.request ≤ length r.data_in
    → IsGood (fresh_store capacity format slots medium) r
unfolding fresh_store fresh_unit waiting no_rights conflict column_of column_under holds one_holds all_hold is_one_of says
fresh_read_good capacity format slots medium r x f y e a t h l =
    (read_good (fresh_store capacity format slots medium) r a (record { store = fresh_usable capacity format slots medium x f y e; call = t; quiet = none_undue (fresh_unit capacity) r.nexus r.cdb (waiting_none r.nexus); free = refl })).1 (h, l)
