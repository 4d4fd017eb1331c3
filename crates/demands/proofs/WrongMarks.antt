-- Builds that are wrong in the marks fail: one whose UNMAP leaves the marks, one that takes a mark beyond the slots, one that gives the highest slot
-- first; and a room that is read off the first word alone.
-- Assumes nothing.
use mathlib.Core.Path.{◌≡◌, refl, sym, ap, ◌∙◌}
use mathlib.Core.List.{[], ◌∷◌}
use Prim.Native.Nat.{ℕ, ◌+◌}
use native.Mathlib.Omega.{arith}
use lib.Count.{ones}
use lib.Dec.{T}
use Rattle.answers.specs.declared.Answer.TheVariants.{Good}
use Rattle.answers.specs.Answers.{number_of}
use Rattle.pool.specs.Marks.{mark_of, word_of, marked}
use Rattle.pool.specs.Pool.{place, free}
use Rattle.pool.proofs.Marking.{ones_word}
use Rattle.forms.specs.declared.Move.TheVariants.{Write}
use Rattle.store.specs.Store.{Call, usable}
use Rattle.store.specs.Room.{Room, room_answer, room_of}
use Rattle.demands.specs.History.{call, after, after_event, after_all}
use Rattle.demands.specs.Contents.{Asks}
use Rattle.demands.specs.Bench.{block, new, ready, write_10}
use Rattle.demands.specs.Comparisons.{turned, turned_store, highest}
use Rattle.demands.specs.FurtherCases.{rising}
use Rattle.demands.specs.Reservations.{GoodBy}
use Rattle.demands.specs.MarkCases.{untouched, marked65, full64, none_free}
use Rattle.demands.specs.FreeRoom.{mark_at, taken, KeepsMarks, RefusesMarks, TellsRoom, FirstNew, Relies}
use Rattle.demands.specs.WrongMarks.{with_marks, mark_kept, beyond_ignored, half_room, one_taken, unmaps_all, marked_beyond}
use Rattle.demands.proofs.Computing.{meaning}
use Rattle.demands.proofs.FreeRoom.{free_is}

-- ---- UNMAP leaves the marks

taken_usable : T (usable one_taken)
unfolding meaning one_taken
taken_usable = tt

-- the slot that was freed keeps its mark
pub mark_kept_fails : KeepsMarks mark_kept → ⊥
unfolding meaning after_event after_all with_marks mark_kept one_taken unmaps_all mark_at taken
mark_kept_fails k = let z : ◌≡◌ {A = ℕ} 1 0 = (k.agree one_taken (call unmaps_all ∷ []) taken_usable).each 0 (omega arith) in omega arith

-- ---- a mark beyond the slots passes

beyond_passes : (beyond_ignored marked_beyond (ready 0)).seen.answer ≡ Good
unfolding meaning with_marks beyond_ignored marked_beyond
beyond_passes = refl

pub beyond_ignored_fails : RefusesMarks beyond_ignored → ⊥
unfolding meaning with_marks marked_beyond mark_at
beyond_ignored_fails r =
    let z = ap number_of (sym beyond_passes ∙ (r.beyond marked_beyond (ready 0) 2 (omega arith) (omega arith) refl).answer) in omega arith

-- ---- the room by the first word

none_usable : T (usable none_free)
unfolding meaning rising untouched marked65 full64 none_free
none_usable = tt

all_ones : ones 0xFFFF_FFFF_FFFF_FFFF ≡ 64
unfolding mark_of word_of free rising
all_ones = let e : ones 0xFFFF_FFFF_FFFF_FFFF + 0 ≡ 64 = ones_word (rising 1 64) in omega arith

one_told : (half_room none_free).free ≡ 1
unfolding rising marked65 full64 none_free half_room marked
one_told = rw all_ones

none_free_law : (room_of none_free).free ≡ 0
unfolding meaning rising untouched marked65 full64 none_free room_of room_answer
none_free_law = refl

pub half_room_fails : TellsRoom half_room → ⊥
half_room_fails t =
    let z = sym one_told ∙ ap (λ (r : Room). r.free) (t.told none_free none_usable) ∙ sym (free_is none_free none_usable) ∙ none_free_law in omega arith

-- ---- the highest free slot is given first

unfoldable written : Call
written = write_10 0 0 1 (block 0xB0)

unfoldable written_asked : Asks Write written
unfolding meaning written
written_asked = record { request = _; is = refl; command = refl }

written_good : GoodBy highest (new 8) written
unfolding meaning turned turned_store highest written
written_good = refl

written_first : FirstNew (new 8) written_asked.request 0
unfolding meaning written written_asked
written_first = record { among = omega arith; new = refl; before = λ j h. absurd (omega arith) }

second_slot : place 1 (after highest (new 8) written).pool.owners ≡ 1
unfolding meaning turned turned_store highest written
second_slot = refl

first_told_law : (room_of (new 8)).lowest ≡ 0
unfolding meaning room_of room_answer
first_told_law = refl

pub highest_fails : Relies highest room_of → ⊥
unfolding meaning written written_asked
highest_fails r = let z = sym second_slot ∙ r.first_slot (new 8) written written_asked written_good 0 written_first ∙ first_told_law in omega arith
