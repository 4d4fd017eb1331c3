-- Laws of the calls of a sheet: a fresh store, a call as the lent parts make it, and one turn of the loop over the calls.
-- Assumes nothing.
use mathlib.Core.Path.{◌≡◌, sym, ap, ◌∙◌}
use mathlib.Core.Bool.{true, false}
use mathlib.Core.List.{List, [], ◌++◌, append_assoc, append-nil}
use Prim.Native.Nat.{ℕ, suc, ◌+◌, ◌-◌, ◌*◌, ◌≤◌, ◌<◌}
use native.Mathlib.Nat.{add-sub_cancel_left, sub-zero}
use native.Mathlib.Numerals.{add-one}
use native.Mathlib.Omega.{arith}
use lib.ListN.{length, take, drop, replicate, length-replicate}
use Rattle.std.specs.Prelude.{Result as Either, Ok, IsOk}
use Rattle.fields.specs.Bytes.{part, zeros}
use Rattle.fields.proofs.BytesLaws.{zeros_replicate}
use Rattle.answers.specs.declared.Answer.{Answer}
use Rattle.answers.specs.declared.Answer.TheVariants.{Good}
use Rattle.answers.specs.Order.{first_of, if_good_by, refuses}
use Rattle.answers.specs.Sense.{fixed, format_ok}
use Rattle.pool.specs.Valid.{capacity_ok, slots_ok}
use Rattle.store.specs.declared.Unit.{Unit}
use Rattle.store.specs.Store.{Store, Call, Result}
use Rattle.store.specs.Step.{step}
use Rattle.pool.specs.Bounds.{mark_words}
use Rattle.store.specs.Fresh.{FreshResult, fresh, fresh_answer, fresh_unit, fresh_store}
use Rattle.reply.specs.Contract.{store_of, call_of, made}
use Rattle.commands.proofs.FreshLaws.{good_made}
use Rattle.contents.specs.Contents.{calls, nexus_of, cdb_length, out_length, body_end, bodies_begin, good_sheet}
use Rattle.sheet.specs.Calls.{data_in_bytes, call_at}
use Rattle.sheet.specs.Printed.{capacity, slots, heading, bad_sheet, seen_line, lines_from, bench_store, lines_of, printed}
use Rattle.store.proofs.Returned.{returned_fits}

-- ---- a fresh store

pub fresh_is : (owners marks : List ℕ) → length owners ≡ slots → length marks ≡ mark_words
    → fresh capacity fixed owners marks ≡ record { answer = Good; unit = fresh_unit capacity; owners = zeros slots; marks = zeros mark_words }
unfolding fresh fresh_answer first_of if_good_by capacity_ok slots_ok format_ok refuses
fresh_is owners marks e m = rw (e, m)

module _ (owners marks owners' marks' : List ℕ) (r : Either Unit Answer) where
  -- the bench's bounds are good, so that there is a unit
  pub fresh_made : length owners ≡ slots → length marks ≡ mark_words → made r owners' marks' ≡ fresh capacity fixed owners marks → IsOk r
  fresh_made e m h = good_made capacity fixed owners marks r owners' marks' h (ap (λ (x : FreshResult). x.answer) (fresh_is owners marks e m))

  pub fresh_given : (u : Unit) → length owners ≡ slots → length marks ≡ mark_words → made r owners' marks' ≡ fresh capacity fixed owners marks
      → r ≡ Ok u → (u ≡ fresh_unit capacity) × (owners' ≡ zeros slots) × (marks' ≡ zeros mark_words)
  fresh_given u e m h k =
      let f : made (Ok u) owners' marks' ≡ record { answer = Good; unit = fresh_unit capacity; owners = zeros slots; marks = zeros mark_words } =
      ap (λ (x : Either Unit Answer). made x owners' marks') (sym k) ∙ h ∙ fresh_is owners marks e m
      in (ap (λ (x : FreshResult). x.unit) f, ap (λ (x : FreshResult). x.owners) f, ap (λ (x : FreshResult). x.marks) f)

pub fresh_store_law : (unit : Unit) (owners marks medium : List ℕ) → unit ≡ fresh_unit capacity → owners ≡ zeros slots → marks ≡ zeros mark_words
    → medium ≡ replicate (512 * slots) 0 → store_of fixed unit owners marks medium ≡ bench_store
unfolding bench_store fresh_store
fresh_store_law unit owners marks medium d e m q = rw (d, e, m, q, ← zeros_replicate (512 * slots))

-- ---- a call

pub call_is : (sheet : List ℕ) (i at nexus a b : ℕ) → nexus ≡ nexus_of sheet i → a ≡ cdb_length sheet i → b ≡ out_length sheet i
    → call_of nexus (take (at + a - at) (drop at sheet)) (take (at + a + b - (at + a)) (drop (at + a) sheet)) (replicate data_in_bytes 0) (replicate 18 0) ≡ call_at sheet i at
unfolding call_at part
call_is sheet i at nexus a b p q r = rw (add-sub_cancel_left at a, add-sub_cancel_left (at + a) b, p, q, r, ← zeros_replicate data_in_bytes, ← zeros_replicate 18)

-- what comes of it, for the call that the sheet says
module _ (s : Store) (c d : Call) (x : Result) (e : x ≡ step s c) (q : c ≡ d) where
  pub served_store : x.store ≡ (step s d).store
  served_store = ap (λ (y : Result). y.store) (e ∙ ap (step s) q)

  pub served_line : (call : ℕ) → seen_line call x.seen ≡ seen_line call (step s d).seen
  served_line call = ap (λ (y : Result). seen_line call y.seen) (e ∙ ap (step s) q)

pub returned_most : (s : Store) (nexus : ℕ) (cdb data_out sense : List ℕ) (x : Result) → x ≡ step s (call_of nexus cdb data_out (replicate data_in_bytes 0) sense)
    → x.seen.returned ≤ data_in_bytes
returned_most s nexus cdb data_out sense x e =
    rw e (rw (length-replicate {A = ℕ} data_in_bytes 0) at (returned_fits s (call_of nexus cdb data_out (replicate data_in_bytes 0) sense)))

-- ---- the lines that are still to come: what is put and what is to come make the whole

pub come_begin : (sheet page : List ℕ) (n at : ℕ) (s : Store) → n ≡ calls sheet → at ≡ bodies_begin sheet → s ≡ bench_store
    → page ++ lines_from s sheet 0 (n - 0) at ≡ page ++ lines_of sheet
unfolding lines_of
come_begin sheet page n at s e b q = rw (sub-zero n, e, b, q)

lines_more : (s : Store) (sheet : List ℕ) (i m n at : ℕ) → n ≡ suc m
    → lines_from s sheet i n at ≡ seen_line (i + 1) (step s (call_at sheet i at)).seen ++ lines_from (step s (call_at sheet i at)).store sheet (i + 1) m (body_end sheet i at)
unfolding lines_from
lines_more s sheet i m n at e = rw (e, add-one i)

pub come_turn : (whole page after sheet : List ℕ) (i n at later : ℕ) (s t : Store)
    → i < n → later ≡ body_end sheet i at → t ≡ (step s (call_at sheet i at)).store
    → after ≡ page ++ seen_line (i + 1) (step s (call_at sheet i at)).seen
    → page ++ lines_from s sheet i (n - i) at ≡ whole
    → after ++ lines_from t sheet (i + 1) (n - (i + 1)) later ≡ whole
come_turn whole page after sheet i n at later s t h e q p c =
    rw (e, q, p)
    (append_assoc page _ _ ∙ ap (λ (l : List ℕ). page ++ l) (sym (lines_more s sheet i (n - (i + 1)) (n - i) at (omega arith))) ∙ c)

pub come_done : (whole page sheet : List ℕ) (i n at : ℕ) (s : Store) → n ≤ i → page ++ lines_from s sheet i (n - i) at ≡ whole → page ≡ whole
unfolding lines_from
come_done whole page sheet i n at s h c =
    let e : n - i ≡ 0 = omega arith in
    let none : page ++ [] ≡ whole = rw e at c in
    sym (append-nil page) ∙ none

-- ---- what is printed

pub printed_good : (sheet : List ℕ) → good_sheet sheet ≡ true → heading ++ lines_of sheet ≡ printed sheet
unfolding printed
printed_good sheet e = rw e

pub printed_bad : (sheet : List ℕ) → good_sheet sheet ≡ false → bad_sheet ≡ printed sheet
unfolding printed
printed_bad sheet e = rw e
