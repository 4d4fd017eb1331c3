-- What a command leaves: a refusal leaves all, and what a part leaves is what the whole leaves.
-- Assumes nothing.
use mathlib.Core.Path.{◌≡◌, refl, sym, ap, ◌∙◌}
use mathlib.Core.List.{List, []}
use Prim.Native.Nat.{ℕ}
use Rattle.fields.proofs.BytesLaws.{put_none}
use Rattle.answers.specs.declared.Answer.{Answer}
use Rattle.answers.specs.declared.Answer.TheVariants.{Good, Refused, Conflict, Unusable, Short}
use Rattle.answers.specs.Order.{if_good, if_good_by, refuses}
use Rattle.answers.proofs.OrderLaws.{if_same}
use Rattle.store.specs.Store.{Store, leaves}
use Rattle.reply.specs.Reply.{Replied, reply_of, leaving, settles, Served, serves}

abbrev pub plain : Answer → List ℕ → Replied
plain a data_in = record { answer = a; returned = 0; data_in = data_in }

abbrev pub serving : Replied → Store → Served
serving v s = record { reply = v; store = s }

pub settles_done : {A : Type 0} (v : Answer) (done kept after : A) → v ≡ Good → after ≡ done → leaving Good after ≡ settles v done kept
unfolding settles if_good_by refuses
settles_done v done kept after e h = rw (e, h)

-- ---- the whole of what a command leaves

-- a reply that leaves the store
pub serves_reply : (a : Answer) (bs : List ℕ) (s : Store) (data_in : List ℕ) (v : Replied) → v ≡ reply_of a bs data_in → serving v s ≡ serves a bs s s data_in
unfolding serves leaves
serves_reply a bs s data_in v e =
    ap (λ (w : Replied). serving w s) e ∙ ap (λ (t : Store). serving (reply_of a bs data_in) t) (sym (if_same a s))

-- an answer that returns no bytes, and changes a part of the store
pub serves_part : {A : Type 0} (whole : A → Store) (a : Answer) (done kept : A) (data_in : List ℕ)
    → serving (plain a data_in) (whole (if_good a done kept)) ≡ serves a [] (whole done) (whole kept) data_in
unfolding serves leaves reply_of if_good_by refuses
serves_part whole Good done kept data_in =
    ap (λ (l : List ℕ). serving (plain Good l) (whole done)) (sym (put_none data_in 0))
serves_part whole (Refused x) done kept data_in = refl
serves_part whole Conflict done kept data_in = refl
serves_part whole Unusable done kept data_in = refl
serves_part whole Short done kept data_in = refl
