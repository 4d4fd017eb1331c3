-- GET LBA STATUS: the page that is put together is told, cut.
-- Assumes nothing.
use mathlib.Core.Path.{◌≡◌, sym, ap, ◌∙◌}
use mathlib.Core.List.{List}
use Prim.Native.Nat.{ℕ, ◌<◌}
use native.Mathlib.Omega.{arith}
use lib.ListN.{length, take}
use lib.Seq.{take-append_seam}
use borrow.Author.Tests.{lt-leb}
use Rattle.fields.specs.Bytes.{put}
use Rattle.fields.proofs.BytesLaws.{put_front}
use Rattle.answers.specs.declared.Answer.{Answer}
use Rattle.answers.specs.Answers.{out_of_range}
use Rattle.answers.proofs.OrderLaws.{row_pass}
use Rattle.runs.specs.Page.{status_data}
use Rattle.runs.proofs.PageLaws.{status_long}
use Rattle.store.specs.Move.{status_told, status_rows}
use Rattle.reply.specs.Reply.{Replied, reply_of}
use Rattle.reply.specs.Cut.{gives}
use Rattle.blocks.specs.Moved.{tells_status}

module _ (capacity : ℕ) (owners : List ℕ) (x : ℕ) where
  -- the page that is put together: m of its bytes are told
  module _ (m : ℕ) (lent page : List ℕ) (e : m ≡ length (status_data capacity owners x)) (whole : length lent ≡ 520)
      (filled : page ≡ put lent 0 (status_data capacity owners x)) where
    page_told : take m page ≡ status_data capacity owners x
    page_told =
        rw (filled, e, put_front lent (status_data capacity owners x) (let h = status_long capacity owners x in omega arith))
        (take-append_seam (status_data capacity owners x) _)

    pub page_cut : m ≡ length (take m page)
    page_cut = e ∙ sym (ap length page_told)

    pub status_given : (n : ℕ) (data_in : List ℕ) (v : Replied) → x < capacity → v ≡ gives (take n (take m page)) data_in
        → v ≡ tells_status capacity owners x n data_in
    unfolding status_rows status_told
    status_given n data_in v h g =
        g ∙ ap (λ (l : List ℕ). gives (take n l) data_in) page_told
        ∙ ap (λ (a : Answer). reply_of a (take n (status_data capacity owners x)) data_in) (sym (row_pass (out_of_range _) _ _ (lt-leb capacity x h)))
