-- What the contracts of the commands on the blocks speak of: what each leaves once the reservation has let it pass.
-- Assumes nothing.
use Rattle.std.specs.Prelude.{Bool, not, ◌&&◌, cond, List, [], ◌∷◌, ℕ}
use Rattle.fields.specs.Bytes.{are_zeros}
use Rattle.answers.specs.declared.Answer.TheVariants.{Good}
use Rattle.answers.specs.Answers.{no_room}
use Rattle.answers.specs.Order.{◌if◌, first, if_good}
use Rattle.pool.specs.Pool.{Pool, pool, read_blocks, copies, write_blocks, room_for, unmap_blocks}
use Rattle.descriptors.specs.Descriptors.{considered, unmap_all}
use Rattle.forms.specs.declared.Move.{Move}
use Rattle.forms.specs.declared.Request.{Request}
use Rattle.store.specs.Store.{Call}
use Rattle.store.specs.Same.{same_blocks}
use Rattle.store.specs.Move.{read_rows, write_rows, same_rows, unmap_rows, status_told, status_rows, move_rows, moved, fetched}
use Rattle.reply.specs.Contract.{call_of}
use Rattle.reply.specs.Reply.{Replied, reply_of, Left, leaving, settles}

-- READ: the reply, and the blocks' bytes in data-in
abbrev pub reads : ℕ → Pool → ℕ → ℕ → List ℕ → Replied
reads capacity p address count data_in = reply_of (first (read_rows capacity address count data_in)) (read_blocks p address count) data_in

-- WRITE: the answer, and the pool after it
abbrev pub writes : ℕ → Pool → ℕ → ℕ → List ℕ → Left Pool
writes capacity p address count data_out =
    settles (first (write_rows capacity p.owners address count data_out)) (write_blocks p address count data_out) p

-- WRITE SAME: the same
abbrev pub writes_same : ℕ → Pool → ℕ → ℕ → ℕ → List ℕ → Left Pool
writes_same capacity p address count options data_out =
    settles (first (same_rows capacity p.owners address count options data_out)) (same_blocks p address count options data_out) p

-- the part of it that has the block: the range is unmapped, or written where there is room
unfoldable pub spreads : Pool → ℕ → ℕ → Bool → List ℕ → Left Pool
spreads p a n may_unmap block =
    cond (may_unmap && are_zeros block) (leaving Good (unmap_blocks p a n))
    (settles (first (no_room a if not (room_for p.owners a n) ∷ [])) (write_blocks p a n (copies n block)) p)

-- UNMAP by a list of n bytes: the answer, and the owners after it
abbrev pub unmaps : ℕ → List ℕ → ℕ → List ℕ → Left (List ℕ)
unmaps capacity owners n data_out =
    settles (first (unmap_rows capacity n data_out)) (unmap_all owners data_out 8 (considered n data_out)) owners

-- GET LBA STATUS: the reply, and what it tells in data-in
abbrev pub tells_status : ℕ → List ℕ → ℕ → ℕ → List ℕ → Replied
tells_status capacity owners address n data_in =
    reply_of (first (status_rows capacity owners address n data_in)) (status_told capacity owners address n) data_in

-- ---- whichever it is: the reply, and the pool after it

pub record Moved : Type 0 where
  pub reply : Replied
  pub after : Pool

abbrev pub moving : Replied → List ℕ → List ℕ → List ℕ → Moved
moving reply owners marks medium = record { reply = reply; after = pool owners marks medium }

-- the call of which a command on the blocks sees nothing but the data
abbrev pub data_of : List ℕ → List ℕ → Call
data_of data_out data_in = call_of 0 [] data_out data_in []

unfoldable pub moves : Move → Request → ℕ → Pool → List ℕ → List ℕ → Moved
moves m q capacity p data_out data_in = record {
  reply = reply_of (first (move_rows m q capacity p (data_of data_out data_in))) (fetched m q capacity p) data_in;
  after = if_good (first (move_rows m q capacity p (data_of data_out data_in))) (moved m q p (data_of data_out data_in)) p;
}
