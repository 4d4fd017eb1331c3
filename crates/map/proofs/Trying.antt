-- A write that is tried: what it was, where it was done and where there was no room.
-- Assumes nothing.
use Rattle.std.proofs.Common.{◌≡◌, ℕ, ◌*◌, ◌<◌, ◌≤◌, drop, take_all, Bool, true, false, cond, List, length, get_or, take, sym, refl, ap, ◌∙◌, arith, leb→le, le-leb}
use borrow.Author.Tests.{lt-leb}
use Rattle.fields.proofs.Tests.{true→T}
use Rattle.fields.specs.Bytes.{part}
use Rattle.pool.specs.Bounds.{most_transfer, block_bytes}
use Rattle.pool.specs.Marks.{marks_of}
use Rattle.pool.specs.Pool.{Pool, pool, free, unmapped, assign_blocks, put_blocks, write_blocks, room_for, copies}
use Rattle.pool.proofs.Copies.{copies_at}
use Rattle.map.specs.Index.{Indexed, put_places}
use Rattle.map.specs.Write.{Gave, Stepped, Written, written, try_write}
use Rattle.map.proofs.Blocks.{assign_nothing, put_indexed, given_below}

-- ---- slots for all blocks of a range or for none

module _ (o : List ℕ) (a n : ℕ) where
  -- the three ways
  pub gave_all : (after marks index : List ℕ) → unmapped o a n ≤ free o → after ≡ assign_blocks o a n → marks ≡ marks_of after
      → Indexed after a n index → Gave o a n true after marks index
  unfolding room_for
  gave_all after marks index h e m x = record { room = sym (le-leb _ _ h); given = e; marked = m; indexed = λ q. x }

  pub gave_nothing : (marks index : List ℕ) → unmapped o a n ≡ 0 → marks ≡ marks_of o → Indexed o a n index → Gave o a n true o marks index
  gave_nothing marks index e m x = gave_all o marks index (omega arith) (sym (assign_nothing o a n e)) m x

  pub gave_none : (marks index : List ℕ) → free o < unmapped o a n → marks ≡ marks_of o → Gave o a n false o marks index
  unfolding room_for
  gave_none marks index h m =
      record { room = sym (lt-leb _ _ h); given = refl; marked = m; indexed = λ q. let z : ◌≡◌ {A = ℕ} 0 1 = cc in absurd (omega arith) }

  module _ (done : Bool) (after marks index : List ℕ) (g : Gave o a n done after marks index) (e : done ≡ true) where
    gave_room : unmapped o a n ≤ free o
    unfolding room_for
    gave_room = leb→le _ _ (true→T _ (sym g.room ∙ e))

    gave_assigned : after ≡ assign_blocks o a n
    gave_assigned = g.given ∙ rw e

    gave_index : Indexed (assign_blocks o a n) a n index
    gave_index = rw gave_assigned at (g.indexed e)

    pub gave_size : length index ≡ most_transfer
    gave_size = gave_index.size

    -- every block of the range has a slot
    pub gave_below : (k : ℕ) → k < n → get_or index k 0 < length o
    gave_below k h = given_below o index a n k gave_room gave_index h

-- ---- the write

module _ (p : Pool) (a n : ℕ) (bs : List ℕ) where
  module _ (done : Bool) (owners marks index : List ℕ) (g : Gave p.owners a n done owners marks index) where
    pub try_full : p.marks ≡ marks_of p.owners → done ≡ false → written false owners marks p.medium ≡ try_write p a n bs
    unfolding try_write
    try_full m e =
        let f : owners ≡ p.owners = g.given ∙ rw e in
        let s : marks ≡ p.marks = g.marked ∙ ap marks_of f ∙ sym m in
        rw (← g.room, e, s, f)

    -- the bytes are put by the index that the slots completed
    pub try_done : (medium : List ℕ) → done ≡ true → medium ≡ put_places (take n index) p.medium bs
        → written true owners marks medium ≡ try_write p a n bs
    unfolding try_write write_blocks
    try_done medium e f =
        let x = gave_index p.owners a n done owners marks index g e in
        let q : medium ≡ put_blocks (assign_blocks p.owners a n) p.medium a n bs = f ∙ put_indexed (assign_blocks p.owners a n) index a n p.medium bs x in
        rw (← g.room, e, g.marked, gave_assigned p.owners a n done owners marks index g e, q)

  module _ (done : Bool) (owners marks medium : List ℕ) (e : written done owners marks medium ≡ try_write p a n bs) where
    pub tried : room_for p.owners a n ≡ done
    unfolding try_write
    tried = sym (ap (λ (w : Written). w.done) e)

    pub after : pool owners marks medium ≡ cond (room_for p.owners a n) (write_blocks p a n bs) p
    unfolding try_write
    after = ap (λ (w : Written). w.after) e

-- ---- the bytes that are put

-- each block has bytes of its own
pub stepped_each : (n : ℕ) (bytes : List ℕ) → Stepped block_bytes n bytes bytes
stepped_each n bytes = record { each = λ k h. refl }

-- all have those of one
pub stepped_same : (n : ℕ) (block : List ℕ) → length block ≡ block_bytes → Stepped 0 n block (copies n block)
unfolding part
stepped_same n block e = record { each = λ k h. copies_at n block e k h ∙ whole k }
  where
    whole : (k : ℕ) → block ≡ take block_bytes (drop (0 * k) block)
    whole k = let z : 0 * k ≡ 0 = omega arith in rw z (sym (take_all block_bytes block (omega arith)))
