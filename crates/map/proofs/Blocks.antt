-- One turn of each loop over the blocks of a range: reading them, giving them slots, putting their bytes.
-- Assumes nothing.
use Rattle.std.proofs.Common.{◌≡◌, ℕ, zero, suc, ◌+◌, ◌-◌, ◌*◌, ◌<◌, ◌≤◌, cond, not, T, ltb, ◌≢◌, List, [], ◌∷◌, ◌++◌, length, get_or, take, drop, set, sym, refl, ap, ◌∙◌, append_assoc, append-nil, add-zero, add-one, arith, ltb→lt, nltb→le, length-append, length-set, drop_of_length-le, length-take-le, drop-cons, get_or-take, take-suc, drop-drop, le-ltb, lt-ltb}
use lib.Seq.{take-set-lt}
use borrow.Rule.Slice.PartMut.{put_mid, Post-is}
use Rattle.fields.specs.Bytes.{part, put, zeros}
use Rattle.fields.proofs.BytesLaws.{put_is, put_next, put_none, length_part, length_zeros}
use Rattle.fields.proofs.Tests.{test, true→T, T_true, T_false}
use Rattle.pool.specs.Bounds.{block_bytes, most_slots}
use Rattle.pool.specs.Marks.{marks_of, lowest}
use Rattle.marks.specs.Words.{with_mark}
use Rattle.pool.specs.Pool.{place, has, mapped, free, unmapped, fill, assign, assign_blocks, put_blocks, read_block, read_blocks}
use Rattle.map.specs.Index.{places, Indexed, slot_bytes, read_places, put_places}
use Rattle.pool.specs.Pool.{pool}
use Rattle.pool.proofs.Marking.{lowest_free}
use Rattle.pool.proofs.SlotMarks.{marks_put}
use Rattle.pool.proofs.Held.{place_below, place_none, below_has, fill_set, has_free}
use Rattle.pool.proofs.Keeping.{length_assign, length_assign_blocks}
use Rattle.pool.proofs.Writing.{free_assign, assign_mapped, unmapped_assign, mapped_write_in}
use Rattle.map.proofs.Indexing.{places_fill, index_at}

-- a part that was lent comes back as bytes laid over
pub lent_back : (m b : List ℕ) (a k : ℕ) → length b ≡ k → a + k ≤ length m → put_mid a (a + k - a) m b ≡ put m a b
lent_back m b a k e h =
    ap (λ (z : List ℕ). take a m ++ (b ++ z)) (Post-is a (a + k) m (omega arith))
    ∙ ap (λ (n : ℕ). take a m ++ (b ++ drop (a + n) m)) (sym e)
    ∙ sym (put_is m a b (omega arith))

pub part_is : (a k : ℕ) (m : List ℕ) → take (a + k - a) (drop a m) ≡ part m a k
unfolding part
part_is a k m = let e : a + k - a ≡ k = omega arith in rw e

-- ---- reading

below_is : (x : ℕ) (o : List ℕ) → ltb (place x o) (length o) ≡ has x o
below_is x o =
    test (has x o)
    (λ t. lt-ltb (place x o) (length o) (place_below x o t) ∙ sym (T_true (has x o) t))
    (λ t. let e = place_none x o t in le-ltb (place x o) (length o) (omega arith) ∙ sym (T_false (has x o) t))

module _ (m : List ℕ) (slots i : ℕ) where
  pub bytes_at : i < slots → slot_bytes m slots i ≡ part m (block_bytes * i) block_bytes
  unfolding slot_bytes
  bytes_at h = rw (lt-ltb i slots h)

  pub bytes_none : slots ≤ i → slot_bytes m slots i ≡ zeros block_bytes
  unfolding slot_bytes
  bytes_none h = rw (le-ltb i slots h)

  pub length_bytes : length m ≡ block_bytes * slots → length (slot_bytes m slots i) ≡ block_bytes
  length_bytes e =
      test (ltb i slots)
      (λ t. ap length (bytes_at (ltb→lt i slots t)) ∙ length_part m (block_bytes * i) block_bytes (let h = ltb→lt i slots t in omega arith))
      (λ t. ap length (bytes_none (nltb→le i slots t)) ∙ length_zeros block_bytes)

block_is : (o ms m : List ℕ) (a : ℕ) → slot_bytes m (length o) (place (suc a) o) ≡ read_block (pool o ms m) a
unfolding slot_bytes read_block mapped
block_is o ms m a = rw (below_is (suc a) o)

read_places_is : (o ms m : List ℕ) (a n : ℕ) → read_places m (length o) (places o a n) ≡ read_blocks (pool o ms m) a n
unfolding read_places read_blocks places
read_places_is o ms m a zero = refl
read_places_is o ms m a (suc n) = rw (block_is o ms m a, read_places_is o ms m (suc a) n)

-- the blocks, read by their index
pub read_indexed : (o ms index m : List ℕ) (a n : ℕ) → Indexed o a n index → read_places m (length o) (take n index) ≡ read_blocks (pool o ms m) a n
read_indexed o ms index m a n x = ap (read_places m (length o)) x.each ∙ read_places_is o ms m a n

module _ (m : List ℕ) (slots : ℕ) where
  length_read : length m ≡ block_bytes * slots → (is : List ℕ) → length (read_places m slots is) ≡ block_bytes * length is
  unfolding read_places
  length_read e [] = refl
  length_read e (i ∷ is) =
      omega (arith, length-append (slot_bytes m slots i) (read_places m slots is), length_bytes m slots i e, length_read e is)

  read_last : (is : List ℕ) (i : ℕ) → read_places m slots (is ++ (i ∷ [])) ≡ read_places m slots is ++ slot_bytes m slots i
  unfolding read_places
  read_last [] i = append-nil (slot_bytes m slots i)
  read_last (j ∷ is) i =
      rw (read_last is i) (sym (append_assoc (slot_bytes m slots j) (read_places m slots is) (slot_bytes m slots i)))

  pub read_start : (is out : List ℕ) → out ≡ put out 0 (read_places m slots (take 0 is))
  unfolding read_places
  read_start is out = sym (put_none out 0)

  -- a turn: block k is laid behind those before it
  pub read_turn : (is out₀ out b : List ℕ) (k : ℕ) → length m ≡ block_bytes * slots → k < length is → block_bytes * k + block_bytes ≤ length out
      → out ≡ put out₀ 0 (read_places m slots (take k is)) → b ≡ slot_bytes m slots (get_or is k 0)
      → put_mid (block_bytes * k) (block_bytes * k + block_bytes - block_bytes * k) out b ≡ put out₀ 0 (read_places m slots (take (k + 1) is))
  read_turn is out₀ out b k e h f q g =
      let r = read_places m slots (take k is) in
      let n : block_bytes * k ≡ 0 + length r = omega (arith, length_read e (take k is), length-take-le k is (omega arith)) in
      let more : r ++ b ≡ read_places m slots (take (k + 1) is) =
      rw (add-one k, take-suc is k 0 h, g) (sym (read_last (take k is) (get_or is k 0))) in
      lent_back out b (block_bytes * k) block_bytes (ap length g ∙ length_bytes m slots (get_or is k 0) e) f
      ∙ ap (λ (l : List ℕ). put l (block_bytes * k) b) q
      ∙ ap (λ (i : ℕ). put (put out₀ 0 r) i b) n
      ∙ put_next out₀ 0 r b
      ∙ ap (put out₀ 0) more

-- ---- putting bytes

pub put_start : (is m bs : List ℕ) → put_places (drop 0 is) m (drop (block_bytes * 0) bs) ≡ put_places is m bs
put_start is m bs = refl

put_next_place : (is m bs : List ℕ) (k : ℕ) → k < length is
    → put_places (drop k is) m (drop (block_bytes * k) bs)
    ≡ put_places (drop (k + 1) is) (put m (block_bytes * get_or is k 0) (part bs (block_bytes * k) block_bytes)) (drop (block_bytes * (k + 1)) bs)
unfolding put_places part
put_next_place is m bs k h =
    let q : block_bytes * k + block_bytes ≡ block_bytes * (k + 1) = omega arith in
    let m' = put m (block_bytes * get_or is k 0) (take block_bytes (drop (block_bytes * k) bs)) in
    ap (λ (l : List ℕ). put_places l m (drop (block_bytes * k) bs)) (drop-cons is k 0 h)
    ∙ ap (put_places (drop (suc k) is) m') (drop-drop block_bytes (block_bytes * k) bs ∙ ap (λ (n : ℕ). drop n bs) q)
    ∙ ap (λ (n : ℕ). put_places (drop n is) m' (drop (block_bytes * (k + 1)) bs)) (sym (add-one k))

module _ (index m bs : List ℕ) (n k : ℕ) (long : n ≤ length index) where
  -- a turn: the bytes of block k, wherever they are copied from, come to its place
  pub put_turn : (b : List ℕ) → k < n → block_bytes * get_or index k 0 + block_bytes ≤ length m → length b ≡ block_bytes
      → b ≡ part bs (block_bytes * k) block_bytes
      → put_places (drop (k + 1) (take n index)) (put_mid (block_bytes * get_or index k 0) (block_bytes * get_or index k 0 + block_bytes - block_bytes * get_or index k 0) m b) (drop (block_bytes * (k + 1)) bs)
      ≡ put_places (drop k (take n index)) m (drop (block_bytes * k) bs)
  put_turn b h f l e =
      let is = take n index in
      let at : get_or is k 0 ≡ get_or index k 0 = get_or-take n index k 0 h in
      let w : k < length is = rw (length-take-le n index long) h in
      ap (λ (z : List ℕ). put_places (drop (k + 1) is) z (drop (block_bytes * (k + 1)) bs))
      (lent_back m b (block_bytes * get_or index k 0) block_bytes l f ∙ rw (at, ← e))
      ∙ sym (put_next_place is m bs k w)

  pub put_end : n ≤ k → put_places (drop k (take n index)) m (drop (block_bytes * k) bs) ≡ m
  unfolding put_places
  put_end h =
      let l = length-take-le n index long in
      let w : length (take n index) ≤ k = omega arith in
      ap (λ (is : List ℕ). put_places is m (drop (block_bytes * k) bs)) (drop_of_length-le (take n index) w)

put_places_is : (o : List ℕ) (a n : ℕ) (m bs : List ℕ) → put_places (places o a n) m bs ≡ put_blocks o m a n bs
unfolding put_places put_blocks places
put_places_is o a zero m bs = refl
put_places_is o a (suc n) m bs = put_places_is o (suc a) n (put m (block_bytes * place (suc a) o) (take block_bytes bs)) (drop block_bytes bs)

-- the blocks, put by their index
pub put_indexed : (o index : List ℕ) (a n : ℕ) (m bs : List ℕ) → Indexed o a n index → put_places (take n index) m bs ≡ put_blocks o m a n bs
put_indexed o index a n m bs x = ap (λ (is : List ℕ). put_places is m bs) x.each ∙ put_places_is o a n m bs

-- ---- giving slots

module _ (o : List ℕ) (b n : ℕ) where
  rest_assign : assign_blocks o b (suc n) ≡ assign_blocks (assign o b) (suc b) n
  unfolding assign_blocks
  rest_assign = refl

  room_assign : unmapped o b (suc n) ≤ free o → unmapped (assign o b) (suc b) n ≤ free (assign o b)
  unfolding unmapped
  room_assign h =
      let e = free_assign o b (omega arith) in
      let d = unmapped_assign o b (suc b) n (omega arith) in
      omega arith

  has_room : unmapped o b (suc n) ≤ free o → T (not (has (suc b) o)) → T (has 0 o)
  unfolding unmapped mapped
  has_room h t =
      let e : ◌≡◌ {A = ℕ} (cond (has (suc b) o) 0 1) 1 = rw (T_false (has (suc b) o) t) in
      has_free o (omega arith)

assign_new : (o : List ℕ) (b : ℕ) → T (not (has (suc b) o)) → assign o b ≡ fill (suc b) o
unfolding assign mapped
assign_new o b t = rw (T_false (has (suc b) o) t)

assign_kept : (o : List ℕ) (b : ℕ) → T (has (suc b) o) → assign o b ≡ o
unfolding mapped
assign_kept o b t = assign_mapped o b t

-- where no block is unmapped none gets a slot
pub assign_nothing : (o : List ℕ) (a n : ℕ) → unmapped o a n ≡ 0 → assign_blocks o a n ≡ o
unfolding unmapped assign_blocks
assign_nothing o a zero h = refl
assign_nothing o a (suc n) h =
    test (mapped o a)
    (λ t. rw (assign_mapped o a t) (assign_nothing o (suc a) n (omega arith)))
    (λ t. let e : ◌≡◌ {A = ℕ} (cond (mapped o a) 0 1) 1 = rw (T_false (mapped o a) t) in absurd (omega arith))

-- what holds of the owners o, their marks and their index after the first k blocks have their slots
pub record Given (o₀ : List ℕ) (a count : ℕ) (o marks index : List ℕ) (k : ℕ) : Type 0 where
  pub same : length o ≡ length o₀
  pub indexed : Indexed o a count index
  pub rest : assign_blocks o (a + k) (count - k) ≡ assign_blocks o₀ a count
  pub room : unmapped o (a + k) (count - k) ≤ free o
  pub few : length o ≤ most_slots
  pub marked : marks ≡ marks_of o

pub give_start : (o marks index : List ℕ) (a count : ℕ) → length o ≤ most_slots → marks ≡ marks_of o → Indexed o a count index
    → unmapped o a count ≤ free o → Given o a count o marks index 0
give_start o marks index a count l m e h =
    let z : count - 0 ≡ count = omega arith in
    record { same = refl; indexed = e; rest = rw (add-zero a, z); room = rw (add-zero a, z) h; few = l; marked = m }

module _ (o₀ : List ℕ) (a count : ℕ) (o marks index : List ℕ) (k : ℕ)
    (g : Given o₀ a count o marks index k) (h : k < count) where
  here : get_or index k 0 ≡ place (suc (a + k)) o
  here = index_at o index a count k g.indexed h

  left : count - k ≡ suc (count - (k + 1))
  left = omega arith

  next : suc (a + k) ≡ a + (k + 1)
  next = omega arith

  room_now : unmapped o (a + k) (suc (count - (k + 1))) ≤ free o
  room_now = rw (← left) g.room

  give_next : (o' marks' index' : List ℕ) → o' ≡ assign o (a + k) → Indexed o' a count index' → marks' ≡ marks_of o'
      → Given o₀ a count o' marks' index' (k + 1)
  give_next o' marks' index' e f m =
      let s : length o' ≡ length o = ap length e ∙ length_assign o (a + k) in
      record {
        same = s ∙ g.same;
        indexed = f;
        rest =
            rw (← next, e)
            (sym (ap (assign_blocks o (a + k)) left ∙ rest_assign o (a + k) (count - (k + 1))) ∙ g.rest);
        room = rw (← next, e) (room_assign o (a + k) (count - (k + 1)) room_now);
        few = rw s g.few;
        marked = m;
      }

  -- a block that has its slot
  pub give_none : get_or index k 0 < length o → Given o₀ a count o marks index (k + 1)
  give_none m =
      let t = below_has (suc (a + k)) o (rw here at m) in
      give_next o marks index (sym (assign_kept o (a + k) t)) g.indexed g.marked

  -- a block that gets one: the lowest that is not marked
  module _ (m : length o ≤ get_or index k 0) where
    has_not : T (not (has (suc (a + k)) o))
    has_not =
        test (has (suc (a + k)) o)
        (λ t. let q = place_below (suc (a + k)) o t in let s = here in absurd (omega arith))
        (λ t. t)

    below : place 0 o < length o
    below = place_below 0 o (has_room o (a + k) (count - (k + 1)) room_now has_not)

    lowest_is : lowest marks ≡ place 0 o
    lowest_is = ap lowest g.marked ∙ lowest_free o g.few

    pub give_below : (r : ℕ) → r ≡ lowest marks → r < length o
    give_below r e = let b = below in let l = lowest_is in omega arith

    pub give_one : (r : ℕ) (marks' : List ℕ) → r ≡ lowest marks → marks' ≡ with_mark marks (lowest marks)
        → Given o₀ a count (set o r (a + k + 1)) marks' (set index k r) (k + 1)
    give_one r marks' e m' =
        let z : a + k + 1 ≢ 0 = λ q. omega arith in
        let p : r ≡ place 0 o = e ∙ lowest_is in
        let f : set o r (a + k + 1) ≡ fill (suc (a + k)) o = rw (p, add-one (a + k)) (sym (fill_set (suc (a + k)) o)) in
        let i : take count (set index k r) ≡ places (set o r (a + k + 1)) a count =
        take-set-lt count index k r h
        ∙ rw (f, p, g.indexed.each) (sym (places_fill o a count k h has_not)) in
        let w : with_mark marks (lowest marks) ≡ marks_of (set o r (a + k + 1)) =
        rw (← e, g.marked) (marks_put o r g.few (give_below r e) (a + k + 1) z) in
        give_next _ _ _ (f ∙ sym (assign_new o (a + k) has_not)) (record { size = length-set index k r ∙ g.indexed.size; each = i }) (m' ∙ w)

pub give_done : (o₀ : List ℕ) (a count : ℕ) (o marks index : List ℕ) (k : ℕ) → Given o₀ a count o marks index k → count ≡ k
    → o ≡ assign_blocks o₀ a count
unfolding assign_blocks
give_done o₀ a count o marks index k g e =
    let z : count - k ≡ 0 = omega arith in
    sym (ap (assign_blocks o (a + k)) z) ∙ g.rest

-- where there is room every block of the range has a slot
pub given_below : (o index : List ℕ) (a n k : ℕ) → unmapped o a n ≤ free o → Indexed (assign_blocks o a n) a n index → k < n
    → get_or index k 0 < length o
unfolding mapped
given_below o index a n k room x h =
    let q = assign_blocks o a n in
    let b = place_below (suc (a + k)) q (true→T (has (suc (a + k)) q) (mapped_write_in o a n room k h)) in
    rw (index_at q index a n k x h, ← length_assign_blocks o a n) b
