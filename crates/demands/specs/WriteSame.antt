-- WRITE SAME(16) as those put it who clear logs with it: of any build, so that wrong ones can be put in; proofs/WriteSame proves it of `step`.
-- Assumes nothing.
use Rattle.std.specs.Prelude.{◌≡◌, ◌↔◌, ◌≢◌, Bool, false, not, ◌&&◌, cond, List, ℕ, suc, ◌≤◌, T, length, take}
use Rattle.fields.specs.Bytes.{zeros}
use Rattle.fields.specs.Field.{bit}
use Rattle.answers.specs.declared.Answer.TheVariants.{Good}
use Rattle.pool.specs.Pool.{place, mapped, read_block, copies}
use Rattle.forms.specs.declared.Move.TheVariants.{Write, WriteSame}
use Rattle.forms.specs.declared.Request.{Request}
use Rattle.forms.specs.Forms.{count_in}
use Rattle.store.specs.Store.{Store, Call, usable}
use Rattle.demands.specs.History.{Build, after}
use Rattle.demands.specs.Contents.{Asks, address_in, by_itself, Reaches, Inside, Room, in_range, SameRange}
use Rattle.demands.specs.Reservations.{GoodBy}

-- ---- words

-- "byte 1 bits … 3 UNMAP, 0 NDOB"
unfoldable pub is_unmap : Request → Bool
is_unmap q = bit 3 q.options

unfoldable pub is_ndob : Request → Bool
is_ndob q = bit 0 q.options

-- the block sent: the first 512 bytes of data-out; "NDOB means zeros."
unfoldable pub sent : Request → Call → List ℕ
sent q c = cond (is_ndob q) (zeros 512) (take 512 c.data_out)

-- "12 for less than 512 bytes of data-out unless NDOB": the block is there
abbrev pub Sends : Request → Call → Type 0
Sends q c = is_ndob q ≡ false → 512 ≤ length c.data_out

-- is b one of the blocks named
unfoldable pub covers : Request → ℕ → Bool
covers q b = in_range (address_in q) (count_in q) b

-- "With UNMAP and an all-zero block, unmap; with a nonzero one, write"
pub record Clears (q : Request) (c : Call) : Type 0 where
  pub asked : T (is_unmap q)
  pub zero : sent q c ≡ zeros 512

abbrev pub Writes : Request → Call → Type 0
Writes q c = T (is_unmap q) → sent q c ≢ zeros 512

-- two calls that are right by themselves, where sense has this format, and differ in UNMAP alone
pub record SameButUnmap (format : ℕ) {c d : Call} (a : Asks WriteSame c) (b : Asks WriteSame d) : Type 0 where
  pub range : SameRange a.request b.request
  pub ndob : is_ndob a.request ≡ is_ndob b.request
  pub first_right : by_itself format c ≡ Good
  pub second_right : by_itself format d ≡ Good
  pub nexus : c.nexus ≡ d.nexus
  pub data_out : c.data_out ≡ d.data_out
  pub data_in : c.data_in ≡ d.data_in
  pub sense : c.sense ≡ d.sense

-- a WRITE of the block, as many times over as there are blocks, by the same nexus
pub record Repeats (format : ℕ) {c w : Call} (a : Asks WriteSame c) (b : Asks Write w) : Type 0 where
  pub range : SameRange a.request b.request
  pub bytes : w.data_out ≡ copies (count_in a.request) (sent a.request c)
  pub first_right : by_itself format c ≡ Good
  pub second_right : by_itself format w ≡ Good
  pub nexus : c.nexus ≡ w.nexus

-- ---- the laws

pub record WritesSame (f : Build) : Type 0 where
  -- each block of the range reads the block sent, and all others as before
  pub reads : (s : Store) (c : Call) (a : Asks WriteSame c) → GoodBy f s c → (b : ℕ)
      → read_block (after f s c).pool b ≡ cond (covers a.request b) (sent a.request c) (read_block s.pool b)
  -- with UNMAP and zeros the range is unmapped and nothing else: all others keep their slots, and every slot its bytes
  pub clears_map : (s : Store) (c : Call) (a : Asks WriteSame c) → GoodBy f s c → Clears a.request c → (b : ℕ)
      → mapped (after f s c).pool.owners b ≡ (mapped s.pool.owners b && not (covers a.request b))
  pub clears_slots : (s : Store) (c : Call) (a : Asks WriteSame c) → GoodBy f s c → Clears a.request c → (b : ℕ) → T (not (covers a.request b))
      → place (suc b) (after f s c).pool.owners ≡ place (suc b) s.pool.owners
  pub clears_bytes : (s : Store) (c : Call) (a : Asks WriteSame c) → GoodBy f s c → Clears a.request c → (after f s c).pool.medium ≡ s.pool.medium
  -- it is GOOD exactly where the range ends within the capacity, the block is there, and there is room, which unmapping does not need
  pub good_when : (s : Store) (c : Call) (a : Asks WriteSame c) → Reaches s a
      → GoodBy f s c ↔ (Inside s a.request × Sends a.request c × (Writes a.request c → Room s a.request))
  -- with a block that is not zeros UNMAP makes no difference
  pub nonzero : (s : Store) (c d : Call) (a : Asks WriteSame c) (b : Asks WriteSame d) → T (usable s) → SameButUnmap s.format a b → Sends a.request c
      → sent a.request c ≢ zeros 512 → f s c ≡ f s d
  -- what is not unmapped is answered as a WRITE of the block so many times over is, and leaves what that leaves
  pub answered_as_write : (s : Store) (c w : Call) (a : Asks WriteSame c) (b : Asks Write w) → T (usable s) → Repeats s.format a b → Sends a.request c
      → Writes a.request c → (f s c).seen.answer ≡ (f s w).seen.answer
  pub leaves_as_write : (s : Store) (c w : Call) (a : Asks WriteSame c) (b : Asks Write w) → T (usable s) → Repeats s.format a b → Sends a.request c
      → Writes a.request c → after f s c ≡ after f s w
