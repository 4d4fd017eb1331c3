-- Laws of putting texts into a lent buffer.
-- Assumes nothing.
use mathlib.Core.Path.{◌≡◌, sym, ap, ◌∙◌}
use mathlib.Core.List.{List, ◌++◌}
use Prim.Native.Nat.{ℕ, ◌+◌, ◌-◌, ◌≤◌}
use native.Mathlib.Omega.{arith}
use native.Mathlib.Nat.{add_assoc}
use lib.ListN.{length, length-append, take, drop}
use lib.Seq.{take_at}
use borrow.Rule.Slice.PartMut.{put_mid, Post-is}
use Rattle.fields.specs.Bytes.{put}
use Rattle.fields.proofs.BytesLaws.{put_is, put_front, put_next}
use Rattle.text.specs.Puts.{Puts}

-- a part that was lent and comes back as the text
pub part_put : (at : ℕ) (l text new : List ℕ) → at + length text ≤ length l → new ≡ text
    → put_mid at (at + length text - at) l new ≡ put l at text
part_put at l text new h e =
    rw e (ap (λ (z : List ℕ). take at l ++ (text ++ z)) (Post-is at (at + length text) l (omega arith)) ∙ sym (put_is l at text h))

-- a text, and another behind it
pub put_then : (l : List ℕ) (at next : ℕ) (s t : List ℕ) → next ≡ at + length s
    → (put (put l at s) next t ≡ put l at (s ++ t)) × (length (s ++ t) ≡ length s + length t)
put_then l at next s t e = (rw e (put_next l at s t), length-append s t)

-- the same, of what the functions promise
pub puts_then : {s t l between after : List ℕ} {at next end : ℕ} → Puts s l at between next → Puts t between next after end
    → Puts (s ++ t) l at after end
puts_then {s} {t} {l} {between} {after} {at} {next} {end} p q = record {
  bytes = q.bytes ∙ rw (p.bytes, p.behind) (put_next l at s t);
  behind = q.behind ∙ rw (p.behind, length-append s t) (add_assoc at (length s) (length t));
}

-- what was put from the first byte on is what the buffer begins with
pub front_put : (l text : List ℕ) (n : ℕ) → n ≡ length text → n ≤ length l → take n (put l 0 text) ≡ text
front_put l text n e h = ap (take n) (put_front l text (omega arith)) ∙ take_at text (drop (length text) l) n (sym e)

pub puts_front : {text l after : List ℕ} {end : ℕ} → Puts text l 0 after end → end ≤ length l → take end after ≡ text
puts_front {text} {l} {after} {end} p h = ap (take end) p.bytes ∙ front_put l text end (omega (arith, p.behind)) h
