-- `read_full`: what was read stands in front, and each read gave a byte at least.
-- Assumes nothing.
use Rattle.std.proofs.Common.{◌≡◌, ℕ, ◌+◌, ◌-◌, ◌≤◌, List, ◌++◌, rules, length, take, arith, sym, ap, ◌∙◌, subst, length-take-le}
use Rattle.std.specs.Io.KnownBytes.{Consumes}
use Rattle.std.proofs.KnownBytes.{Consumes-trans}
use lib.Seq.{take-append-add, take-append-le}
use borrow.Rule.Slice.PartMut.{put_mid, post_of}
use Rattle.bench.proofs.read_full.Goals as goal

-- the first bytes, and those of a read into the rest
read_more : (a k n : ℕ) (xs ys : List ℕ) → a ≤ length xs → n ≤ length ys → take (a + n) (put_mid a k xs ys) ≡ take a xs ++ take n ys
read_more a k n xs ys h g =
    ap (λ (j : ℕ). take (j + n) (put_mid a k xs ys)) (sym (length-take-le a xs h))
    ∙ take-append-add (take a xs) (ys ++ post_of a k xs) n
    ∙ ap (λ (l : List ℕ). take a xs ++ l) (take-append-le n ys (post_of a k xs) g)

pub loop-preserved : goal.loop-preserved
loop-preserved g c =
    let l = c.loop in
    let joined = read_more l.n (length l.buffer - l.n) c.in_ok-more.more l.buffer c.read.new.buf l.invariant.within c.in_ok-more.ensures.bound.0 in
    record {
      within = search rules;
      more = omega arith;
      bytes = subst (Consumes _ _) (sym joined) (Consumes-trans _ _ _ _ _ l.invariant.bytes c.in_ok-more.ensures.bytes.0);
    }
