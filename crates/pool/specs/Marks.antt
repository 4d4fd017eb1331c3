-- The marks: which slots hold a block, one bit for each, and what is read off them. Both words are numbers, and a bit is a digit.
-- Assumes nothing.
use Rattle.std.specs.Prelude.{Bool, true, false, ◌&&◌, cond, List, [], ◌∷◌, ℕ, ◌+◌, ◌-◌, ◌*◌, ◌^◌, eqb, take, drop}
use Rattle.std.specs.Int.Count.{ones, count_trailing_zeros}
use Rattle.pool.specs.Bounds.{word_slots}

-- the mark of an owner number: "0 is free"
unfoldable pub mark_of : ℕ → ℕ
mark_of y = cond (eqb y 0) 0 1

-- the marks of some slots, the first slot's the lowest bit
unfoldable pub word_of : List ℕ → ℕ
word_of [] = 0
word_of (y ∷ ys) = word_of ys * 2 + mark_of y

-- Q-7: "Keep occupancy marks, one bit per slot in two 64-bit words": slot i is bit i mod 64 of word i / 64
unfoldable pub marks_of : List ℕ → List ℕ
marks_of owners = word_of (take word_slots owners) ∷ word_of (drop word_slots owners) ∷ []

-- word for word the same
unfoldable pub same_words : List ℕ → List ℕ → Bool
same_words [] [] = true
same_words [] (y ∷ ys) = false
same_words (x ∷ xs) [] = false
same_words (x ∷ xs) (y ∷ ys) = eqb x y && same_words xs ys

-- "A mark without its owner, an owner without its mark, or a mark beyond the slots makes the state invalid."
unfoldable pub marks_ok : List ℕ → List ℕ → Bool
marks_ok owners marks = same_words marks (marks_of owners)

-- ---- what is read off the marks

-- "the free count is read off the marks": how many slots are marked, by the ones of each word
unfoldable pub marked : List ℕ → ℕ
marked [] = 0
marked (w ∷ ws) = ones w + marked ws

-- the ones at the low end of a word
unfoldable pub trailing_ones : ℕ → ℕ
trailing_ones w = count_trailing_zeros 64 (2 ^ 64 - 1 - w)

-- "and so is the lowest free slot": behind the ones at the low end, which go on in the next word where a word has no other bit
unfoldable pub lowest : List ℕ → ℕ
lowest [] = 0
lowest (w ∷ ws) = cond (eqb (trailing_ones w) word_slots) (word_slots + lowest ws) (trailing_ones w)
