-- Bytes that are returned where data-in has room for them.
-- Assumes nothing.
use Rattle.std.specs.Prelude.{List, [], ◌∷◌, ℕ, ltb, length}
use Rattle.answers.specs.declared.Answer.TheVariants.{Short}
use Rattle.answers.specs.Order.{◌if◌, first}
use Rattle.reply.specs.Reply.{Replied, reply_of}

-- bytes put into data-in where they fit
abbrev pub gives : List ℕ → List ℕ → Replied
gives bs data_in = reply_of (first (Short if ltb (length data_in) (length bs) ∷ [])) bs data_in
