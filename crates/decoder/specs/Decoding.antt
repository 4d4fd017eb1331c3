-- What the contracts of decoding speak of: a request where the tests let it pass, and otherwise their answer.
-- Assumes nothing.
use Rattle.std.specs.Prelude.{cond, Result, Ok, Err}
use Rattle.answers.specs.declared.Answer.{Answer}
use Rattle.answers.specs.Order.{refuses}
use Rattle.forms.specs.declared.Request.{Request}
use Rattle.forms.specs.Forms.{Asked, nothing, asks}

-- a request, or the answer that refuses it
abbrev pub Decoded : Type 0
Decoded = Result Request Answer

unfoldable pub decoded : Answer → Asked → Decoded
decoded a nothing = Err a
decoded a (asks q) = cond (refuses a) (Err a) (Ok q)
