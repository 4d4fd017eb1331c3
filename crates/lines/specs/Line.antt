-- The line of an outcome: "call,answer,status,sense,length,data".
-- Assumes nothing.
use Rattle.std.specs.Prelude.{List, [], ◌∷◌, ◌++◌, ℕ, Option, Some, None, take}
use Rattle.answers.specs.declared.Answer.{Answer}
use Rattle.answers.specs.declared.Answer.TheVariants.{Good, Refused, Conflict, Unusable, Short}
use Rattle.answers.specs.declared.Codes.{Codes}
use Rattle.answers.specs.Answers.{codes_of, number_of, status_of}
use Rattle.text.specs.Text.{comma, line_feed, decimal, hex_byte, hex}

abbrev pub dash : ℕ
dash = 0x2D

-- "status in hex, `--` for none"
unfoldable pub status_text : Option ℕ → List ℕ
status_text (Some b) = hex_byte b
status_text None = dash ∷ dash ∷ []

-- "key, ASC, ASCQ"
unfoldable pub codes_text : Codes → List ℕ
codes_text k = hex (k.key ∷ k.asc ∷ k.ascq ∷ [])

unfoldable pub sense_text : Answer → List ℕ
sense_text Good = []
sense_text (Refused refusal) = codes_text (codes_of refusal)
sense_text Conflict = []
sense_text Unusable = []
sense_text Short = []

-- "the first 32 of them"
abbrev pub shown_bytes : ℕ
shown_bytes = 32

-- "returned bytes; the first 32 of them in hex"
unfoldable pub data_text : ℕ → List ℕ → List ℕ
data_text returned data_in = hex (take shown_bytes (take returned data_in))

-- "Fields: call from 1; answer number; status in hex, `--` for none; key, ASC, ASCQ; returned bytes; the first 32 of them in hex"
unfoldable pub line_of : ℕ → Answer → ℕ → List ℕ → List ℕ
line_of call answer returned data_in =
    decimal call
    ++ ((comma ∷ decimal (number_of answer))
    ++ ((comma ∷ status_text (status_of answer))
    ++ ((comma ∷ sense_text answer)
    ++ ((comma ∷ decimal returned)
    ++ ((comma ∷ data_text returned data_in)
    ++ (line_feed ∷ []))))))
