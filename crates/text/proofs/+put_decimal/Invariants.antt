-- `put_decimal`: the measure is the number, of which a tenth is less.
use Rattle.text.proofs.+put_decimal.Given as goal

abbrev pub decreases-put_decimal : goal.decreases-put_decimal
decreases-put_decimal l = l.x
