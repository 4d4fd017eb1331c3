-- `decoder::request` meets its contract. Assumes nothing.
use mathlib.Core.Path.{sym, ◌∙◌}
use Rattle.fields.specs.Bits.{first_byte, top_bit, bit_count}
use Rattle.decoder.proofs.DecodingLaws.{neither, request_control, request_served, request_action}
use Rattle.decoder.proofs.request.Goals as goal

pub returns-then-control : goal.returns-then-control
unfolding first_byte top_bit bit_count
returns-then-control c = rw c.invalid_field.ensures (request_control _ _ (rw c.byte.ensures at (sym c.bit-control.ensures ∙ c.if-control.true)))

pub returns-then-control-is_none : goal.returns-then-control-is_none
unfolding first_byte top_bit bit_count
returns-then-control-is_none c = rw c.invalid_field-then-control-is_none.ensures (request_action _ _ (rw c.byte.ensures at (sym c.bit-control.ensures ∙ c.if-control.false)) _ _ c.is_none.ensures c.if-control-is_none.true c.if-control.false)

pub returns : goal.returns
returns c = request_served _ _ (rw c.byte.ensures at (sym c.bit-control.ensures ∙ neither _ _ c.if-control-is_none.false)) _ _ c.in-Some.is c.tested.ensures
