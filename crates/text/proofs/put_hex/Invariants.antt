-- `put_hex`: the bytes passed stand there in hex.
use mathlib.Core.Path.{◌≡◌}
use Prim.Native.Nat.{◌+◌, ◌*◌}
use lib.ListN.{take}
use Rattle.text.specs.Text.{hex}
use Rattle.text.specs.Puts.{Puts}
use Rattle.text.proofs.put_hex.Given as goal

abbrev pub invariant-loop-byte : goal.invariant-loop-byte
invariant-loop-byte l = (Puts (hex (take l.byte-index l.from)) l.initial.out l.at l.out l.end) × (l.end ≡ l.at + 2 * l.byte-index)
