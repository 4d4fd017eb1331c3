-- `append_hex`: the bytes passed stand there in hex.
use mathlib.Core.Path.{◌≡◌}
use mathlib.Core.List.{◌++◌}
use Prim.Native.Nat.{◌+◌, ◌*◌}
use lib.ListN.{length, take}
use Rattle.text.specs.Text.{hex}
use Rattle.text.proofs.append_hex.Given as goal

abbrev pub invariant-loop-byte : goal.invariant-loop-byte
invariant-loop-byte g l = (l.page ≡ l.initial.page ++ hex (take l.byte-index l.from)) × (length l.page ≡ length l.initial.page + 2 * l.byte-index)
