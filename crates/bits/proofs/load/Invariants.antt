-- `bits::load` meets its contract. The invariant: the word is the field that the bytes passed make.
use Prim.Native.Nat.{◌*◌, ◌≤◌}
use mathlib.Core.Path.{◌≡◌}
use Rattle.bits.specs.Fields.{field}
use Rattle.bits.proofs.load.Given as goal

abbrev pub invariant-loop-byte : goal.invariant-loop-byte
invariant-loop-byte l = (l.byte-index ≤ l.count) × (l.word ≡ field l.bytes (8 * l.first) (8 * l.byte-index))
