-- `bits::put_words` meets its contract. The invariant: the first i numbers are in place.
use Prim.Native.Nat.{◌≤◌}
use mathlib.Core.Path.{◌≡◌}
use lib.ListN.{length, take}
use Rattle.bits.specs.Fields.{with_words}
use Rattle.bits.proofs.put_words.Given as goal

abbrev pub invariant-loop-i : goal.invariant-loop-i
invariant-loop-i l = (l.i ≤ length l.words) × (l.bytes ≡ with_words l.initial.bytes l.at (take l.i l.words))
