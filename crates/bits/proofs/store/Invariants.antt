-- `bits::store` meets its contract. The invariant: the bytes passed hold the low bytes of the word, and the rest of it is left.
use Prim.Native.Nat.{◌≤◌}
use mathlib.Core.Path.{◌≡◌}
use lib.ListN.{length}
use Rattle.bits.proofs.Words.{Done}
use Rattle.bits.proofs.store.Given as goal

abbrev pub invariant-loop-i : goal.invariant-loop-i
invariant-loop-i l =
    (l.i ≤ l.count) × (length l.bytes ≡ length l.initial.bytes) × Done l.initial.bytes l.first l.count l.initial.word l.bytes l.i l.word
