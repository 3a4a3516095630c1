-- The order of the machine's numbers, where two conditions hold at once. Assumes nothing.
use Prim.Native.Nat.{ℕ}
use mathlib.Core.Path.{◌≡◌}
use mathlib.Core.Bool.{true}
use mathlib.Core.List.{List}
use Rattle.refusals.specs.Refusals.{first}
use Rattle.refusals.proofs.First.{stop}
use Rattle.entry_record.specs.Entry.{unreadable}
use Rattle.machine.specs.Machine.{State, deliver, conditions}

-- an unreadable delivery gets 5, from a closed book too
pub unreadable-first : (s : State) (bytes : List ℕ) → unreadable bytes ≡ true → first (conditions s (deliver bytes)) ≡ 5
unreadable-first s bytes h = stop 5 _ h
