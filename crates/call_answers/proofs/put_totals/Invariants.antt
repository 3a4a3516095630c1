-- `call_answers::put_totals` meets its contract. The invariant: the figures of so many points are in place.
use Prim.Native.Nat.{◌+◌, ◌≤◌}
use mathlib.Core.Path.{◌≡◌}
use Rattle.call_answers.proofs.Columns.{filled}
use Rattle.call_answers.proofs.put_totals.Given as goal

abbrev pub invariant-loop-i : goal.invariant-loop-i
invariant-loop-i l = (l.i ≤ 8) × (l.output ≡ filled l.initial.output (l.to + 16) l.fn.points l.i)
