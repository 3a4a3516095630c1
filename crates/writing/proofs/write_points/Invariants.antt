-- `writing::write_points` meets its contract. The invariant: so many points are written.
use Prim.Native.Nat.{◌*◌, ◌≤◌}
use mathlib.Core.Path.{◌≡◌}
use mathlib.Core.List.{◌++◌}
use lib.ListN.{take, drop}
use Rattle.writing.specs.Writing.{written_points}
use Rattle.writing.proofs.write_points.Given as goal

abbrev pub invariant-loop-i : goal.invariant-loop-i
invariant-loop-i l = (l.i ≤ l.count) × (l.output ≡ written_points (take l.i l.points) ++ drop (21 * l.i) l.initial.output)
