-- `opening::read_points` meets its contract.
use Prim.Native.Nat.{◌≤◌}
use mathlib.Core.Path.{◌≡◌}
use mathlib.Core.Bool.{false}
use Rattle.opening.specs.Opening.{any_wrong}
use Rattle.opening.proofs.Reading.{with_zeros}
use Rattle.opening.proofs.read_points.Given as goal

abbrev pub invariant-loop-i : goal.invariant-loop-i
invariant-loop-i l = (l.i ≤ l.count) × ((any_wrong l.i l.file ≡ false) × (l.points ≡ with_zeros l.i l.file))
