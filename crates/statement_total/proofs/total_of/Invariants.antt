-- `statement_total::total_of` meets its contract.
use Prim.Native.Nat.{◌≤◌}
use mathlib.Core.Path.{◌≡◌}
use lib.ListN.{length, take}
use Rattle.statement_total.specs.Total.{total_line}
use Rattle.statement_total.proofs.total_of.Given as goal

abbrev pub invariant-loop-line : goal.invariant-loop-line
invariant-loop-line l = (l.line-index ≤ length l.counted) × (l.total ≡ total_line (take l.line-index l.counted))
