-- `statement_text::layout::points` meets its contract.
use Prim.Native.Nat.{◌+◌, ◌*◌, ◌≤◌}
use lib.ListN.{length, take}
use Rattle.statement_text.specs.Steps.{Behind}
use Rattle.statement_text.specs.Text.{points_text}
use Rattle.statement_text.proofs.layout.points.Given as goal

abbrev pub invariant-loop-number : goal.invariant-loop-number
invariant-loop-number l =
    (l.number ≤ length l.counted) × ((l.page.length ≤ l.initial.page.length + 189 * l.number)
    × Behind l.initial.page (points_text 0 (take l.number l.counted)) l.page)
