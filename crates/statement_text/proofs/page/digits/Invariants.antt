-- `statement_text::page::digits` meets its contract. The digits counted and those of the rest are those of the number, and one:
-- the last digit of the rest is counted before it is met.
use Prim.Native.Nat.{◌+◌, ◌^◌, ◌<◌}
use mathlib.Core.Path.{◌≡◌}
use lib.ListN.{length}
use Rattle.statement_text.specs.Text.{decimal}
use Rattle.statement_text.proofs.page.digits.Given as goal

abbrev pub invariant-loop-rest : goal.invariant-loop-rest
invariant-loop-rest l = (l.rest < 2 ^ 64) × (l.count + length (decimal l.rest) ≡ 1 + length (decimal l.n))

abbrev pub decreases-loop-rest : goal.decreases-loop-rest
decreases-loop-rest l = l.rest
