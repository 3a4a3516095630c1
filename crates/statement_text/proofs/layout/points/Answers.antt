-- `statement_text::layout::points` meets its contract.
use native.Mathlib.Omega.{arith}
use lib.ListN.{take}
use Rattle.statement_text.proofs.Lines.{no_line, next_line}
use Rattle.statement_text.proofs.layout.points.Goals as goal

pub loop-number-init : goal.loop-number-init
loop-number-init c = (omega arith, (omega arith, no_line _ (take c.min.result c.args.lines)))

pub loop-number-preserved : goal.loop-number-preserved
loop-number-preserved c =
    let l = c.loop-number in
    let n = next_line _ _ _ (take c.min.result c.args.lines) l.number _ (omega arith) l.invariant.1.1 c.point-page.ensures.behind in
    (omega arith, (omega arith, n))
