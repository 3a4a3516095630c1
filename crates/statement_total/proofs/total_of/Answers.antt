-- `statement_total::total_of` meets its contract.
use native.Mathlib.Omega.{arith}
use lib.ListN.{take}
use lib.Seq.{length-take-le}
use Rattle.statement_total.proofs.Sums.{addable_take, next_held, next-total, none_added}
use Rattle.statement_total.proofs.total_of.Goals as goal

pub loop-line-init : goal.loop-line-init
loop-line-init c = (omega arith, none_added)

pub plus-total-requires : goal.plus-total-requires
plus-total-requires c =
    let a = c.args in
    let l = c.loop-line in
    next_held (take c.min.result a.lines) (addable_take c.min.result a.lines c.requires) l.line-index (omega arith)
    (omega (arith, length-take-le c.min.result a.lines (omega arith))) l.total l.invariant.1

pub loop-line-preserved : goal.loop-line-preserved
loop-line-preserved c =
    let a = c.args in
    let l = c.loop-line in
    let next = next-total (take c.min.result a.lines) (addable_take c.min.result a.lines c.requires) l.line-index (omega arith)
    (omega (arith, length-take-le c.min.result a.lines (omega arith))) l.total l.invariant.1 _ c.plus-total.ensures in
    (omega arith, next)
