-- `transformer::root::bisected` meets its contract.
use native.Mathlib.Omega.{arith}
use Rattle.transformer.proofs.Bisecting.{side_most, narrowest}
use Rattle.transformer.proofs.Bounds.{product_fits}
use Rattle.transformer.proofs.root.bisected.Goals as goal

pub returns : goal.returns
returns c =
    let l = c.loop-low in
    let k = narrowest _ _ l.low l.high l.invariant c.loop-low-test.false in record { sn_bound_2 = k.0; radicand_bound_2 = k.1.0; upper_bound = k.1.1 }

pub loop-low-init : goal.loop-low-init
loop-low-init c = (omega arith, (c.requires.radicand_bound, (omega arith, omega arith)))

pub overflow_add-low : goal.overflow_add-low
overflow_add-low c = record { fits = omega (arith, c.loop-low.invariant.1.1.0, c.loop-low.invariant.1.1.1) }

pub overflow_add-middle : goal.overflow_add-middle
overflow_add-middle c = record { fits = omega (arith, c.loop-low.invariant.1.1.0, c.loop-low.invariant.1.1.1) }

pub overflow_mul-side : goal.overflow_mul-side
overflow_mul-side c =
    let l = c.loop-low in
    record { fits = omega (arith, side_most _ _ l.low l.high l.invariant c.requires.sn_bound) }

pub overflow_mul-side-in-loop-low : goal.overflow_mul-side-in-loop-low
overflow_mul-side-in-loop-low c =
    let l = c.loop-low in
    let side = side_most _ _ l.low l.high l.invariant c.requires.sn_bound in
    product_fits _ _ 2000005000 2000005000 side side (omega arith)

pub loop-low-smaller-then-side-radicand : goal.loop-low-smaller-then-side-radicand
loop-low-smaller-then-side-radicand c = omega (arith, c.loop-low-test.true, c.loop-low.invariant.1.1.0)

pub loop-low-preserved-then-side-radicand : goal.loop-low-preserved-then-side-radicand
loop-low-preserved-then-side-radicand c = (c.if-side-radicand.true, (c.loop-low.invariant.1.0, (omega (arith, c.loop-low-test.true), c.loop-low.invariant.1.1.1)))

pub loop-low-smaller : goal.loop-low-smaller
loop-low-smaller c = omega (arith, c.loop-low-test.true, c.loop-low.invariant.1.1.0)

pub loop-low-preserved : goal.loop-low-preserved
loop-low-preserved c = (c.loop-low.invariant.0, (c.if-side-radicand.false, (omega (arith, c.loop-low-test.true), omega (arith, c.loop-low-test.true, c.loop-low.invariant.1.1.1))))

pub overflow_sub-result : goal.overflow_sub-result
overflow_sub-result c = omega (arith, c.loop-low.invariant.1.1.0)
