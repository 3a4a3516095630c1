-- `transformer::loss::loss` meets its contract.
use native.Mathlib.Omega.{arith}
use Rattle.transformer.proofs.Accepted.{accepted}
use Rattle.transformer.proofs.Bounds.{product_fits, idle_most, over_fits, ranges, squares_most, loss-found}
use Rattle.transformer.proofs.loss.loss.Goals as goal

pub returns : goal.returns
returns c =
    let a = c in
    let k = loss-found a.args.low a.args.sheet a.requires _ _ _ c.squared_energy-squares.ensures c.root.ensures.value c.nearest.ensures in record { value = k.0; upper_bound = k.1 }

pub root-requires : goal.root-requires
root-requires c =
    let a = c in
    let k = accepted a.args.low a.args.sheet a.requires in
    record { sheet_value = k.ranges; sheet_value_2 = k.above }

pub overflow_mul-load : goal.overflow_mul-load
overflow_mul-load c =
    let a = c in
    product_fits _ _ 62500000000 400000
    (rw c.squared_energy-squares.ensures (squares_most a.args.low a.args.sheet a.requires))
    c.root.ensures.upper_bound
    (omega arith)

pub overflow_mul-no_load-2 : goal.overflow_mul-no_load-2
overflow_mul-no_load-2 c =
    let a = c in
    let s = ranges a.args.low a.args.sheet a.requires in
    product_fits _ _ 250000000 5000 (omega (arith, s.current)) s.power (omega arith)

pub overflow_mul-no_load-3 : goal.overflow_mul-no_load-3
overflow_mul-no_load-3 c =
    let a = c in
    let s = ranges a.args.low a.args.sheet a.requires in
    product_fits _ _ 1250000000000 5000 (idle_most a.args.sheet s) s.power (omega arith)

pub overflow_add-over : goal.overflow_add-over
overflow_add-over c =
    let a = c in
    over_fits a.args.sheet (ranges a.args.low a.args.sheet a.requires) _ _
    (rw c.squared_energy-squares.ensures (squares_most a.args.low a.args.sheet a.requires))
    c.root.ensures.upper_bound

pub nearest-requires : goal.nearest-requires
nearest-requires c =
    let a = c in
    let s = ranges a.args.low a.args.sheet a.requires in
    record { under_nonzero = omega (arith, s.some); under_bound = omega (arith, s.power) }

pub overflow_cast-result : goal.overflow_cast-result
overflow_cast-result c =
    let a = c in
    let k = loss-found a.args.low a.args.sheet a.requires _ _ _ c.squared_energy-squares.ensures c.root.ensures.value c.nearest.ensures in record { fits = omega (arith, k.1) }
