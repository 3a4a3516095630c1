-- `transformer::ranges::is_implausible` meets its contract.
use native.Mathlib.Omega.{arith}
use Rattle.transformer.proofs.Reduced.{implausible}
use Rattle.transformer.proofs.Accepted.{sheet, of_all}
use Rattle.transformer.proofs.Bounds.{product_fits}
use Rattle.transformer.proofs.ranges.is_implausible.Goals as goal

pub returns : goal.returns
returns c = implausible c.args.low c.args.sheet _ c.squared_energy.ensures

pub overflow_mul-result-2 : goal.overflow_mul-result-2
overflow_mul-result-2 c =
    let a = c in
    let s = sheet a.args.sheet (of_all a.args.low a.args.sheet a.requires) in
    product_fits _ _ 250000 250000 (omega (arith, s.power)) (omega (arith, s.power)) (omega arith)
