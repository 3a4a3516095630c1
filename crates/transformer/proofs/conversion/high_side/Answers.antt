-- `transformer::conversion::high_side` meets its contract.
use Rattle.transformer.proofs.Signs.{high_energy, taken, supplied}
use Rattle.transformer.proofs.conversion.high_side.Goals as goal

pub returns-then-energy-gt0 : goal.returns-then-energy-gt0
returns-then-energy-gt0 c =
    let energy = high_energy _ _ _ _ c.ranges.reactive c.requires c.from.ensures c.from-2.ensures in
    taken _ _ _ energy c.unsigned_abs-size.ensures.value c.if-energy-gt0.true

pub returns-else-energy-gt0 : goal.returns-else-energy-gt0
returns-else-energy-gt0 c =
    let energy = high_energy _ _ _ _ c.ranges.reactive c.requires c.from.ensures c.from-2.ensures in
    supplied _ _ _ energy c.unsigned_abs-size.ensures.value c.if-energy-gt0.false
