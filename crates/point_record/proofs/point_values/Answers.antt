-- `point_record::point_values` meets its contract: by definition, at the bit of the level.
use mathlib.Core.Path.{ap}
use native.Mathlib.Omega.{arith}
use lib.ListN.{set}
use Rattle.point_record.specs.Point.{point_values}
use Rattle.point_record.proofs.point_values.Goals as goal

pub overflow_cast-result-11 : goal.overflow_cast-result-11
overflow_cast-result-11 c = omega (arith, c.struct_known-11-1.given.1.1.1.1.1.1.0.1)

pub overflow_cast-result-12 : goal.overflow_cast-result-12
overflow_cast-result-12 c = omega (arith, c.struct_known-12-1.given.1.1.1.1.1.1.1.0)

pub overflow_cast-result-13 : goal.overflow_cast-result-13
overflow_cast-result-13 c = omega (arith, c.struct_known-13-1.given.1.1.1.1.1.1.1.0)

pub returns : goal.returns
returns c =
    let l = c in
    ap (set (point_values l.args.point) 1) l.from.ensures
