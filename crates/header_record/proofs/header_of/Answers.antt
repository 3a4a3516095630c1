-- `header_record::header_of` meets its contract: each value is one that its field holds.
use native.Mathlib.Omega.{arith}
use Rattle.header_record.proofs.header_of.Goals as goal

pub overflow_cast-year : goal.overflow_cast-year
overflow_cast-year c = omega (arith, c.requires 2)

pub overflow_cast-month : goal.overflow_cast-month
overflow_cast-month c = omega (arith, c.requires 3)

pub overflow_cast-points : goal.overflow_cast-points
overflow_cast-points c = omega (arith, c.requires 4)

pub overflow_cast-entries : goal.overflow_cast-entries
overflow_cast-entries c = omega (arith, c.requires 5)
