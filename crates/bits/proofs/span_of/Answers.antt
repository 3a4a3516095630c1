-- `bits::span_of` meets its contract. The mask 7 gives the remainder by 8, and the rest is linear.
use native.Mathlib.Omega.{arith}
use lib.Bits.{and_mask}
use Rattle.bits.proofs.span_of.Goals as goal

pub overflow_add-count : goal.overflow_add-count
overflow_add-count c = omega (arith, and_mask c.args.at 3)

pub overflow_add-count-2 : goal.overflow_add-count-2
overflow_add-count-2 c = omega (arith, and_mask c.args.at 3)

pub overflow_add-after : goal.overflow_add-after
overflow_add-after c = omega (arith, and_mask c.args.at 3)

pub overflow_sub-after : goal.overflow_sub-after
overflow_sub-after c = omega (arith, and_mask c.args.at 3)

pub returns : goal.returns
returns c = omega (arith, and_mask c.args.at 3)
