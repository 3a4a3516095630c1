-- `statement_text::page::digits` meets its contract. The digits counted and those of the rest are those of the number, and one:
-- the last digit of the rest is counted before it is met.
use native.Mathlib.Omega.{arith}
use Rattle.statement_text.proofs.Decimals.{length-decimal, length_one, length_last}
use Rattle.statement_text.proofs.page.digits.Goals as goal

pub overflow_add-count : goal.overflow_add-count
overflow_add-count c = omega (arith, length-decimal c.args.n)

pub loop-rest-preserved : goal.loop-rest-preserved
loop-rest-preserved c = (omega arith, omega (arith, length_last c.loop-rest.rest (omega arith) (omega arith)))

pub returns : goal.returns
returns c =
    let one = length_one c.loop-rest.rest (omega arith) in
    record { value = omega arith; upper_bound = omega (arith, length-decimal c.args.n) }
