-- `statement_text::page::Page::number` meets its contract: with the digits of the rest stored, the page would be as it is to be.
use mathlib.Core.Path.{refl, ◌∙◌}
use native.Mathlib.Omega.{arith}
use Rattle.statement_text.proofs.Decimals.{length-decimal, length_last, digit-first, digit_last}
use Rattle.statement_text.proofs.page.Page.number.Goals as goal

pub loop-rest-init : goal.loop-rest-init
loop-rest-init c = ((omega arith, omega arith), (refl, refl))

pub overflow_sub-at : goal.overflow_sub-at
overflow_sub-at c = omega (arith, length_last c.loop-rest.rest (omega arith) (omega arith))

pub bounds-self-at : goal.bounds-self-at
bounds-self-at c = omega (arith, length_last c.loop-rest.rest (omega arith) (omega arith), length-decimal c.loop-rest.rest)

pub loop-rest-preserved : goal.loop-rest-preserved
loop-rest-preserved c =
    let l = c.loop-rest in
    let one_less = length_last l.rest (omega arith) (omega arith) in
    let stored = digit-first l.self.bytes _ l.at l.rest (omega arith) (omega arith) l.invariant.0.1 in
    ((omega arith, omega arith), (l.invariant.1.0, stored ∙ l.invariant.1.1))

pub returns : goal.returns
returns c =
    let l = c.loop-rest in
    let count = c.digits.ensures in
    let stored = digit_last l.self.bytes _ l.rest (omega arith) ∙ l.invariant.1.1 in
    record { behind = record { stored = stored; longer = omega (arith, l.invariant.1.0, count.value) }; length_bound = omega (arith, l.invariant.1.0, count.upper_bound) }
