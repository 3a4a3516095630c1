-- `reactive::quarter_hour::role_of` meets its contract: the test on the number picks the case.
use mathlib.Core.Path.{ap}
use borrow.Author.Tests.{eq-eqb, ne_eqb}
use Rattle.reactive.specs.QuarterHour.{role_of}
use Rattle.quarter.specs.declared.Role.TheVariants.{SemiActive}
use Rattle.reactive.proofs.quarter_hour.role_of.Goals as goal

pub returns-then-role-eq0 : goal.returns-then-role-eq0
unfolding role_of
returns-then-role-eq0 c = simp (eq-eqb _ _ c.if-role-eq0.true)

pub returns : goal.returns
unfolding role_of
returns c = simp (ne_eqb _ _ c.if-role-eq0.false) (ap SemiActive c.of.ensures)
