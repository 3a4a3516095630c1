-- `worth::Figures::equals` meets its contract.
use mathlib.Core.Path.{◌∙◌}
use Rattle.worth.proofs.Equality.{equal_same}
use Rattle.worth.proofs.Figures.equals.Goals as goal

pub returns : goal.returns
returns c = c.eq.ensures ∙ equal_same _ _
