-- `audit::comparing::are_equal` meets its contract.
use mathlib.Core.Path.{◌∙◌}
use Rattle.audit.proofs.Equal.{equal_lists}
use Rattle.audit.proofs.comparing.are_equal.Goals as goal

pub returns : goal.returns
returns c = c.eq.ensures ∙ equal_lists _ _
