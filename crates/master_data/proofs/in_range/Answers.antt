-- `master_data::in_range` meets its contract.
use mathlib.Core.Path.{ap}
use mathlib.Core.Bool.{not}
use Rattle.refusals.proofs.Tests.{granted}
use Rattle.master_data.proofs.Ranged.{count_most}
use Rattle.master_data.proofs.in_range.Goals as goal

pub has_points-requires : goal.has_points-requires
has_points-requires c = count_most _ (granted _ _ c.has_month.ensures (ap not c.if-not-has_month.false))
