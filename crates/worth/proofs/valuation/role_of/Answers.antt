-- `worth::valuation::role_of` meets its contract: by the role bit, with the point's band.
use Rattle.worth.proofs.Roles.{semi_active_lem}
use Rattle.worth.proofs.valuation.role_of.Goals as goal

pub returns-then-point : goal.returns-then-point
returns-then-point c = semi_active_lem _ _ _ c.if-point.true c.band.ensures
