-- `master_data::is_outside` meets its contract.
use Prim.Native.Nat.{ℕ}
use mathlib.Core.Path.{ap, ◌∙◌}
use mathlib.Core.Bool.{◌||◌}
use native.Mathlib.Omega.{arith}
use lib.Dec.{leb}
use Rattle.master_data.proofs.Ranged.{count_most, outside_count}
use Rattle.master_data.proofs.is_outside.Goals as goal

pub returns : goal.returns
returns c =
    let s = c in
    let a = s.args in
    let room = s.well_formed.0.1.1.1.1.1.0.1.0.1 in
    ap (λ (n : ℕ). leb a.master.count a.point || leb n a.quarter) c.quarters_of_month.ensures
    ∙ outside_count a.master a.point a.quarter (omega (arith, room, count_most a.master s.requires))
