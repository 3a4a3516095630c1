-- `master_data::has_points` meets its contract.
use mathlib.Core.Path.{◌≡◌}
use mathlib.Core.Bool.{true}
use lib.ListN.{take}
use Rattle.lists.specs.Lists.{all_of}
use Rattle.point_record.specs.Point.{point_in_range}
use Rattle.master_data.proofs.has_points.Given as goal

abbrev pub invariant-loop-point : goal.invariant-loop-point
invariant-loop-point l = all_of point_in_range (take l.point-index l.point-items) ≡ true
