-- `point_record::place_in_range` meets its contract: by definition.
use mathlib.Core.Path.{refl}
use Rattle.point_record.specs.Point.{place_in_range}
use Rattle.point_record.proofs.place_in_range.Goals as goal

pub returns : goal.returns
unfolding place_in_range
returns c = refl
