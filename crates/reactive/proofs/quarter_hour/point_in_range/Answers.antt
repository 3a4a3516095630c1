-- `reactive::quarter_hour::point_in_range` meets its contract: the tests are those of the definition, in its order.
use mathlib.Core.Path.{refl}
use Rattle.reactive.specs.QuarterHour.{point_in_range}
use Rattle.reactive.proofs.quarter_hour.point_in_range.Goals as goal

pub returns : goal.returns
unfolding point_in_range
returns c = refl
