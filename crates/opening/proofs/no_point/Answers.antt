-- `opening::no_point` meets its contract, by definition.
use mathlib.Core.Path.{refl}
use Rattle.quarter.specs.Reading.{level_of}
use Rattle.point_record.specs.Point.{no_point}
use Rattle.opening.proofs.no_point.Goals as goal

pub returns : goal.returns
unfolding no_point level_of
returns c = refl
