-- `point_record::point_in_range` meets its contract: by definition, at the answers for the tariffs and the four places.
use Rattle.point_record.specs.Point.{point_in_range}
use Rattle.point_record.proofs.point_in_range.Goals as goal

pub returns : goal.returns
unfolding point_in_range
returns c =
    let s = c in
    rw (
      s.tariffs_in_range.ensures,
      s.place_in_range.ensures,
      s.place_in_range-2.ensures,
      c.place_in_range-3.ensures,
      c.place_in_range-4.ensures,
    )
