-- A point of document 01's example, "Statement", as bytes, and what they decode to. Assumes nothing.
use Rattle.std.specs.Prelude.{◌≡◌, refl, true, [], ◌∷◌}
use Rattle.bits.specs.Fields.{number, shift, field, fields_at}
use Rattle.quarter.specs.declared.Level.TheVariants.{Kv380}
use Rattle.quarter.specs.Ranges.{tariffs_in_range}
use Rattle.quarter.specs.Reading.{level_of}
use Rattle.point_record.specs.Point.{place, place_in_range, point_in_range, read_point}

-- "Point 1: semi-active, 380, tariffs 300, 1000, one transformer 1200, 1000."
pub point_1 : read_point
    (0xc8 ∷ 0x04 ∷ 0xb0 ∷ 0x07 ∷ 0xd0 ∷ 0x00 ∷ 0x00 ∷ 0x4b ∷ 0x00 ∷ 0x3e ∷ 0x80 ∷ 0 ∷ 0 ∷ 0 ∷ 0 ∷ 0 ∷ 0 ∷ 0 ∷ 0 ∷ 0 ∷ 0 ∷ [])
    ≡ (
      0,
      record {
        semi_active = true;
        level = Kv380;
        transformers = 1;
        tariffs = record { payment = 300; billing = 1000; penalty = 0 };
        first = place 1200 1000;
        second = place 0 0;
        third = place 0 0;
        fourth = place 0 0;
      },
    )
unfolding read_point point_in_range tariffs_in_range place_in_range level_of fields_at field shift number
point_1 = refl
