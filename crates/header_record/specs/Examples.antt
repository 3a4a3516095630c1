-- The header of document 01's example, "Statement", as bytes, and what they decode to. Assumes nothing.
use Rattle.std.specs.Prelude.{◌≡◌, refl, [], ◌∷◌}
use Rattle.bits.specs.Fields.{number, shift, field, fields_at}
use Rattle.header_record.specs.Header.{header_in_range, read_header}

-- "February 2024, two points", four entries
pub february : read_header (0x42 ∷ 0x45 ∷ 0x7e ∷ 0x82 ∷ 0x20 ∷ 0x00 ∷ 0x04 ∷ []) ≡ (0, record { year = 2024; month = 2; points = 2; entries = 4 })
unfolding read_header header_in_range fields_at field shift number
february = refl
