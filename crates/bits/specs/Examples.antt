-- Worked examples of the definitions, on the bytes ab cd. Assumes nothing.
use Rattle.std.specs.Prelude.{◌≡◌, refl, [], ◌∷◌}
use Rattle.bits.specs.Fields.{number, bytes, shift, field, replaced, stored, fields_at}

-- The 8 bits in the middle are bc.
pub middle : field (0xab ∷ 0xcd ∷ []) 4 8 ≡ 0xbc
unfolding field shift number
middle = refl

-- The first 3 bits of ab, 1010 1011, are 101, and the 5 that follow are 01011.
pub split : fields_at (0xab ∷ 0xcd ∷ []) 0 (3 ∷ 5 ∷ []) ≡ 0b101 ∷ 0b01011 ∷ []
unfolding fields_at field shift number
split = refl

-- With 12 written into the 8 bits in the middle the bytes are a1 2d.
pub written : stored (0xab ∷ 0xcd ∷ []) 4 8 0x12 ≡ 0xa1 ∷ 0x2d ∷ []
unfolding stored bytes replaced shift number
written = refl
