-- Fields of bits in a list of bytes: what `get` reads and `put` writes, and a record of fields that follow each other without gaps;
-- and the bytes of a number, which `put_word` writes. Bits are counted from the most significant bit of the first byte. Assumes nothing.
use Rattle.std.specs.Prelude.{ℕ, zero, suc, ◌+◌, ◌-◌, ◌*◌, ◌/◌, ◌%◌, ◌^◌, ◌<◌, List, [], ◌∷◌, ◌++◌, length, get_or}
use Rattle.std.proofs.Math.Seq.{paste}

-- Each element is a byte.
abbrev pub AreBytes : List ℕ → Type 0
AreBytes bs = (i : ℕ) → get_or bs i 0 < 2 ^ 8

-- A list of bytes as one number, the most significant byte first.
unfoldable pub number : List ℕ → ℕ
number [] = 0
number (b ∷ bs) = b * 2 ^ (8 * length bs) + number bs

-- The `count` lowest bytes of a number, the most significant byte first.
unfoldable pub bytes : ℕ → ℕ → List ℕ
bytes n zero = []
bytes n (suc count) = n / 2 ^ (8 * count) % 2 ^ 8 ∷ bytes n count

-- Numbers as eight bytes each, one after the other.
unfoldable pub words : List ℕ → List ℕ
words [] = []
words (n ∷ ns) = bytes n 8 ++ words ns

-- The list with these numbers in it, from index `at` on.
unfoldable pub with_words : List ℕ → ℕ → List ℕ → List ℕ
with_words bs at ns = paste bs at (words ns) (8 * length ns)

-- How many bits of the list follow the field of `width` bits at bit `at`.
unfoldable pub shift : List ℕ → ℕ → ℕ → ℕ
shift bs at width = 8 * length bs - at - width

-- The value of the field of `width` bits at bit `at`.
unfoldable pub field : List ℕ → ℕ → ℕ → ℕ
field bs at width = number bs / 2 ^ shift bs at width % 2 ^ width

-- A number with `value` in place of the `width` bits that stand above its `low` lowest bits.
unfoldable pub replaced : ℕ → ℕ → ℕ → ℕ → ℕ
replaced n low width value = (n / 2 ^ (low + width) * 2 ^ width + value) * 2 ^ low + n % 2 ^ low

-- The list with `value` in place of the field of `width` bits at bit `at`.
unfoldable pub stored : List ℕ → ℕ → ℕ → ℕ → List ℕ
stored bs at width value = bytes (replaced (number bs) (shift bs at width) width value) (length bs)

-- How many bits fields of these widths take.
abbrev pub total : List ℕ → ℕ
total [] = 0
total (w ∷ ws) = w + total ws

-- The values of fields of these widths, which follow each other from bit `at` on.
unfoldable pub fields_at : List ℕ → ℕ → List ℕ → List ℕ
fields_at bs at [] = []
fields_at bs at (w ∷ ws) = field bs at w ∷ fields_at bs (at + w) ws

-- The list with these values in place of fields of these widths, which follow each other from bit `at` on.
unfoldable pub stored_all : List ℕ → ℕ → List ℕ → List ℕ → List ℕ
stored_all bs at [] vs = bs
stored_all bs at (w ∷ ws) [] = bs
stored_all bs at (w ∷ ws) (v ∷ vs) = stored_all (stored bs at w v) (at + w) ws vs

-- There is a value for each width, and it fits the width.
abbrev pub Fit : List ℕ → List ℕ → Type 0
Fit [] [] = Unit {0}
Fit [] (v ∷ vs) = ⊥
Fit (w ∷ ws) [] = ⊥
Fit (w ∷ ws) (v ∷ vs) = (v < 2 ^ w) × Fit ws vs
