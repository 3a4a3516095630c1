-- What reading and writing the fields of a record asks of its bytes and of the fields' widths. Assumes nothing.
use Rattle.std.specs.Prelude.{ℕ, ◌*◌, ◌^◌, ◌≤◌, ◌<◌, List, [], ◌∷◌, length, get_or}
use Rattle.bits.specs.Fields.{total}

-- each field is one that `bits` reads and writes
abbrev pub Narrow : List ℕ → Type 0
Narrow [] = Unit {0}
Narrow (w ∷ ws) = (w ≤ 56) × Narrow ws

-- The fields lie in the bytes, which are no more than the longest record of a month file has.
pub record Layout (bytes widths : List ℕ) : Type 0 where
  pub inside : total widths ≤ 8 * length bytes
  pub short : length bytes ≤ 21
  pub narrow : Narrow widths

-- each value is one that its field's width holds
abbrev pub Small : List ℕ → List ℕ → Type 0
Small widths values = (i : ℕ) → get_or values i 0 < 2 ^ get_or widths i 0
