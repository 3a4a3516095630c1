-- Fractions of whole numbers, for formulas of the source documents whose values are not whole. A fraction stands as it is made
-- and is not reduced. The tests hold for fractions with something under the line.
-- Assumes nothing.
use Rattle.std.specs.Prelude.{ℕ, ◌+◌, ◌-◌, ◌*◌, ◌/◌, Bool, not, ltb}

-- a fraction of whole numbers, with product and sum
pub record Fraction : Type 0 where
  pub over : ℕ
  pub under : ℕ

abbrev pub ratio : ℕ → ℕ → Fraction
ratio a b = record { over = a; under = b }

abbrev pub product : Fraction → Fraction → Fraction
product p q = ratio (p.over * q.over) (p.under * q.under)

abbrev pub sum : Fraction → Fraction → Fraction
sum p q = ratio (p.over * q.under + q.over * p.under) (p.under * q.under)

-- a whole number
abbrev pub whole : ℕ → Fraction
whole n = ratio n 1

abbrev pub square : Fraction → Fraction
square p = product p p

abbrev pub quotient : Fraction → Fraction → Fraction
quotient p q = ratio (p.over * q.under) (p.under * q.over)

-- the first less the second, and 0 where the second is the larger one
abbrev pub difference : Fraction → Fraction → Fraction
difference p q = ratio (p.over * q.under - q.over * p.under) (p.under * q.under)

-- whether the first is below the second
abbrev pub is_below : Fraction → Fraction → Bool
is_below p q = ltb (p.over * q.under) (q.over * p.under)

-- whether the first is at most the second: the second is not below it
abbrev pub is_at_most : Fraction → Fraction → Bool
is_at_most p q = not (is_below q p)

-- the whole number that is nearest, the larger one where two are
abbrev pub nearest : Fraction → ℕ
nearest p = (2 * p.over + p.under) / (2 * p.under)
