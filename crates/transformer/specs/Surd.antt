-- Numbers with one square root in them, exactly. Assumes nothing.
use Rattle.std.specs.Prelude.{Bool, ◌&&◌, ◌||◌}
use Rattle.quantity.specs.Fraction.{Fraction, whole, product, sum, square, difference, is_below}

-- the number: rational + factor · √radicand
pub record Surd : Type 0 where
  pub rational : Fraction
  pub factor : Fraction
  pub radicand : Fraction

abbrev pub surd : Fraction → Fraction → Fraction → Surd
surd a b c = record { rational = a; factor = b; radicand = c }

abbrev pub √ : Fraction → Surd
√ c = surd (whole 0) (whole 1) c

abbrev pub times : Surd → Fraction → Surd
times x q = surd (product x.rational q) (product x.factor q) x.radicand

abbrev pub plus : Surd → Fraction → Surd
plus x q = surd (sum x.rational q) x.factor x.radicand

-- what the number is with a fraction in the place of the root
abbrev pub with_root : Surd → Fraction → Fraction
with_root x root = sum x.rational (product x.factor root)

-- the square of factor · √radicand
abbrev pub squared_rest : Surd → Fraction
squared_rest x = product (square x.factor) x.radicand

-- whether the number is below a fraction: its rational part is, and the square of the rest is below the square of what lies between
abbrev pub surd_below : Surd → Fraction → Bool
surd_below x q = is_below x.rational q && is_below (squared_rest x) (square (difference q x.rational))

-- whether a fraction is below the number: it is below the rational part, or the square of what lies between below the square of the rest
abbrev pub below_surd : Fraction → Surd → Bool
below_surd q x = is_below q x.rational || is_below (square (difference q x.rational)) (squared_rest x)
