-- What the conversion gives for the energies of the C call. Assumes nothing.
use mathlib.Core.Path.{◌≡◌, ◌∙◌}
use lib.IntN.{ℤ}
use Rattle.std.specs.Prelude.{Result}
use Rattle.transformer.specs.declared.DataSheet.{DataSheet}
use Rattle.transformer.specs.declared.HighSide.{HighSide}
use Rattle.transformer.specs.declared.ConversionRefusal.{ConversionRefusal}
use Rattle.transformer.specs.LowSide.{converted}
use Rattle.transformer.specs.Numbers.{given}
use Rattle.reactive.specs.LowSide.{metered}

-- the code holds the energies a and b as x and y
pub same : (a b x y : ℤ) → x ≡ a → y ≡ b → (t : DataSheet) (h : Result HighSide ConversionRefusal) → given h ≡ converted (metered x y) t
    → given h ≡ converted (metered a b) t
same a b x y ex ey t h e = e ∙ (λ i. converted (metered (ex i) (ey i)) t)
