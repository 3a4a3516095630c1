-- Figures are equal, as `==` is derived, where each of the eight numbers is. Assumes nothing.
use mathlib.Core.Path.{◌≡◌}
use Rattle.std.proofs.Math.Bool.{and_assoc}
use Rattle.worth.specs.declared.Figures.{Figures}
use Rattle.worth.specs.Figures.{same}
use Rattle.worth.specs.contracts.FiguresPartialEq.TheImpl.{eq-value}

pub equal_same : (f g : Figures) → eq-value.it f g ≡ same f g
unfolding same
equal_same f g = simp and_assoc
