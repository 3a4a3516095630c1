-- Figures compared place by place. Assumes nothing.
use mathlib.Core.Path.{◌≡◌, ap₂, refl}
use mathlib.Core.Bool.{true, false≢true, ◌&&◌}
use mathlib.Core.List.{List, [], ◌∷◌}
use Rattle.std.specs.Cmp.Lexicographic.{pointwise}
use Rattle.refusals.proofs.Tests.{both}
use Rattle.worth.specs.contracts.FiguresPartialEq.TheImpl.{eq-value}
use Rattle.worth.specs.declared.Figures.{Figures}
use Rattle.worth.specs.Figures.{same}
use Rattle.worth.proofs.Columns.{same_true, same_self}
use Rattle.worth.proofs.Equality.{equal_same}
use Rattle.audit.specs.Audit.{all_same}

-- lists are equal, as `==` of the code has them, where all figures are the same
pub equal_lists : (fs gs : List Figures) → pointwise eq-value.it fs gs ≡ all_same fs gs
unfolding all_same
equal_lists [] [] = refl
equal_lists [] (g ∷ gs) = refl
equal_lists (f ∷ fs) [] = refl
equal_lists (f ∷ fs) (g ∷ gs) = ap₂ ◌&&◌ (equal_same f g) (equal_lists fs gs)

-- lists of the same figures are equal
pub all_same_lem : (fs gs : List Figures) → all_same fs gs ≡ true → fs ≡ gs
unfolding all_same
all_same_lem [] [] h = refl
all_same_lem [] (g ∷ gs) h = absurd (false≢true h)
all_same_lem (f ∷ fs) [] h = absurd (false≢true h)
all_same_lem (f ∷ fs) (g ∷ gs) h = let k = both (same f g) (all_same fs gs) h in ap₂ ◌∷◌ (same_true f g k.0) (all_same_lem fs gs k.1)

-- and each list has its own
pub all_self : (fs : List Figures) → all_same fs fs ≡ true
unfolding all_same
all_self [] = refl
all_self (f ∷ fs) = rw (same_self f, all_self fs)
