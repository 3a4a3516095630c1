-- What is known of fields that neither 14 nor 15 turns away. Assumes nothing.
use Prim.Native.Nat.{◌*◌, ◌≤◌}
use mathlib.Core.Path.{◌≡◌, refl, sym, ◌∙◌}
use mathlib.Core.Bool.{true, false, not, ◌&&◌, ◌||◌}
use mathlib.Core.List.{[], ◌∷◌}
use borrow.Author.Tests.{ltb-false, leb-true, not-false}
use lib.Dec.{leb}
use Rattle.refusals.proofs.First.{none_holds}
use Rattle.refusals.proofs.Tests.{both, each, neither}
use Rattle.transformer.specs.declared.LowSide.{LowSide}
use Rattle.transformer.specs.declared.DataSheet.{DataSheet}
use Rattle.transformer.specs.LowSide.{energy_in_range, sheet_in_range, in_range, uk_below_U_R, overloaded, number}
use Rattle.transformer.specs.Steps.{squared_energy}
use Rattle.transformer.proofs.Reduced.{power_reduced}

-- the ranges of a data sheet
pub record Sheet (t : DataSheet) : Type 0 where
  pub some : 1 ≤ t.sn
  pub power : t.sn ≤ 5000
  pub voltage : t.uk ≤ 4000
  pub current : t.i0 ≤ 4000
  pub losses : t.copper ≤ 4000

pub sheet : (t : DataSheet) → sheet_in_range t ≡ true → Sheet t
unfolding sheet_in_range
sheet t h =
    let k =
    each (leb 1 t.sn)
    (leb t.sn 5000 ∷ leb 1 t.uk ∷ leb t.uk 4000 ∷ leb t.i0 4000 ∷ leb t.copper 4000 ∷ [])
    h
    in
    record {
      some = leb-true 1 t.sn k.0;
      power = leb-true t.sn 5000 k.1.0;
      voltage = leb-true t.uk 4000 k.1.1.1.0;
      current = leb-true t.i0 4000 k.1.1.1.1.0;
      losses = leb-true t.copper 4000 k.1.1.1.1.1;
    }

-- those of all fields hold that of the data sheet
pub of_all : (low : LowSide) (t : DataSheet) → in_range low t ≡ true → sheet_in_range t ≡ true
unfolding in_range
of_all low t h = (both (energy_in_range low.active && energy_in_range low.reactive) (sheet_in_range t) h).1

-- fields that are converted
pub record Accepted (low : LowSide) (t : DataSheet) : Type 0 where
  pub ranges : sheet_in_range t ≡ true
  pub above : uk_below_U_R t ≡ false
  pub load : squared_energy low ≤ 50 * t.sn * (50 * t.sn)

pub accepted : (low : LowSide) (t : DataSheet) → number low t ≡ 0 → Accepted low t
unfolding number
accepted low t e =
    let k = none_holds ((14, not (in_range low t)) ∷ (15, uk_below_U_R t || overloaded low t) ∷ []) refl e in
    let two = neither (uk_below_U_R t) (overloaded low t) k.1.0 in
    record {
      ranges = of_all low t (not-false (in_range low t) k.0);
      above = two.0;
      load = ltb-false (50 * t.sn * (50 * t.sn)) (squared_energy low) (sym (power_reduced low t) ∙ two.1);
    }
