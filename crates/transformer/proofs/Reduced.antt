-- The formulas of source document 001 and the tests of 02, reduced to whole numbers as the code has them. Assumes nothing.
use Prim.Native.Nat.{ℕ, ◌+◌, ◌-◌, ◌*◌, ◌<◌}
use mathlib.Core.Path.{◌≡◌, ap, ◌∙◌}
use mathlib.Core.Bool.{not, ◌||◌}
use native.Mathlib.Nat.{mul-pos}
use native.Mathlib.Omega.{arith}
use lib.Dec.{ltb}
use lib.IntN.{nat_abs}
use Rattle.quantity.specs.Fraction.{Fraction, ratio, product, sum, is_below}
use Rattle.transformer.specs.declared.LowSide.{LowSide}
use Rattle.transformer.specs.declared.DataSheet.{DataSheet}
use Rattle.transformer.specs.Source.{PUS, QUS, SN, PCuN, u_K, i0, u_R, εCC², QV, lost_energy}
use Rattle.transformer.specs.LowSide.{uk_below_U_R, overloaded, millionths, passes, root, loss}
use Rattle.transformer.specs.Steps.{squared_energy}
use Rattle.transformer.specs.Claims.{LossReduced}
use Rattle.transformer.proofs.Reducing.{Reduces, same_test, itself, reduces_product, reduces_sum, same-nearest}

-- the square of Sn times the root, in millionths
abbrev pub radicand : DataSheet → ℕ
radicand t = 100 * t.uk * t.sn * (100 * t.uk * t.sn) - 10000 * t.copper * (10000 * t.copper)

-- uk is below uR
pub uk_reduced : (t : DataSheet) → uk_below_U_R t ≡ ltb (t.uk * t.sn) (100 * t.copper)
unfolding uk_below_U_R u_K u_R PCuN SN
uk_reduced t =
    same_test 100 (t.uk * t.sn) (100 * t.copper)
    (t.uk * (1 * (100 * t.sn))) (t.copper * 1 * 10000) (omega arith) (omega arith) (omega arith)

-- the apparent power exceeds twice Sn
pub power_reduced : (low : LowSide) (t : DataSheet) → overloaded low t ≡ ltb (50 * t.sn * (50 * t.sn)) (squared_energy low)
unfolding overloaded SN PUS QUS
power_reduced low t =
    let p = nat_abs low.active in
    let q = nat_abs low.reactive in
    same_test 16 (50 * t.sn * (50 * t.sn)) (squared_energy low)
    (2 * (100 * t.sn) * (2 * (100 * t.sn)) * 1) ((4 * p * (4 * p) * 1 + 4 * q * (4 * q) * 1) * 1)
    (omega arith) (omega arith) (omega arith)

-- both, as the code tests them
pub implausible : (low : LowSide) (t : DataSheet) (n : ℕ) → n ≡ squared_energy low
    → (ltb (t.uk * t.sn) (100 * t.copper) || ltb (50 * t.sn * (50 * t.sn)) n) ≡ (uk_below_U_R t || overloaded low t)
implausible low t n e = rw (e, uk_reduced t, power_reduced low t)

-- what stands under the root
pub radicand_reduced : (t : DataSheet) → εCC² t ≡ ratio (radicand t) (1000000000000 * (t.sn * t.sn))
unfolding εCC² u_K u_R PCuN SN
radicand_reduced t = λ i. ratio (over i) (under i)
  where
    over : t.uk * t.uk * (1 * (100 * t.sn) * (1 * (100 * t.sn))) - t.copper * 1 * (t.copper * 1) * 100000000 ≡ radicand t
    over = omega arith

    under : 100000000 * (1 * (100 * t.sn) * (1 * (100 * t.sn))) ≡ 1000000000000 * (t.sn * t.sn)
    under = omega arith

-- which numbers pass
pub passes_reduced : (t : DataSheet) (n : ℕ) → passes t n ≡ not (ltb (radicand t) (n * t.sn * (n * t.sn)))
unfolding passes
passes_reduced t n =
    ap (λ (q : Fraction). not (is_below q (product (millionths n) (millionths n)))) (radicand_reduced t)
    ∙ ap not
    (same_test 1000000000000 (radicand t) (n * t.sn * (n * t.sn))
    (radicand t * 1000000000000) (n * n * (1000000000000 * (t.sn * t.sn))) (omega arith) (omega arith) (omega arith))

module _ (low : LowSide) (t : DataSheet) (h : 0 < t.sn) where
  -- the no-load part of the lost energy
  pub rational_reduced : Reduces (lost_energy low t).rational (ratio (t.i0 * t.sn) 400)
  unfolding lost_energy QV PUS QUS SN i0
  rational_reduced =
      record {
        by = 25000000 * (t.sn * t.sn);
        positive = mul-pos {m = 25000000} (omega arith) (mul-pos h h);
        over = omega arith;
        under = omega arith;
      }

  -- the factor that the root is taken by
  pub factor_reduced : Reduces (lost_energy low t).factor (ratio (squared_energy low) (25 * t.sn))
  unfolding lost_energy QV PUS QUS SN i0
  factor_reduced =
      record {
        by = 40000 * t.sn;
        positive = mul-pos {m = 40000} (omega arith) h;
        over = omega arith;
        under = omega arith;
      }

-- the loss: a fraction with as little over and under its line as the code has
pub loss_reduced : LossReduced
unfolding loss
loss_reduced low t h =
    let r = ratio (root t) 1000000 in
    let load = product (ratio (squared_energy low) (25 * t.sn)) r in
    same-nearest (sum (lost_energy low t).rational (product (lost_energy low t).factor r)) (sum (ratio (t.i0 * t.sn) 400) load)
    (reduces_sum (lost_energy low t).rational (product (lost_energy low t).factor r) (ratio (t.i0 * t.sn) 400) load
    (rational_reduced low t h)
    (reduces_product (lost_energy low t).factor r (ratio (squared_energy low) (25 * t.sn)) r (factor_reduced low t h) (itself r)))
    ∙ same-nearest (sum (ratio (t.i0 * t.sn) 400) load)
    (ratio (squared_energy low * root t + 62500 * t.i0 * t.sn * t.sn) (25000000 * t.sn))
    (record { by = 400; positive = omega arith; over = omega arith; under = omega arith })
