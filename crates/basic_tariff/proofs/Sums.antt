-- The most of share, sum and product. Assumes nothing.
use Prim.Native.Nat.{ℕ, zero, suc, ◌+◌, ◌*◌, ◌≤◌}
use native.Mathlib.Nat.{mul-le-mul, div-le_of_le-mul}
use native.Mathlib.Omega.{arith}
use mir.Val.{Fits}
use mir.Syntax.{w64}
use Rattle.basic_tariff.specs.BasicTariff.{Point, share, sum_of_K}
use Rattle.basic_tariff.proofs.Cases.{k_most}

-- no share is above 1,000
pub share_most : (p : Point) → share p ≤ 1000
unfolding share
share_most p = div-le_of_le-mul (p.drawn + p.fed_in) (omega arith)

module _ (points : ℕ → Point) where
  pub sum_most : (n : ℕ) → sum_of_K points n ≤ 600 * n
  unfolding sum_of_K
  sum_most zero = omega arith
  sum_most (suc n) = omega (arith, sum_most n, k_most (share (points n)))

-- tariff times sum has 64 bits
pub product_fits : (tariff sum : ℕ) → tariff ≤ 100000000 → sum ≤ 4800 → Fits w64 (tariff * sum)
product_fits tariff sum h k = record { fits = omega (arith, mul-le-mul h k) }
