-- K, case by case. Assumes nothing.
use Prim.Native.Nat.{ℕ, ◌-◌, ◌≤◌, ◌<◌}
use mathlib.Core.Path.{◌≡◌}
use native.Mathlib.Decide.{dec_le}
use native.Mathlib.Omega.{arith}
use borrow.Author.Tests.{le-leb, lt-leb}
use Rattle.basic_tariff.specs.BasicTariff.{K}

module _ (s : ℕ) where
  pub none : s ≤ 200 → K s ≡ 0
  unfolding K
  none h = rw (le-leb s 200 h)

  pub full : 200 < s → 800 ≤ s → K s ≡ 600
  unfolding K
  full h k = rw (lt-leb s 200 h, le-leb 800 s k)

  pub between : 200 < s → s < 800 → K s ≡ s - 200
  unfolding K
  between h k = rw (lt-leb s 200 h, lt-leb 800 s k)

  -- no K is above 600
  pub k_most : K s ≤ 600
  k_most = go (dec_le s 200) (dec_le 800 s)
    where
      go : Dec (s ≤ 200) → Dec (800 ≤ s) → K s ≤ 600
      go (yes low) high = omega (arith, none low)
      go (no low) (yes high) = omega (arith, full (omega arith) high)
      go (no low) (no high) = omega (arith, between (omega arith) (omega arith))
