-- 02's share and K against source document 002. Assumes nothing.
use Prim.Native.Nat.{ℕ, ◌+◌, ◌*◌, ◌≤◌, ◌<◌}
use mathlib.Core.Path.{◌≡◌}
use mathlib.Core.Bool.{true}
use native.Mathlib.Decide.{dec_le}
use native.Mathlib.Nat.{mul-div-le, lt-mul-div-succ}
use native.Mathlib.Omega.{arith}
use borrow.Author.Tests.{lt-ltb, le-ltb}
use Rattle.quantity.specs.Fraction.{ratio, is_below, is_at_most}
use Rattle.basic_tariff.specs.BasicTariff.{share, K}
use Rattle.basic_tariff.specs.Source.{quota, fattore_K}
use Rattle.basic_tariff.specs.Claims.{WeightedAsIn002}
use Rattle.basic_tariff.proofs.Cases.{none, full, between}

factor : (s : ℕ) → K s * (fattore_K (ratio s 1000)).under ≡ (fattore_K (ratio s 1000)).over * 600
unfolding fattore_K
factor s = go (dec_le s 200) (dec_le 800 s)
  where
    go : Dec (s ≤ 200) → Dec (800 ≤ s) → K s * (fattore_K (ratio s 1000)).under ≡ (fattore_K (ratio s 1000)).over * 600
    go (yes low) high = rw (none s low, le-ltb (2 * 1000) (s * 10) (omega arith))
    go (no low) (yes high) =
        rw (full s (omega arith) high, lt-ltb (2 * 1000) (s * 10) (omega arith), le-ltb (s * 10) (8 * 1000) (omega arith))
    go (no low) (no high) =
        rw (between s (omega arith) (omega arith), lt-ltb (2 * 1000) (s * 10) (omega arith), lt-ltb (s * 10) (8 * 1000) (omega arith)) (omega arith)

-- The share s of d and f.
module _ (d f s : ℕ) where
  at_most : (d + f) * s ≤ 1000 * d → is_at_most (ratio s 1000) (quota d f) ≡ true
  unfolding quota
  at_most h = rw (le-ltb (d * 1000) (s * (f + d)) (omega arith))

  next-above : 1000 * d < (d + f) * (s + 1) → is_below (quota d f) (ratio (s + 1) 1000) ≡ true
  unfolding quota
  next-above h = lt-ltb (d * 1000) ((s + 1) * (f + d)) (omega arith)

pub weighted_as_in_002 : WeightedAsIn002
unfolding share
weighted_as_in_002 p h =
    record {
      share-at_most = at_most p.drawn p.fed_in (share p) (mul-div-le (1000 * p.drawn) (p.drawn + p.fed_in));
      next-above = next-above p.drawn p.fed_in (share p) (lt-mul-div-succ (1000 * p.drawn) h);
      factor = factor (share p);
    }
