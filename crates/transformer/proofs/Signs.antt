-- Signed numbers, as the code tests and works them out, and what becomes of a high-side energy in an entry. Assumes nothing.
use Prim.Native.Nat.{ℕ, ◌≤◌}
use mathlib.Core.Path.{◌≡◌}
use mathlib.Core.Bool.{true, false}
use native.Mathlib.Omega.{arith}
use lib.IntN.{ℤ, pos, nat_abs, ◌-ℤ◌}
use lib.Signed.{lt_z}
use mir.Syntax.{w32, w64}
use mir.Val.{SFits, to_z, of_z}
use Rattle.std.proofs.lemmas.Int.{ints}
use Rattle.transformer.specs.Source.{QOS}
use Rattle.transformer.specs.LowSide.{entered}

-- the loss less the low side's energy, in 64 bits
pub high_energy : (z x y : ℤ) (l : ℕ) → SFits w32 z → l ≤ 250000 → x ≡ pos l → y ≡ to_z w32 (of_z w32 z)
    → to_z w64 (of_z w64 (to_z w64 (of_z w64 x) -ℤ to_z w64 (of_z w64 y))) ≡ QOS z l
unfolding QOS
high_energy z x y l f h ex ey = omega (arith, ints)

-- What the code makes of an energy e of the size n, which it holds as x.
module _ (x e : ℤ) (n : ℕ) (same : x ≡ e) (size : n ≡ nat_abs x) where
  pub taken : lt_z (pos 0) x ≡ true → (n, 0) ≡ entered e
  unfolding entered
  taken h = rw (size, ← same, h)

  pub supplied : lt_z (pos 0) x ≡ false → (0, n) ≡ entered e
  unfolding entered
  supplied h = rw (size, ← same, h)
