-- The two bounds of a bisection. Assumes nothing.
use Prim.Native.Nat.{ℕ, ◌+◌, ◌-◌, ◌*◌, ◌/◌, ◌≤◌, ◌<◌}
use mathlib.Core.Path.{◌≡◌, subst}
use native.Mathlib.Nat.{mul-le-mul}
use native.Mathlib.Omega.{arith}

-- the radicand lies between the squares of two bounds, times Sn
abbrev pub Between : ℕ → ℕ → ℕ → ℕ → Type 0
Between s m low high = (low * s * (low * s) ≤ m) × ((m < high * s * (high * s)) × ((low < high) × (high ≤ 400001)))

module _ (s m low high : ℕ) (b : Between s m low high) where
  -- the number halfway, times Sn
  pub side_most : s ≤ 5000 → (low + high) / 2 * s ≤ 2000005000
  side_most h =
      let half : (low + high) / 2 ≤ 400001 = omega (arith, b.1.1.0, b.1.1.1) in
      mul-le-mul half h

  -- bounds that stand side by side
  pub narrowest : high ≤ low + 1
      → ((high - 1) * s * ((high - 1) * s) ≤ m) × ((m < (high - 1 + 1) * s * ((high - 1 + 1) * s)) × (high - 1 ≤ 400000))
  narrowest h =
      let e : low ≡ high - 1 = omega (arith, b.1.1.0) in
      let f : high ≡ high - 1 + 1 = omega (arith, b.1.1.0) in (
        subst (λ (x : ℕ). x * s * (x * s) ≤ m) e b.0,
        (subst (λ (x : ℕ). m < x * s * (x * s)) f b.1.0, omega (arith, b.1.1.1)),
      )
