-- How large the loss and what it is made of can be, for fields that are converted. Assumes nothing.
use Prim.Native.Nat.{ℕ, ◌+◌, ◌*◌, ◌≤◌, ◌<◌, ◌^◌}
use mathlib.Core.Path.{◌≡◌, refl, sym, ap₂, subst, ◌∙◌}
use mathlib.Core.Bool.{Bool, true, false}
use native.Mathlib.Nat.{lt_of_le_of_lt, mul-le-mul, mul-le-mul_left, mul-le-mul_right, mul-lt-mul_of_pos_right, mul-div-le, lt-mul-div-succ}
use native.Mathlib.Omega.{arith}
use borrow.Author.Tests.{leb-true, leb-false, ltb-false}
use lib.Dec.{leb}
use mir.Syntax.{w64}
use mir.Val.{Fits}
use Rattle.quantity.specs.Fraction.{ratio, nearest}
use Rattle.transformer.specs.declared.LowSide.{LowSide}
use Rattle.transformer.specs.declared.DataSheet.{DataSheet}
use Rattle.transformer.specs.LowSide.{uk_below_U_R, number, root, loss}
use Rattle.transformer.specs.Steps.{squared_energy}
use Rattle.transformer.proofs.Reduced.{radicand, uk_reduced, loss_reduced}
use Rattle.transformer.proofs.Roots.{square_lt, root_most}
use Rattle.transformer.proofs.Accepted.{Sheet, sheet, accepted}

-- a product of bounded numbers does not wrap
pub product_fits : (a b m n : ℕ) → a ≤ m → b ≤ n → m * n < 2 ^ 64 → Fits w64 (a * b)
product_fits a b m n h k w = record { fits = lt_of_le_of_lt (mul-le-mul h k) w }

-- What the root is taken of.
module _ (t : DataSheet) (s : Sheet t) where
  pub voltage_most : 100 * t.uk * t.sn ≤ 2000000000
  voltage_most = mul-le-mul {n₁ = 100 * t.uk} {n₂ = 400000} (omega (arith, s.voltage)) s.power

  pub copper_most : 10000 * t.copper ≤ 40000000
  copper_most = omega (arith, s.losses)

  pub radicand_lt : radicand t < 400001 * t.sn * (400001 * t.sn)
  radicand_lt =
      let side : 100 * t.uk * t.sn < 400001 * t.sn = mul-lt-mul_of_pos_right (omega (arith, s.voltage)) s.some in
      omega (arith, square_lt (100 * t.uk * t.sn) (400001 * t.sn) side)

  pub idle_most : 62500 * t.i0 * t.sn ≤ 1250000000000
  idle_most = mul-le-mul {n₁ = 62500 * t.i0} {n₂ = 250000000} (omega (arith, s.current)) s.power

  -- the load's part and the no-load part together
  pub over_fits : (n r : ℕ) → n ≤ 62500000000 → r ≤ 400000 → Fits w64 (n * r + 62500 * t.i0 * t.sn * t.sn)
  over_fits n r h k = record { fits = omega (arith, mul-le-mul h k, mul-le-mul idle_most s.power) }

  -- uk is not below uR
  pub copper_below : uk_below_U_R t ≡ false → 10000 * t.copper * (10000 * t.copper) ≤ 100 * t.uk * t.sn * (100 * t.uk * t.sn)
  copper_below h =
      let k : 10000 * t.copper ≤ 100 * t.uk * t.sn =
      omega (arith, ltb-false (t.uk * t.sn) (100 * t.copper) (sym (uk_reduced t) ∙ h))
      in
      mul-le-mul k k

-- the nearest whole number is at most half a unit away
nearest_lower : (o u : ℕ) → 2 * u * nearest (ratio o u) ≤ 2 * o + u
nearest_lower o u = mul-div-le (2 * o + u) (2 * u)

nearest_upper : (o u : ℕ) → 0 < u → 2 * o + u < 2 * u * (nearest (ratio o u) + 1)
nearest_upper o u h = lt-mul-div-succ (2 * o + u) (omega arith)

module _ (low : LowSide) (t : DataSheet) (e : number low t ≡ 0) where
  pub ranges : Sheet t
  ranges = sheet t (accepted low t e).ranges

  pub squares_most : squared_energy low ≤ 62500000000
  squares_most =
      let side : 50 * t.sn ≤ 250000 = omega (arith, ranges.power) in
      omega (arith, (accepted low t e).load, mul-le-mul side side)

  pub root_fits : root t ≤ 400000
  root_fits = omega (arith, root_most t ranges.some, ranges.voltage)

  -- the loss is at most half a kvarh from the fraction that it is rounded from
  pub loss_lower : 2 * (25000000 * t.sn) * loss low t ≤ 2 * (squared_energy low * root t + 62500 * t.i0 * t.sn * t.sn) + 25000000 * t.sn
  loss_lower =
      rw (loss_reduced low t ranges.some)
      (nearest_lower (squared_energy low * root t + 62500 * t.i0 * t.sn * t.sn) (25000000 * t.sn))

  pub loss_upper : 2 * (squared_energy low * root t + 62500 * t.i0 * t.sn * t.sn) + 25000000 * t.sn < 2 * (25000000 * t.sn) * (loss low t + 1)
  loss_upper =
      rw (loss_reduced low t ranges.some)
      (nearest_upper (squared_energy low * root t + 62500 * t.i0 * t.sn * t.sn) (25000000 * t.sn) (omega (arith, ranges.some)))

  -- 50 times Sn at most
  pub loss_most : loss low t ≤ 250000
  loss_most = go (leb (loss low t) (50 * t.sn)) refl
    where
      go : (b : Bool) → leb (loss low t) (50 * t.sn) ≡ b → loss low t ≤ 250000
      go true h = omega (arith, leb-true (loss low t) (50 * t.sn) h, ranges.power)
      go false h =
          let load : squared_energy low * root t ≤ 50 * t.sn * (50 * t.sn) * 400000 = mul-le-mul (accepted low t e).load root_fits in
          let idle : t.i0 * (t.sn * t.sn) ≤ 4000 * (t.sn * t.sn) = mul-le-mul_right (t.sn * t.sn) ranges.current in
          let more : 2 * (25000000 * t.sn) * (50 * t.sn + 1) ≤ 2 * (25000000 * t.sn) * loss low t =
          mul-le-mul_left (2 * (25000000 * t.sn)) (omega (arith, leb-false (loss low t) (50 * t.sn) h))
          in
          absurd (omega (arith, loss_lower, ranges.some))

-- the loss, from what its parts are found to be
pub loss-found : (low : LowSide) (t : DataSheet) → number low t ≡ 0 → (n r x : ℕ) → n ≡ squared_energy low → r ≡ root t
    → x ≡ nearest (ratio (n * r + 62500 * t.i0 * t.sn * t.sn) (25000000 * t.sn))
    → (x ≡ loss low t) × (x ≤ 250000)
loss-found low t e n r x en er ex = (found, subst (λ (i : ℕ). i ≤ 250000) (sym found) (loss_most low t e))
  where
    found : x ≡ loss low t
    found =
        ex
        ∙ ap₂ (λ (i j : ℕ). nearest (ratio (i * j + 62500 * t.i0 * t.sn * t.sn) (25000000 * t.sn))) en er
        ∙ sym (loss_reduced low t (ranges low t e).some)
