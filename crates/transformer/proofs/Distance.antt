-- How far the rounded loss is from the exact one, in whole numbers. Assumes nothing.
use Prim.Native.Nat.{ℕ, ◌+◌, ◌-◌, ◌*◌, ◌≤◌, ◌<◌}
use mathlib.Core.Path.{◌≡◌, refl, ap, ap₂}
use mathlib.Core.Bool.{Bool, true, false, ◌&&◌}
use native.Mathlib.Nat.{mul-le-mul, mul-le-mul_left, mul-lt-mul_of_pos_right}
use native.Mathlib.Omega.{arith}
use borrow.Author.Tests.{ltb-true, ltb-false, lt-ltb}
use lib.Dec.{ltb}
use Rattle.quantity.specs.Fraction.{ratio, whole}
use Rattle.transformer.specs.Surd.{Surd, surd, plus, surd_below, below_surd}
use Rattle.transformer.proofs.Roots.{square_lt}

-- s is Sn, n the square of the energies, m the radicand, r its root, c the no-load current and l the loss
module _ (s n m r c l : ℕ) (some : 1 ≤ s) (power : s ≤ 5000) (load : n ≤ 50 * s * (50 * s))
    (lower : r * s * (r * s) ≤ m) (upper : m < (r + 1) * s * ((r + 1) * s))
    (under : 2 * (25000000 * s) * l ≤ 2 * (n * r + 62500 * c * s * s) + 25000000 * s)
    (over : 2 * (n * r + 62500 * c * s * s) + 25000000 * s < 2 * (25000000 * s) * (l + 1)) where
  -- 15 keeps the energies so small that one millionth of the root is at most half a kvarh
  small : 2 * n ≤ 25000000 * s
  small = let k : s * s ≤ 5000 * s = mul-le-mul power (omega arith) in omega arith

  -- the no-load part is below the loss and 1
  pub rational-below : c * s < (l + 1) * 400
  rational-below = go (ltb (c * s) ((l + 1) * 400)) refl
    where
      go : (b : Bool) → ltb (c * s) ((l + 1) * 400) ≡ b → c * s < (l + 1) * 400
      go true e = ltb-true (c * s) ((l + 1) * 400) e
      go false e =
          let k : 62500 * s * ((l + 1) * 400) ≤ 62500 * s * (c * s) = mul-le-mul_left (62500 * s) (ltb-false (c * s) ((l + 1) * 400) e) in
          absurd (omega arith)

  -- y is what lies between the two: the root's part is below it
  pub rest_below : (y : ℕ) → y + c * s ≡ (l + 1) * 400
      → n * n * m * (400 * 400) < y * y * (25 * s * (25 * s) * (1000000000000 * (s * s)))
  rest_below y e =
      let split : s * (y + c * s) ≡ s * ((l + 1) * 400) = ap (λ (x : ℕ). s * x) e in
      let first : n * (r + 1) < 62500 * s * y = omega (arith, small) in
      let squared = square_lt (n * (r + 1) * s) (62500 * s * y * s) (mul-lt-mul_of_pos_right first some) in
      let root : n * n * m ≤ n * n * ((r + 1) * s * ((r + 1) * s)) = mul-le-mul_left (n * n) (omega arith) in
      omega arith

  -- z is what the loss has more than the no-load part and 1: the root's part is above it
  pub rest_above : (z : ℕ) → z + (c * s + 400) ≡ l * 400
      → z * z * (25 * s * (25 * s) * (1000000000000 * (s * s))) < n * n * m * (400 * 400)
  rest_above z e =
      let split : s * (z + (c * s + 400)) ≡ s * (l * 400) = ap (λ (x : ℕ). s * x) e in
      let first : 62500 * s * z < n * r = omega arith in
      let squared = square_lt (62500 * s * z * s) (n * r * s) (mul-lt-mul_of_pos_right first some) in
      let root : n * n * (r * s * (r * s)) ≤ n * n * m = mul-le-mul_left (n * n) lower in
      omega arith

  -- the exact loss, reduced
  abbrev pub exact : Surd
  exact = surd (ratio (c * s) 400) (ratio n (25 * s)) (ratio m (1000000000000 * (s * s)))

  pub is_below : surd_below exact (whole (l + 1)) ≡ true
  is_below =
      let y = (l + 1) * 400 - c * s * 1 in
      ap₂ (λ (a b : Bool). a && b)
      (lt-ltb (c * s * 1) ((l + 1) * 400) (omega (arith, rational-below)))
      (lt-ltb (n * n * m * 160000) (y * y * (25 * s * (25 * s) * (1000000000000 * (s * s)))) (rest_below y (omega (arith, rational-below))))

  pub is_above : below_surd (whole l) (plus exact (whole 1)) ≡ true
  is_above = go (ltb (l * 400) ((c * s * 1 + 400) * 1)) refl
    where
      go : (b : Bool) → ltb (l * 400) ((c * s * 1 + 400) * 1) ≡ b → below_surd (whole l) (plus exact (whole 1)) ≡ true
      go true h = rw h
      go false h =
          let k = ltb-false (l * 400) ((c * s * 1 + 400) * 1) h in
          let z = l * 400 - (c * s * 1 + 400) * 1 in
          rw h
          (lt-ltb (z * z * (25 * s * (25 * s) * (1000000000000 * (s * s)))) (n * n * m * 160000) (rest_above z (omega arith)))
