-- The two tests of a number with a root in it are those of fractions where the root is one. Assumes nothing.
use Prim.Native.Nat.{ℕ, ◌+◌, ◌-◌, ◌*◌, ◌≤◌, ◌<◌}
use mathlib.Core.Path.{◌≡◌, refl, sym, ap, ap₂, ◌∙◌}
use mathlib.Core.Bool.{Bool, true, false, ◌&&◌, ◌||◌}
use native.Mathlib.Nat.{mul_assoc, add-mul, mul-pos, mul-le-mul, mul-le-mul_right, mul-lt-mul_of_pos_right}
use native.Mathlib.Omega.{arith}
use borrow.Author.Tests.{ltb-true, ltb-false, lt-ltb, le-ltb}
use lib.Dec.{ltb}
use Rattle.transformer.specs.Claims.{OrderOfRoots}
use Rattle.transformer.proofs.Roots.{square_lt}

-- squares are in the order of their sides
squares_order : (x y : ℕ) → ltb (x * x) (y * y) ≡ ltb x y
squares_order x y = go (ltb x y) refl
  where
    go : (b : Bool) → ltb x y ≡ b → ltb (x * x) (y * y) ≡ b
    go true e = lt-ltb (x * x) (y * y) (square_lt x y (ltb-true x y e))
    go false e = le-ltb (x * x) (y * y) (mul-le-mul (ltb-false x y e) (ltb-false x y e))

-- and numbers stay in order when the same is added to both
added : (k x y : ℕ) → ltb (k + x) (k + y) ≡ ltb x y
added k x y = go (ltb x y) refl
  where
    go : (b : Bool) → ltb x y ≡ b → ltb (k + x) (k + y) ≡ b
    go true e = lt-ltb (k + x) (k + y) (omega (arith, ltb-true x y e))
    go false e = le-ltb (k + x) (k + y) (omega (arith, ltb-false x y e))

-- The rational part is a over e, the root's part f · s over g, and the fraction p over r.
module _ (a e f s g p r : ℕ) (some : 0 < g) where
  left : (a * g + f * s * e) * r ≡ a * r * g + f * s * (r * e)
  left = omega arith

  -- the fraction is not below the rational part, and has so much more
  right : a * r ≤ p * e → p * (e * g) ≡ a * r * g + (p * e - a * r) * g
  right h =
      let whole : p * e ≡ a * r + (p * e - a * r) = omega arith in
      sym (mul_assoc p e g) ∙ ap (λ (x : ℕ). x * g) whole ∙ add-mul (a * r) (p * e - a * r) g

  below : (b : Bool) → ltb (a * r) (p * e) ≡ b
      → (ltb (a * r) (p * e) && ltb (f * s * (r * e)) ((p * e - a * r) * g)) ≡ ltb ((a * g + f * s * e) * r) (p * (e * g))
  below true h =
      rw (h, left, right (omega (arith, ltb-true (a * r) (p * e) h)))
      (sym (added (a * r * g) (f * s * (r * e)) ((p * e - a * r) * g)))
  below false h =
      let more : p * e * g ≤ a * r * g = mul-le-mul_right g (ltb-false (a * r) (p * e) h) in
      rw h (sym (le-ltb ((a * g + f * s * e) * r) (p * (e * g)) (omega arith)))

  above : (b : Bool) → ltb (p * e) (a * r) ≡ b
      → (ltb (p * e) (a * r) || ltb ((p * e - a * r) * g) (f * s * (r * e))) ≡ ltb (p * (e * g)) ((a * g + f * s * e) * r)
  above true h =
      let less : p * e * g < a * r * g = mul-lt-mul_of_pos_right (ltb-true (p * e) (a * r) h) some in
      rw h (sym (lt-ltb (p * (e * g)) ((a * g + f * s * e) * r) (omega arith)))
  above false h =
      rw (h, left, right (ltb-false (p * e) (a * r) h))
      (sym (added (a * r * g) ((p * e - a * r) * g) (f * s * (r * e))))

pub order_of_roots : OrderOfRoots
order_of_roots a f r q h k =
    record {
      below =
          ap (λ (b : Bool). ltb (a.over * q.under) (q.over * a.under) && b)
          (ap₂ ltb left_square right_square ∙ squares_order (f.over * r.over * (q.under * a.under)) (d * (f.under * r.under)))
          ∙ below a.over a.under f.over r.over (f.under * r.under) q.over q.under (mul-pos h k)
          (ltb (a.over * q.under) (q.over * a.under)) refl;
      above =
          ap (λ (b : Bool). ltb (q.over * a.under) (a.over * q.under) || b)
          (ap₂ ltb right_square left_square ∙ squares_order (d * (f.under * r.under)) (f.over * r.over * (q.under * a.under)))
          ∙ above a.over a.under f.over r.over (f.under * r.under) q.over q.under (mul-pos h k)
          (ltb (q.over * a.under) (a.over * q.under)) refl;
    }
  where
    d : ℕ
    d = q.over * a.under - a.over * q.under

    left_square : f.over * f.over * (r.over * r.over) * (q.under * a.under * (q.under * a.under))
        ≡ f.over * r.over * (q.under * a.under) * (f.over * r.over * (q.under * a.under))
    left_square = omega arith

    right_square : d * d * (f.under * f.under * (r.under * r.under)) ≡ d * (f.under * r.under) * (d * (f.under * r.under))
    right_square = omega arith
