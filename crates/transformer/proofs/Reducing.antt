-- Fractions that reduce to others: sums, products and differences of them do, and order and rounding are the same. Assumes nothing.
use Prim.Native.Nat.{ℕ, ◌+◌, ◌*◌, ◌/◌, ◌<◌}
use mathlib.Core.Path.{◌≡◌, refl, sym, ap, ◌∙◌}
use mathlib.Core.Bool.{Bool, true, false}
use native.Mathlib.Nat.{mul-pos, mul-sub, mul-le-mul_left, mul-lt-mul_of_pos_left, mul-div-mul_left}
use native.Mathlib.Omega.{arith}
use borrow.Author.Tests.{ltb-true, ltb-false, lt-ltb, le-ltb}
use lib.Dec.{ltb}
use Rattle.quantity.specs.Fraction.{Fraction, product, sum, difference, is_below, nearest}

-- a fraction with so many times as much over and under its line as another
pub record Reduces (p q : Fraction) : Type 0 where
  pub by : ℕ
  pub positive : 0 < by
  pub over : p.over ≡ by * q.over
  pub under : p.under ≡ by * q.under

-- two factors of a product, each so many times another number
exchange : (k m a b x y : ℕ) → x ≡ k * a → y ≡ m * b → x * y ≡ k * m * (a * b)
exchange k m a b x y e f = rw (e, f) (omega arith)

-- the order of two numbers, each taken so many times
pub scaled : (k a b : ℕ) → 0 < k → ltb (k * a) (k * b) ≡ ltb a b
scaled k a b h = go (ltb a b) refl
  where
    go : (t : Bool) → ltb a b ≡ t → ltb (k * a) (k * b) ≡ t
    go true e = lt-ltb (k * a) (k * b) (mul-lt-mul_of_pos_left (ltb-true a b e) h)
    go false e = le-ltb (k * a) (k * b) (mul-le-mul_left k (ltb-false a b e))

pub same_test : (k a b x y : ℕ) → 0 < k → x ≡ k * a → y ≡ k * b → ltb x y ≡ ltb a b
same_test k a b x y h e f = rw (e, f) (scaled k a b h)

pub itself : (p : Fraction) → Reduces p p
itself p = record { by = 1; positive = omega arith; over = omega arith; under = omega arith }

module _ (p q p' q' : Fraction) (h : Reduces p p') (k : Reduces q q') where
  both : 0 < h.by * k.by
  both = mul-pos h.positive k.positive

  -- what stands on either side when two fractions are compared or added
  left : p.over * q.under ≡ h.by * k.by * (p'.over * q'.under)
  left = exchange h.by k.by p'.over q'.under p.over q.under h.over k.under

  right : q.over * p.under ≡ h.by * k.by * (q'.over * p'.under)
  right =
      exchange k.by h.by q'.over p'.under q.over p.under k.over h.under ∙ omega arith

  line : p.under * q.under ≡ h.by * k.by * (p'.under * q'.under)
  line = exchange h.by k.by p'.under q'.under p.under q.under h.under k.under

  pub reduces_product : Reduces (product p q) (product p' q')
  reduces_product =
      record {
        by = h.by * k.by;
        positive = both;
        over = exchange h.by k.by p'.over q'.over p.over q.over h.over k.over;
        under = line;
      }

  pub reduces_sum : Reduces (sum p q) (sum p' q')
  reduces_sum = record { by = h.by * k.by; positive = both; over = rw (left, right) (omega arith); under = line }

  pub reduces_difference : Reduces (difference p q) (difference p' q')
  reduces_difference =
      record {
        by = h.by * k.by;
        positive = both;
        over = rw (left, right) (sym (mul-sub (h.by * k.by) (p'.over * q'.under) (q'.over * p'.under)));
        under = line;
      }

  -- the order is the same
  pub same_order : is_below p q ≡ is_below p' q'
  same_order = rw (left, right) (scaled (h.by * k.by) (p'.over * q'.under) (q'.over * p'.under) both)

-- and so is the nearest whole number
pub same-nearest : (p p' : Fraction) → Reduces p p' → nearest p ≡ nearest p'
same-nearest p p' h =
    rw (h.over, h.under)
    (ap (λ (x : ℕ). x / (2 * (h.by * p'.under))) front
    ∙ ap (λ (x : ℕ). h.by * (2 * p'.over + p'.under) / x) back
    ∙ mul-div-mul_left (2 * p'.over + p'.under) (2 * p'.under) h.positive)
  where
    front : 2 * (h.by * p'.over) + h.by * p'.under ≡ h.by * (2 * p'.over + p'.under)
    front = omega arith

    back : 2 * (h.by * p'.under) ≡ h.by * (2 * p'.under)
    back = omega arith
