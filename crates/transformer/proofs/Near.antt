-- The loss is less than 1 kvarh from the exact formula. Assumes nothing.
use Prim.Native.Nat.{◌+◌, ◌*◌, ◌<◌}
use mathlib.Core.Path.{◌≡◌, ap, ap₂, ◌∙◌}
use mathlib.Core.Bool.{Bool, true, ◌&&◌, ◌||◌}
use native.Mathlib.Omega.{arith}
use Rattle.quantity.specs.Fraction.{Fraction, ratio, whole, product, sum, square, difference}
use Rattle.transformer.specs.declared.LowSide.{LowSide}
use Rattle.transformer.specs.declared.DataSheet.{DataSheet}
use Rattle.transformer.specs.Surd.{surd, plus, surd_below, below_surd}
use Rattle.transformer.specs.Source.{QV, lost_energy}
use Rattle.transformer.specs.LowSide.{number, root, loss}
use Rattle.transformer.specs.Claims.{LessThanOne}
use Rattle.transformer.proofs.Reducing.{Reduces, itself, reduces_product, reduces_sum, reduces_difference, same_order}
use Rattle.transformer.specs.Steps.{squared_energy}
use Rattle.transformer.proofs.Reduced.{radicand, radicand_reduced, rational_reduced, factor_reduced}
use Rattle.transformer.proofs.Roots.{root_lower, root_upper}
use Rattle.transformer.proofs.Accepted.{accepted}
use Rattle.transformer.proofs.Bounds.{ranges, loss_lower, loss_upper}
use Rattle.transformer.proofs.Distance.{is_below, is_above}

-- comparisons of a number with a root in it are those of its reduced parts
module _ (a f q a' f' q' : Fraction) (ha : Reduces a a') (hf : Reduces f f') (hq : Reduces q q') where
  -- the square of the root's part
  rest : Reduces (product (square f) q) (product (square f') q')
  rest = reduces_product (square f) q (square f') q' (reduces_product f f f' f' hf hf) hq

  -- the square of what lies between a fraction and the rational part
  between : (p : Fraction) → Reduces (square (difference p a)) (square (difference p a'))
  between p =
      let d = reduces_difference p a p a' (itself p) ha in
      reduces_product (difference p a) (difference p a) (difference p a') (difference p a') d d

  same-below : (p : Fraction) → surd_below (surd a f q) p ≡ surd_below (surd a' f' q') p
  same-below p =
      ap₂ (λ (x y : Bool). x && y) (same_order a p a' p ha (itself p))
      (same_order (product (square f) q) (square (difference p a)) (product (square f') q') (square (difference p a')) rest (between p))

  same_above : (p : Fraction) → below_surd p (surd a f q) ≡ below_surd p (surd a' f' q')
  same_above p =
      ap₂ (λ (x y : Bool). x || y) (same_order p a p a' (itself p) ha)
      (same_order (square (difference p a)) (product (square f) q) (square (difference p a')) (product (square f') q') (between p) rest)

module _ (low : LowSide) (t : DataSheet) (e : number low t ≡ 0) where
  some : 0 < t.sn
  some = (ranges low t e).some

  radicand_reduces : Reduces (lost_energy low t).radicand (ratio (radicand t) (1000000000000 * (t.sn * t.sn)))
  unfolding lost_energy QV
  radicand_reduces =
      record {
        by = 1;
        positive = omega arith;
        over = ap (λ (q : Fraction). q.over) (radicand_reduced t) ∙ omega arith;
        under = ap (λ (q : Fraction). q.under) (radicand_reduced t) ∙ omega arith;
      }

  below : surd_below (lost_energy low t) (whole (loss low t + 1)) ≡ true
  below =
      same-below (lost_energy low t).rational (lost_energy low t).factor (lost_energy low t).radicand
      (ratio (t.i0 * t.sn) 400) (ratio (squared_energy low) (25 * t.sn)) (ratio (radicand t) (1000000000000 * (t.sn * t.sn)))
      (rational_reduced low t some) (factor_reduced low t some) radicand_reduces (whole (loss low t + 1))
      ∙ is_below t.sn (squared_energy low) (radicand t) (root t) t.i0 (loss low t)
      some (ranges low t e).power (accepted low t e).load (root_lower t some) (root_upper t some)
      (loss_lower low t e) (loss_upper low t e)

  above : below_surd (whole (loss low t)) (plus (lost_energy low t) (whole 1)) ≡ true
  above =
      same_above (sum (lost_energy low t).rational (whole 1)) (lost_energy low t).factor (lost_energy low t).radicand
      (sum (ratio (t.i0 * t.sn) 400) (whole 1)) (ratio (squared_energy low) (25 * t.sn)) (ratio (radicand t) (1000000000000 * (t.sn * t.sn)))
      (reduces_sum (lost_energy low t).rational (whole 1) (ratio (t.i0 * t.sn) 400) (whole 1) (rational_reduced low t some) (itself (whole 1)))
      (factor_reduced low t some) radicand_reduces (whole (loss low t))
      ∙ is_above t.sn (squared_energy low) (radicand t) (root t) t.i0 (loss low t)
      some (ranges low t e).power (accepted low t e).load (root_lower t some) (root_upper t some)
      (loss_lower low t e) (loss_upper low t e)

pub less_than_one : LessThanOne
less_than_one low t e = record { below = below low t e; above = above low t e }
