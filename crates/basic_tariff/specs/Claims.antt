-- What is claimed of 02's weight of a point: against source document 002. Assumes nothing.
use Rattle.std.specs.Prelude.{◌+◌, ◌*◌, ◌<◌, ◌≡◌, true}
use Rattle.quantity.specs.Fraction.{ratio, is_below, is_at_most}
use Rattle.basic_tariff.specs.BasicTariff.{Point, share, K}
use Rattle.basic_tariff.specs.Source.{quota, fattore_K}

-- 002's share lies from 02's share to less than a thousandth more; and K over 600 is 002's factor at 02's share, both fractions
-- multiplied crosswise
pub record Weighted (p : Point) : Type 0 where
  pub share-at_most : is_at_most (ratio (share p) 1000) (quota p.drawn p.fed_in) ≡ true
  pub next-above : is_below (quota p.drawn p.fed_in) (ratio (share p + 1) 1000) ≡ true
  pub factor : K (share p) * (fattore_K (ratio (share p) 1000)).under ≡ (fattore_K (ratio (share p) 1000)).over * 600

abbrev pub WeightedAsIn002 : Type 0
WeightedAsIn002 = (p : Point) → 0 < p.drawn + p.fed_in → Weighted p
