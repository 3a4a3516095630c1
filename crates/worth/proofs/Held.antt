-- A quarter-hour's figures: the five shares are all of the absolute energy, and within 01's ranges no amount is cut off and no figure
-- exceeds the largest debit.
-- Assumes nothing.
use Prim.Native.Nat.{◌+◌, ◌≤◌}
use mathlib.Core.Path.{◌≡◌, ap}
use mathlib.Core.Bool.{true}
use native.Mathlib.Omega.{arith}
use Rattle.quarter.specs.declared.Metered.{Metered}
use Rattle.quarter.specs.declared.Tariffs.{Tariffs}
use Rattle.quarter.specs.Reading.{absolute}
use Rattle.quarter.specs.Agreement.{total}
use Rattle.quarter.specs.Ranges.{tariffs_in_range, metered_in_range}
use Rattle.quarter.proofs.Conservation.{conserved, absolute_most, credit_most, debit_most, exact}
use Rattle.point_record.specs.declared.Point.{Point}
use Rattle.worth.specs.Figures.{Column, Absolute, Paid, Free, Billed, Allowance, Disconnected, Credit, Debit, figure}
use Rattle.worth.specs.Worth.{role_of, put, shares_of, worth, worth_held}

-- paid, free, billed, allowance and disconnected are all of the absolute energy, and nothing else
pub balanced : (p : Point) (t : Tariffs) (m : Metered)
    → figure (worth p t m) Paid + figure (worth p t m) Free + figure (worth p t m) Billed + figure (worth p t m) Allowance
    + figure (worth p t m) Disconnected
    ≡ figure (worth p t m) Absolute
unfolding worth total
balanced p t m = conserved (role_of p) p.level m

-- What was metered in range, valued at tariffs in the range of the point's role.
module _ (p : Point) (t : Tariffs) (m : Metered) (ht : tariffs_in_range p.semi_active t ≡ true) (hm : metered_in_range m ≡ true) where
  -- 64 bits hold both amounts
  pub held : worth_held p t m ≡ worth p t m
  unfolding worth_held worth
  held = ap (put (absolute m) (shares_of p m)) (exact (role_of p) p.level m t hm p.semi_active ht)

  -- at most 1,000,000 kvarh
  energy_most : figure (worth p t m) Absolute ≤ 1600000000
  unfolding worth
  energy_most = absolute_most m hm

  -- no figure exceeds 1,000,000 kvarh, billed at a tariff of 100,000 and a penalty of 100,000
  pub most : (c : Column) → figure (worth p t m) c ≤ 320000000000000
  most Absolute = omega (arith, energy_most)
  most Paid = omega (arith, energy_most, balanced p t m)
  most Free = omega (arith, energy_most, balanced p t m)
  most Billed = omega (arith, energy_most, balanced p t m)
  most Allowance = omega (arith, energy_most, balanced p t m)
  most Disconnected = omega (arith, energy_most, balanced p t m)
  most Credit = unfold worth in omega (arith, credit_most (role_of p) p.level m t hm p.semi_active ht)
  most Debit = unfold worth in debit_most (role_of p) p.level m t hm p.semi_active ht
