-- The eight figures of document 01's totals as numbers, one column at a time. Assumes nothing.
use Rattle.std.specs.Prelude.{ℕ, Bool, ◌&&◌, eqb}
use Rattle.quantity.specs.Quantity.{grains, amount}
use Rattle.worth.specs.declared.Figures.{Figures}

-- "absolute, paid, free, billed, allowance, disconnected, credit, debit"
pub data Column : Type 0 where
  Absolute : Column
  Paid : Column
  Free : Column
  Billed : Column
  Allowance : Column
  Disconnected : Column
  Credit : Column
  Debit : Column

-- the figure in a column
abbrev pub figure : Figures → Column → ℕ
figure f Absolute = f.absolute.0
figure f Paid = f.paid.0
figure f Free = f.free.0
figure f Billed = f.billed.0
figure f Allowance = f.allowance.0
figure f Disconnected = f.disconnected.0
figure f Credit = f.credit.0
figure f Debit = f.debit.0

-- the figures that have these numbers in their columns
abbrev pub each : (Column → ℕ) → Figures
each n =
    record {
      absolute = grains (n Absolute);
      paid = grains (n Paid);
      free = grains (n Free);
      billed = grains (n Billed);
      allowance = grains (n Allowance);
      disconnected = grains (n Disconnected);
      credit = amount (n Credit);
      debit = amount (n Debit);
    }

abbrev pub nothing : Figures
nothing = each (λ c. 0)

-- whether two figures have the same number in each column
unfoldable pub same : Figures → Figures → Bool
same f g =
    eqb f.absolute.0 g.absolute.0
    && eqb f.paid.0 g.paid.0
    && eqb f.free.0 g.free.0
    && eqb f.billed.0 g.billed.0
    && eqb f.allowance.0 g.allowance.0
    && eqb f.disconnected.0 g.disconnected.0
    && eqb f.credit.0 g.credit.0
    && eqb f.debit.0 g.debit.0
