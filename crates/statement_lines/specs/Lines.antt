-- Document 01, "Statement": the figures of a point's line. Assumes nothing.
use Rattle.quantity.specs.Quantity.{rappen}
use Rattle.worth.specs.declared.Figures.{Figures}
use Rattle.statement_text.specs.declared.Line.{Line}

-- "absolute, paid, free, billed, allowance, disconnected in grains, credit and debit in rappen, (amount + 800,000) divided by
-- 1,600,000, rounded down"
unfoldable pub line_of : Figures → Line
line_of f =
    record {
      absolute = f.absolute.0;
      paid = f.paid.0;
      free = f.free.0;
      billed = f.billed.0;
      allowance = f.allowance.0;
      disconnected = f.disconnected.0;
      credit = rappen f.credit.0;
      debit = rappen f.debit.0;
    }
