-- Books with fields of any value, from a row of numbers. Assumes nothing.
use Rattle.std.specs.Prelude.{ℕ, ◌*◌, ◌%◌, cond, List, eqb, get_or, set}
use Rattle.quantity.specs.Quantity.{capped, grains, amount}
use Rattle.quarter.specs.declared.Transformer.{Transformer}
use Rattle.quarter.specs.Reading.{level_of}
use Rattle.point_record.specs.declared.Point.{Point}
use Rattle.worth.specs.declared.Figures.{Figures}
use Rattle.master_data.specs.declared.MasterData.{MasterData}
use Rattle.book.specs.declared.Book.{Book}
use Rattle.book.specs.Library.{with_totals}
use Rattle.forged_books.specs.declared.Forgery.{Forgery}
use Rattle.forged_books.specs.declared.Forgery.TheVariants.{Month, Record, Totals}

-- the number at a place of the row
abbrev pub at : List ℕ → ℕ → ℕ
at row i = get_or row i 0

-- a book with other master data
abbrev pub with_master : Book → MasterData → Book
with_master b m = record { master = m; length = b.length; closed = b.closed; totals = b.totals }

-- another month, count of points, length of L and mark
unfoldable pub with_month : Book → List ℕ → Book
with_month b row =
    record {
      master = record { year = at row 0 % 65536; month = at row 1 % 256; count = at row 2 % 256; points = b.master.points };
      length = at row 3;
      closed = eqb (at row 4) 1;
      totals = b.totals;
    }

-- a place of uk and Sn
abbrev pub place_of : ℕ → ℕ → Transformer
place_of uk sn = record { uk = uk % 65536; sn = sn % 65536 }

-- the point of a row, behind its place
unfoldable pub point_of : List ℕ → Point
point_of row =
    record {
      semi_active = eqb (at row 1) 1;
      level = level_of (at row 2);
      transformers = at row 3 % 256;
      tariffs = record { payment = at row 4 % 4294967296; billing = at row 5 % 4294967296; penalty = at row 6 % 4294967296 };
      first = place_of (at row 7) (at row 8);
      second = place_of (at row 9) (at row 10);
      third = place_of (at row 11) (at row 12);
      fourth = place_of (at row 13) (at row 14);
    }

-- another record of a point
unfoldable pub with_point : Book → List ℕ → Book
with_point b row =
    let m = b.master in
    with_master b
    (record { year = m.year; month = m.month; count = m.count; points = set m.points (at row 0 % 8) (point_of row) })

-- the figures of a row, behind its place
unfoldable pub figures_of : List ℕ → Figures
figures_of row =
    record {
      absolute = grains (at row 1);
      paid = grains (at row 2);
      free = grains (at row 3);
      billed = grains (at row 4);
      allowance = grains (at row 5);
      disconnected = grains (at row 6);
      credit = amount (capped 64 (at row 7 * 1));
      debit = amount (capped 64 (at row 8 * 1));
    }

-- other stored totals of a place
unfoldable pub with_figures : Book → List ℕ → Book
with_figures b row = with_totals b (set b.totals (at row 0 % 8) (figures_of row))

-- what a number names: 0 the month, 1 a point's record, any other number stored totals
abbrev pub forgery_of : ℕ → Forgery
forgery_of number = cond (eqb number 0) Month (cond (eqb number 1) Record Totals)

-- the book with what is forged taken from the row: month, count, length and mark, a point's record, or stored totals
abbrev pub forged : Book → Forgery → List ℕ → Book
forged b Month row = with_month b row
forged b Record row = with_point b row
forged b Totals row = with_figures b row
