-- `report::report` meets its contract.
use Rattle.report.specs.Statement.{of_book}
use Rattle.report.proofs.report.Goals as goal

pub returns : goal.returns
unfolding of_book
returns c = rw (c.quarters_of_month.ensures, c.total_of.ensures, c.lines_of-lines.ensures)
