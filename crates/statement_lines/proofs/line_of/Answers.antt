-- `statement_lines::line_of` meets its contract.
use Rattle.statement_lines.proofs.Filling.{made}
use Rattle.statement_lines.proofs.line_of.Goals as goal

pub returns : goal.returns
returns c =
    made _ _
    c.count.ensures
    c.count-2.ensures
    c.count-3.ensures
    c.count-4.ensures
    c.count-5.ensures
    c.count-6.ensures
    c.rappen.ensures
    c.rappen-2.ensures
