-- `statement_text::layout::total` meets its contract.
use native.Mathlib.Omega.{arith}
use mathlib.Core.List.{append_assoc}
use Rattle.statement_text.specs.Text.{ended, line_text, total_text}
use Rattle.statement_text.proofs.Pages.{◌then◌}
use Rattle.statement_text.proofs.layout.total.Goals as goal

pub returns : goal.returns
unfolding ended line_text total_text
returns c = record { behind = rw append_assoc (c.word.ensures then c.columns.ensures.behind); length_bound = omega arith }
