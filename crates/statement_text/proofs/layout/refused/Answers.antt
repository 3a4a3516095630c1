-- `statement_text::layout::refused` meets its contract.
use native.Mathlib.Omega.{arith}
use Rattle.statement_text.specs.Text.{ended, refused_text}
use Rattle.statement_text.proofs.Pages.{◌then◌}
use Rattle.statement_text.proofs.layout.refused.Goals as goal

pub returns : goal.returns
unfolding ended refused_text
returns c = record { behind = c.word.ensures then c.spaced.ensures.behind then c.end.ensures; length_bound = omega arith }
