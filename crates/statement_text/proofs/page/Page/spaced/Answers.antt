-- `statement_text::page::Page::spaced` meets its contract.
use native.Mathlib.Omega.{arith}
use Rattle.statement_text.specs.Text.{spaced}
use Rattle.statement_text.proofs.Pages.{◌then◌}
use Rattle.statement_text.proofs.page.Page.spaced.Goals as goal

pub returns : goal.returns
unfolding spaced
returns c = record { behind = c.byte.ensures then c.number.ensures.behind; length_bound = omega arith }
