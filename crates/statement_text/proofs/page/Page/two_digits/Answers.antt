-- `statement_text::page::Page::two_digits` meets its contract.
use native.Mathlib.Omega.{arith}
use Rattle.statement_text.specs.Text.{two_digits}
use Rattle.statement_text.proofs.Pages.{◌then◌}
use Rattle.statement_text.proofs.page.Page.two_digits.Goals as goal

pub returns : goal.returns
unfolding two_digits
returns c = record { behind = c.byte.ensures then c.byte-2.ensures; length_value = omega arith }
