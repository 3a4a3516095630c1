-- `statement_text::layout::month` meets its contract.
use native.Mathlib.Omega.{arith}
use Rattle.statement_text.specs.Text.{ended, month_text}
use Rattle.statement_text.proofs.Pages.{◌then◌}
use Rattle.statement_text.proofs.layout.month.Goals as goal

pub returns : goal.returns
unfolding ended month_text
returns c = record {
  behind = c.number.ensures.behind
      then c.byte.ensures
      then c.two_digits.ensures.behind
      then c.spaced.ensures.behind
      then c.spaced-2.ensures.behind
      then c.end.ensures;
  length_bound = omega arith;
}
