-- `statement_text::layout::columns` meets its contract.
use native.Mathlib.Omega.{arith}
use Rattle.statement_text.specs.Text.{ended, columns_text}
use Rattle.statement_text.proofs.Pages.{◌then◌}
use Rattle.statement_text.proofs.layout.columns.Goals as goal

pub returns : goal.returns
unfolding ended columns_text
returns c =
    let absolute = c.spaced.ensures.length_bound in
    let paid = c.spaced-2.ensures.length_bound in
    let free = c.spaced-3.ensures.length_bound in record {
      behind = c.spaced.ensures.behind
          then c.spaced-2.ensures.behind
          then c.spaced-3.ensures.behind
          then c.spaced-4.ensures.behind
          then c.spaced-5.ensures.behind
          then c.spaced-6.ensures.behind
          then c.spaced-7.ensures.behind
          then c.spaced-8.ensures.behind
          then c.end.ensures;
      length_bound = omega (arith, absolute, paid, free);
    }
