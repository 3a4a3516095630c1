-- `book::Book::totals` meets its contract.
use mathlib.Core.Path.{◌≡◌, sym, ap, ◌∙◌}
use borrow.Author.Rules.{rules}
use Rattle.std.specs.Prelude.{Err}
use Rattle.answers.specs.Numbers.{answered}
use Rattle.book.specs.Library.{totals_answer}
use Rattle.book.proofs.Closing.{given_nothing, given-totals}
use Rattle.book.proofs.Book.totals.Goals as goal

pub returns-in_err-judge : goal.returns-in_err-judge
returns-in_err-judge c =
    let same : c.from_residual.result ≡ Err c.in_err-judge.field-0.0 = search rules in
    ap totals_answer same ∙ given_nothing _ _ _ (sym (ap answered c.in_err-judge.was) ∙ c.judge.ensures)

pub returns : goal.returns
returns c = given-totals _ _ (sym (ap answered c.in_ok-judge.was) ∙ c.judge.ensures)
