-- `book::Book::try_take_back` meets its contract.
use borrow.Author.Rules.{rules}
use Rattle.machine.specs.Machine.{take_back}
use Rattle.book.proofs.Numbers.{judged_refused}
use Rattle.book.proofs.Book.try_take_back.Goals as goal

pub returns-in_err-judge : goal.returns-in_err-judge
returns-in_err-judge c = judged_refused _ _ take_back c.in_err-judge.was c.judge.ensures (search rules)
