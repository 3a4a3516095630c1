-- `book::Book::try_close` meets its contract.
use mathlib.Core.Path.{sym, ap, ◌∙◌}
use borrow.Author.Rules.{rules}
use Rattle.answers.specs.Numbers.{answered}
use Rattle.machine.specs.Machine.{close}
use Rattle.book.specs.Library.{lent}
use Rattle.book.proofs.Closing.{closed_already, closed_now}
use Rattle.book.proofs.Numbers.{guarded, judged_refused}
use Rattle.book.proofs.Sound.{Sound}
use Rattle.book.proofs.Book.try_close.Goals.{In_ok-judge}
use Rattle.book.proofs.Book.try_close.Goals as goal

-- the book was judged, and is sound
lawful : (c : In_ok-judge) → Sound c.args.self.now (lent c.args.journal.now c.args.index.now)
lawful c = guarded _ _ (sym c.judge.ensures ∙ ap answered c.in_ok-judge.was)

pub returns-in_err-judge : goal.returns-in_err-judge
returns-in_err-judge c = judged_refused _ _ close c.in_err-judge.was c.judge.ensures (search rules)

pub returns-then-self : goal.returns-then-self
returns-then-self c = closed_already _ _ (lawful (goal.at.returns-then-self c).In_ok-judge) c.if-self.true

pub returns : goal.returns
returns c = closed_now _ _ (lawful (goal.at.returns c).In_ok-judge) c.if-self.false
