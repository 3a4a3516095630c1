-- The total handed to printing is the sum over the point lines' figures. Assumes nothing.
use Prim.Native.Nat.{ℕ}
use mathlib.Core.Path.{◌≡◌, refl, ap, ◌∙◌}
use mathlib.Core.List.{List}
use lib.ListN.{take}
use Rattle.book.specs.declared.Book.{Book}
use Rattle.std.specs.Prelude.{Result, Ok, Err, IfOk}
use Rattle.posting.specs.Posting.{posting}
use Rattle.statement_text.specs.declared.Line.{Line}
use Rattle.statement_text.specs.declared.Statement.{Statement}
use Rattle.statement_total.specs.Total.{figure_of, sum, total_line}
use Rattle.statement_total.proofs.Sums.{total_column}
use Rattle.report.specs.Statement.{of_book, own_lent, statement, TotalIsSum}
use Rattle.report.proofs.Statements.{statement_has}

-- a statement's total is that of the lines that are printed
abbrev Summed : Result Statement ℕ → Type 0
Summed r = IfOk r (λ s. s.total ≡ total_line (take s.count s.lines))

-- a book's is so by its definition
book_summed : (b : Book) → (of_book b).total ≡ total_line (take (of_book b).count (of_book b).lines)
unfolding of_book
book_summed b = refl

-- and so is every statement's
statement_summed : (input : List ℕ) → Summed (statement input)
statement_summed input =
    let r = posting input own_lent in statement_has Summed input (book_summed r.book) tt (λ h p. tt)

-- column by column
pub total_is_sum : TotalIsSum
total_is_sum input c = by_column (statement input) (statement_summed input)
  where
    by_column : (r : Result Statement ℕ) → Summed r → IfOk r (λ s. figure_of s.total c ≡ sum c (take s.count s.lines))
    by_column (Ok s) h = ap (λ (l : Line). figure_of l c) h ∙ total_column (take s.count s.lines) c
    by_column (Err n) h = tt
