-- Document 01, "Statement", and document 02, Tickets 1, 4 and 6: what is printed. Assumes nothing.
use Rattle.std.specs.Prelude.{ℕ, ◌≡◌, true, cond, List, [], ◌∷◌, map, ltb, eqb, length, take, replicate, Result, Ok, Err, IfOk}
use Rattle.lists.specs.Lists.{any_of}
use Rattle.calendar.specs.Calendar.{quarters_of}
use Rattle.worth.specs.Figures.{Column}
use Rattle.index.specs.Index.{places_of}
use Rattle.book.specs.declared.Book.{Book}
use Rattle.book.specs.Library.{Lent, lent}
use Rattle.posting.specs.Posting.{posting}
use Rattle.statement_text.specs.declared.Statement.{Statement}
use Rattle.statement_text.specs.declared.page.Page.{Page}
use Rattle.statement_text.specs.Text.{text_of, page_of}
use Rattle.statement_lines.specs.Lines.{line_of}
use Rattle.statement_total.specs.Total.{figure_of, no_figures, sum, total_line}

-- "a line `year-month quarters entries` .., then a line for each point"; 02, Ticket 1: "Each figure is the sum of the figures printed
-- above it"
unfoldable pub of_book : Book → Statement
of_book b =
    let lines = map line_of b.totals in
    record {
      year = b.master.year;
      month = b.master.month;
      quarters = quarters_of b.master.year b.master.month;
      entries = b.length;
      count = b.master.count;
      lines = lines;
      total = total_line (take b.master.count lines);
    }

-- a refusal, or the figures of the book: from the number and the book that posting gives
unfoldable pub reported : ℕ → Book → Result Statement ℕ
reported n b = cond (eqb n 0) (Ok (of_book b)) (Err n)

-- "65,536 bytes", which 12 lets pass
abbrev pub input_most : ℕ
input_most = 65536

-- "a journal of 65,532 bytes"
abbrev pub journal_size : ℕ
journal_size = 65532

-- the program's own index has places for as many points as a file can have
abbrev pub index_size : ℕ
index_size = places_of 8

-- what the program lends to posting
unfoldable pub own_lent : Lent
own_lent = lent (replicate journal_size 0) (replicate index_size 0)

-- "The program posts standard input into a journal of 65,532 bytes."; 12: "Program only, before all others: standard input exceeds
-- 65,536 bytes." The number and the figures that are handed to printing
unfoldable pub statement : List ℕ → Result Statement ℕ
statement input =
    let r = posting input own_lent in
    cond (ltb input_most (length input)) (Err 12) (reported r.number r.book)

-- the number handed to printing: 0 comes with the figures of a book
abbrev pub number : Result Statement ℕ → ℕ
number (Ok _) = 0
number (Err n) = n

-- 02, Ticket 1: "The total handed to printing is proved equal to the sum over the point lines' figures."
abbrev pub TotalIsSum : Type 0
TotalIsSum =
    (input : List ℕ) (c : Column) → IfOk (statement input) (λ s. figure_of s.total c ≡ sum c (take s.count s.lines))

-- 02, Ticket 4: "Prove that the number handed to printing is never 10"
abbrev pub NeverFull : Type 0
NeverFull = (input : List ℕ) → number (statement input) ≡ 10 → ⊥

-- nor is it 02's 17: the program's own index is long enough for every file that 2 lets pass
abbrev pub NeverShort : Type 0
NeverShort = (input : List ℕ) → number (statement input) ≡ 17 → ⊥

-- 02, Ticket 4: "Operators keep a help page for each number they may see.": these, and 0, which comes with the figures of a book
unfoldable pub numbers_seen : List ℕ
numbers_seen = 0 ∷ 1 ∷ 2 ∷ 3 ∷ 4 ∷ 5 ∷ 6 ∷ 9 ∷ 12 ∷ []

-- the number handed to printing is one of them
abbrev pub OnlyNumbersSeen : Type 0
OnlyNumbersSeen = (input : List ℕ) → any_of (eqb (number (statement input))) numbers_seen ≡ true

-- and 0 of them comes with the figures of a book alone: no refusal is handed over with it
abbrev pub NeverRefusedBy0 : Type 0
NeverRefusedBy0 = (input : List ℕ) → statement input ≡ Err 0 → ⊥

-- "It prints `refused N`, or a line .., then a line for each point"
unfoldable pub printed : List ℕ → Page
printed input = page_of (text_of (statement input))
