-- Document 02, Ticket 1: the total under the lines of a statement. Assumes nothing.
use Rattle.std.specs.Prelude.{ℕ, ◌+◌, ◌^◌, ◌<◌, List, [], ◌∷◌, get_or}
use Rattle.statement_text.specs.declared.Line.{Line}
use Rattle.worth.specs.Figures.{Column, Absolute, Paid, Free, Billed, Allowance, Disconnected, Credit, Debit}

-- the figure of a line in one of "the eight columns"
abbrev pub figure_of : Line → Column → ℕ
figure_of l Absolute = l.absolute
figure_of l Paid = l.paid
figure_of l Free = l.free
figure_of l Billed = l.billed
figure_of l Allowance = l.allowance
figure_of l Disconnected = l.disconnected
figure_of l Credit = l.credit
figure_of l Debit = l.debit

-- the line that has these figures
abbrev pub line_with : (Column → ℕ) → Line
line_with n =
    record {
      absolute = n Absolute;
      paid = n Paid;
      free = n Free;
      billed = n Billed;
      allowance = n Allowance;
      disconnected = n Disconnected;
      credit = n Credit;
      debit = n Debit;
    }

-- the line whose figures are all 0
abbrev pub no_figures : Line
no_figures = line_with (λ c. 0)

-- the sum of a column
unfoldable pub sum : Column → List Line → ℕ
sum c [] = 0
sum c (l ∷ ls) = figure_of l c + sum c ls

-- "Each figure is the sum of the figures printed above it, so the rappen columns add the rounded lines."
unfoldable pub total_line : List Line → Line
total_line ls = line_with (λ c. sum c ls)

-- each figure is so small that eight of them add up to less than 2 to the power of 64
unfoldable pub Addable : List Line → Type 0
Addable ls = (i : ℕ) (c : Column) → figure_of (get_or ls i no_figures) c < 2 ^ 61
