-- What private functions of the book answer, on any values. No exported contract speaks of it. Assumes nothing.
use Rattle.std.specs.Prelude.{ℕ, Option}
use Rattle.entry_record.specs.declared.Entry.{Entry}
use Rattle.restating.specs.Steps.{worth_standing, exchanged_at}
use Rattle.book.specs.declared.Book.{Book}
use Rattle.book.specs.Library.{with_length, with_totals}

-- the book with another length of L, and its totals restated for an entry that comes in and one that goes out, as far as 64 bits
-- hold the sums
abbrev pub restated_held : Book → ℕ → Option Entry → Option Entry → ℕ → Book
restated_held b p into out n =
    with_length (with_totals b (exchanged_at b.totals p (worth_standing b.master.points into) (worth_standing b.master.points out))) n
