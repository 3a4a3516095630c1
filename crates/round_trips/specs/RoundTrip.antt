-- Document 01, "Write": what posting a written file gives, and what writing a posted file gives. Assumes nothing.
use Rattle.std.specs.Prelude.{ℕ, ◌*◌, ◌≤◌, ◌≡◌, false, List, ◌++◌, length, take, drop}
use Rattle.bits.specs.Fields.{AreBytes}
use Rattle.refusals.specs.Refusals.{first}
use Rattle.journal.specs.Journal.{entries}
use Rattle.index.specs.Index.{places_of}
use Rattle.master_data.specs.Master.{frame_of}
use Rattle.book.specs.declared.Book.{Book}
use Rattle.book.specs.Library.{Lent, guards}
use Rattle.opening.specs.Opening.{void}
use Rattle.posting.specs.Posting.{PostResult, posting}
use Rattle.writing.specs.Writing.{file_of, file_length, WriteResult, write_result, writing}

-- "gives an open book with the same month, points, L and totals"
pub record Same (r : PostResult) (b : Book) (l : Lent) : Type 0 where
  pub accepted : r.number ≡ 0
  pub unclosed : r.book.closed ≡ false
  pub frame : frame_of r.book.master ≡ frame_of b.master
  pub entries : entries r.book.length r.lent.journal ≡ entries b.length l.journal
  pub totals : r.book.totals ≡ b.totals

-- "Write puts header .., points and L into a lent output and gives the file's length": it accepts; so many bytes are the file; and
-- "Posting that file into a journal that holds L", here k's, "gives an open book with the same month, points, L and totals"
pub record WrittenBack (b : Book) (l k : Lent) (w : WriteResult) : Type 0 where
  pub accepted : w.number ≡ 0
  pub sized : w.length ≡ length (file_of b l.journal)
  pub back : Same (posting (take w.length w.output) k) b l

-- for every sound book, which has places for eight points, every output that is long enough, every such journal, and "no other lent
-- slice too short": the index that write is lent (17), and that which posting is
abbrev pub WrittenPostsBack : Type 0
WrittenPostsBack =
    (b : Book) (l k : Lent) (out : List ℕ) → length b.master.points ≡ 8 → first (guards b l) ≡ 0 → file_length b ≤ length out
    → 12 * b.length ≤ length k.journal → places_of b.master.count ≤ length k.index → WrittenBack b l k (writing b l out)

-- "Writing the book of a file posted in full gives that file's bytes": write accepts, and puts them into the output; "output bytes
-- past the file are untouched"
abbrev pub PostedWritesBack : Type 0
PostedWritesBack =
    (file : List ℕ) (l : Lent) (out : List ℕ) → AreBytes file → (posting file l).number ≡ 0 → length file ≤ length out
    → writing (posting file l).book (posting file l).lent out ≡ write_result 0 (length file) (file ++ drop (length file) out)

-- "the void book .., so that 7 meets each call on it"
abbrev pub VoidUnwritten : Type 0
VoidUnwritten = (l : Lent) (out : List ℕ) → writing void l out ≡ write_result 7 0 out
