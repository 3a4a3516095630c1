-- Demand 3: "a single claim about the whole list of calls", "for every file that open accepts and every journal".
-- Assumes nothing.
use Rattle.std.specs.Prelude.{ℕ, ◌+◌, ◌<◌, ◌≡◌, length, get_or}
use mathlib.Core.List.{List, Mem}
use Rattle.refusals.specs.Refusals.{first}
use Rattle.quarter.specs.Reading.{absolute}
use Rattle.worth.specs.declared.Figures.{Figures}
use Rattle.worth.specs.Figures.{Absolute, Paid, Free, Billed, Allowance, Disconnected, figure, nothing}
use Rattle.machine.specs.Machine as machine
use Rattle.book.specs.Library as library
use Rattle.book.specs.declared.Book.{Book}
use Rattle.book.specs.Library.{Lent}
use Rattle.walk.specs.Walk.{index_to}
use Rattle.opening.specs.Opening.{header, points, opened_book, opened_lent, void}

-- the machine beside the library: "It is fed only the file's header and points, the journal's length, and the calls"
abbrev pub beside : List ℕ → ℕ → machine.State
beside file size = machine.fresh (header file) (points file) size

-- the absolute energy of a point's deliveries that stand
abbrev pub standing_energy : machine.State → ℕ → ℕ
standing_energy s p = machine.sum (λ e. absolute e.metered) p (machine.standing s.entries)

-- "For each point, paid, free, billed, allowance and disconnected energy together equal the absolute energy of its standing
-- deliveries."
pub record Conserved (f : Figures) (energy : ℕ) : Type 0 where
  pub shares : figure f Paid + figure f Free + figure f Billed + figure f Allowance + figure f Disconnected ≡ figure f Absolute
  pub standing : figure f Absolute ≡ energy

-- the library's side, over whatever is lent, 02, Ticket 6: "one index being lent to the opening and to all of them, and touched by
-- none else": what the calls answer, and the book at the end
abbrev pub answers_of : List ℕ → Lent → List machine.Call → List machine.Answer
answers_of file l calls = library.answers (opened_book file l.index) (opened_lent file l) calls

abbrev pub end_of : List ℕ → Lent → List machine.Call → Book
end_of file l calls = (library.run (opened_book file l.index) (opened_lent file l) calls).book

-- "Every number answered, every figure that totals gives and the totals stored at the end equal the machine's."; it "passes over 7,
-- which no call of such a list gets", and, 02, Ticket 6, "passes over 17, which none of them gets"; and what is stored at the end is
-- conserved
pub record Demand3 (file : List ℕ) (l : Lent) (calls : List machine.Call) : Type 0 where
  pub answered : answers_of file l calls ≡ machine.answers (beside file (length l.journal)) calls
  pub stored : (end_of file l calls).totals ≡ machine.totals_in (machine.run (beside file (length l.journal)) calls)
  pub never_7 : (a : machine.Answer) → Mem a (answers_of file l calls) → a.number ≡ 7 → ⊥
  pub never_17 : (a : machine.Answer) → Mem a (answers_of file l calls) → a.number ≡ 17 → ⊥
  pub conserved : (p : ℕ) → p < length (points file)
      → Conserved (get_or (end_of file l calls).totals p nothing) (standing_energy (machine.run (beside file (length l.journal)) calls) p)

-- 02, Ticket 6: "After each call on a sound book the index says just what a walk over L would say": in the places of its points, and
-- those past them are what they are
abbrev pub IndexSays : Type 0
IndexSays =
    (b : Book) (l : Lent) (c : machine.Call) → first (library.guards b l) ≡ 0
    → let o = library.after b l c in
    o.lent.index ≡ index_to o.book.master o.book.length o.lent.journal o.lent.index

-- the void book, "closed, no points, every number 0, so that 7 meets each call on it"
abbrev pub VoidBook : Type 0
VoidBook = (l : Lent) (c : machine.Call) → (library.answer void l c).number ≡ 7
