-- What the calls of the library do to a book and to what is lent. Assumes nothing.
use Rattle.std.specs.Prelude.{ℕ, ◌+◌, ◌-◌, ◌*◌, Bool, true, cond, ◌||◌, List, [], ◌∷◌, ◌++◌, eqb, length, replicate, Result, Ok, Err}
use Rattle.std.proofs.Math.Seq.{paste}
use Rattle.refusals.specs.Refusals.{first}
use Rattle.entry_record.specs.declared.Entry.{Entry}
use Rattle.entry_record.specs.Entry.{entry_in}
use Rattle.worth.specs.declared.Figures.{Figures}
use Rattle.worth.specs.Figures.{nothing}
use Rattle.answers.specs.declared.Refusal.{Refusal}
use Rattle.answers.specs.Numbers.{number_of}
use Rattle.machine.specs.Machine as machine
use Rattle.machine.specs.Machine.{State, Change, deliver, take_back, close, Call, change, totals, capacity_of, conditions}
use Rattle.machine.specs.Machine.{worth_in, number_alone}
use Rattle.journal.specs.Journal.{entry_at, entries, standing_place}
use Rattle.index.specs.Index.{short_index}
use Rattle.master_data.specs.Master.{frame_of}
use Rattle.audit.specs.Audit.{unlawful, wrong_totals}
use Rattle.restating.specs.Restating.{restated, worth_at}
use Rattle.walk.specs.Walk.{index_to}
use Rattle.book.specs.declared.Book.{Book}
use Rattle.book.specs.declared.Totals.{Totals}

-- What is lent to a call: the bytes of the journal, and the places of 02's index, "kept beside the journal".
pub record Lent : Type 0 where
  pub journal : List ℕ
  pub index : List ℕ

abbrev pub lent : List ℕ → List ℕ → Lent
lent j x = record { journal = j; index = x }

-- what is lent, with another index
abbrev pub with_index : Lent → List ℕ → Lent
with_index l x = lent l.journal x

-- a book with another length of L, with other totals, and one that is closed or open
abbrev pub with_length : Book → ℕ → Book
with_length b n = record { master = b.master; length = n; closed = b.closed; totals = b.totals }

abbrev pub with_totals : Book → List Figures → Book
with_totals b ts = record { master = b.master; length = b.length; closed = b.closed; totals = ts }

abbrev pub with_closed : Book → Bool → Book
with_closed b c = record { master = b.master; length = b.length; closed = c; totals = b.totals }

-- the machine's state that a book and what is lent stand for
abbrev pub view : Book → Lent → State
view b l =
    record {
      frame = frame_of b.master;
      capacity = capacity_of (length l.journal);
      entries = entries b.length l.journal;
      closed = b.closed;
    }

-- 7: "Unsound book: a year, month, count of points or point value .., L longer than capacity, an entry that 5, 6 or 9 would have
-- stopped, or a stored total that isn't the sum afresh"; 02, Ticket 6: "a book whose index doesn't [say what a walk over L would say]"
unfoldable pub unsound : Book → Lent → Bool
unsound b l =
    unlawful b.master b.length l.journal l.index || wrong_totals b.master b.length l.journal b.totals

-- the numbers that come before a call's own ones, of every call: "Deliver: 7, .. Take back: 7, .. Close: 7, .. Totals: 7. Write: 7, ..";
-- 02, Ticket 6: "17 if the index slice is shorter than the points need, before 7"
abbrev pub guards : Book → Lent → List (ℕ × Bool)
guards b l = (17, short_index b.master.count l.index) ∷ (7, unsound b l) ∷ []

unfoldable pub number : Book → Lent → Change → ℕ
number b l c = first (guards b l ++ conditions (view b l) c)

-- what an entry is worth at the book's points, and what the one that stands for its key among the first n is
abbrev pub entry_worth : Book → Entry → Figures
entry_worth b e = worth_in (frame_of b.master).points e

abbrev pub standing_worth : Book → Lent → Entry → ℕ → Figures
standing_worth b l e n =
    worth_at (frame_of b.master).points (standing_place e.point e.quarter n l.journal) l.journal

-- one entry more: it comes in, and the one that stood for its point and quarter goes out. "The book stores its totals."
unfoldable pub posted : Book → Lent → Entry → Book
posted b l e =
    with_length (with_totals b (restated b.totals e.point (entry_worth b e) (standing_worth b l e b.length))) (b.length + 1)

-- the last entry gone: it goes out, and the one that stood for its point and quarter before it comes in again
unfoldable pub unposted : Book → Lent → Book
unposted b l =
    let last = b.length - 1 in
    let e = entry_at last l.journal in
    with_length (with_totals b (restated b.totals e.point (standing_worth b l e last) (entry_worth b e))) last

-- the number of a call, and book and what is lent after it
pub record Outcome : Type 0 where
  pub number : ℕ
  pub book : Book
  pub lent : Lent

abbrev pub outcome : ℕ → Book → Lent → Outcome
outcome n b l = record { number = n; book = b; lent = l }

-- 02, Ticket 6: "After each call on a sound book the index says just what a walk over L would say", L being the first n entries of the
-- journal j; "no call writes to places past them"
abbrev pub relent : Book → Lent → ℕ → List ℕ → Lent
relent b l n j = lent j (index_to b.master n j l.index)

-- "Deliver appends an entry to L, in the 12 bytes after the last; all other bytes keep their values." "Take back drops the last
-- entry of L and zeroes its 12 bytes, no others." "Close sets the mark."
abbrev pub accepted : Book → Lent → Change → Outcome
accepted b l (deliver bytes) =
    outcome 0 (posted b l (entry_in bytes)) (relent b l (b.length + 1) (paste l.journal (12 * b.length) bytes 12))
accepted b l take_back =
    let last = b.length - 1 in
    outcome 0 (unposted b l) (relent b l last (paste l.journal (12 * last) (replicate 12 0) 12))
accepted b l close = outcome 0 (with_closed b true) l

-- "A refused call changes neither book nor buffer"
unfoldable pub called : Book → Lent → Change → Outcome
called b l c = cond (eqb (number b l c) 0) (accepted b l c) (outcome (number b l c) b l)

-- what totals gives. "Beside a refusal's number every other figure given is 0"
unfoldable pub totals_given : Book → Lent → machine.Answer
totals_given b l =
    cond (eqb (first (guards b l)) 0)
    (record { number = 0; figures = b.totals; entries = b.length })
    (record { number = first (guards b l); figures = replicate 8 nothing; entries = 0 })

-- no figures and no entries
abbrev pub no_totals : Totals
no_totals = record { points = replicate 8 nothing; length = 0 }

-- an answer of totals, as numbers. "Beside a refusal's number every other figure given is 0"
abbrev pub totals_answer : Result Totals Refusal → machine.Answer
totals_answer (Ok t) = record { number = 0; figures = t.points; entries = t.length }
totals_answer (Err r) = record { number = number_of r; figures = replicate 8 nothing; entries = 0 }

-- what the caller gets from a call, and book and what is lent after it; totals changes nothing
abbrev pub answer : Book → Lent → Call → machine.Answer
answer b l (change c) = number_alone (called b l c).number
answer b l totals = totals_given b l

abbrev pub after : Book → Lent → Call → Outcome
after b l (change c) = called b l c
after b l totals = outcome 0 b l

-- a whole list of calls: what each answers, and book and what is lent at the end
unfoldable pub answers : Book → Lent → List Call → List machine.Answer
answers b l [] = []
answers b l (c ∷ cs) = let o = after b l c in answer b l c ∷ answers o.book o.lent cs

unfoldable pub run : Book → Lent → List Call → Outcome
run b l [] = outcome 0 b l
run b l (c ∷ cs) = let o = after b l c in run o.book o.lent cs
