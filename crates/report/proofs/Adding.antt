-- The lines of a posted book can be added: eight figures of any column are below 2 to the power of 64. Assumes nothing.
use Prim.Native.Nat.{ℕ, ◌≤◌}
use mathlib.Core.Path.{◌≡◌, sym, subst, ◌∙◌}
use mathlib.Core.List.{List, map}
use native.Mathlib.Omega.{arith}
use lib.ListN.{get_or, get_or-map}
use Rattle.worth.specs.declared.Figures.{Figures}
use Rattle.worth.specs.Figures.{Column, Absolute, Paid, Free, Billed, Allowance, Disconnected, Credit, Debit, figure, nothing}
use Rattle.machine.specs.Machine.{totals_of}
use Rattle.machine.proofs.Totals.{places_most}
use Rattle.journal.specs.Journal.{entries}
use Rattle.master_data.specs.Master.{frame_of}
use Rattle.audit.proofs.Fitting.{fits}
use Rattle.book.specs.declared.Book.{Book}
use Rattle.book.specs.Library.{Lent}
use Rattle.book.proofs.Sound.{Sound}
use Rattle.posting.specs.Posting.{PostResult, posting}
use Rattle.posting.proofs.InFull.{posted_sound}
use Rattle.statement_lines.specs.Lines.{line_of}
use Rattle.statement_total.specs.Total.{figure_of, Addable}

-- a figure of a line is at most that of the totals
line_most : (f : Figures) (c : Column) → figure_of (line_of f) c ≤ figure f c
unfolding line_of
line_most f Absolute = omega arith
line_most f Paid = omega arith
line_most f Free = omega arith
line_most f Billed = omega arith
line_most f Allowance = omega arith
line_most f Disconnected = omega arith
line_most f Credit = omega arith
line_most f Debit = omega arith

-- the lines of a sound book
sound_addable : {b : Book} {l : Lent} → Sound b l → Addable (map line_of b.totals)
unfolding Addable line_of
sound_addable {b} {l} s i c =
    let ps = (frame_of b.master).points in
    let most = places_most ps (entries b.length l.journal) i (fits s.ranged b.length l.journal s.entries) c in
    rw (get_or-map line_of b.totals i nothing, s.totals)
    (omega (arith, most, line_most (get_or (totals_of ps (entries b.length l.journal)) i nothing) c))

-- those of a file posted in full
pub posted_addable : (input : List ℕ) (l : Lent) (x : PostResult) (n : ℕ) → x ≡ posting input l → n ≡ x.number
    → n ≡ 0 → Addable (map line_of x.book.totals)
posted_addable input l x n e f z =
    subst (λ (r : PostResult). r.number ≡ 0 → Addable (map line_of r.book.totals)) (sym e)
    (λ h. sound_addable (posted_sound input l h)) (sym f ∙ z)
