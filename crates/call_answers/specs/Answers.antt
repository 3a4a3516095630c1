-- The machine's answers as numbers, which then go into bytes (`words` of bits): of each call its number, and of totals besides the
-- length of L and all figures. Assumes nothing.
use Rattle.std.specs.Prelude.{ℕ, List, [], ◌∷◌, ◌++◌}
use Rattle.worth.specs.declared.Figures.{Figures}
use Rattle.worth.specs.Figures.{figure, Absolute, Paid, Free, Billed, Allowance, Disconnected, Credit, Debit}
use Rattle.machine.specs.Machine.{Answer}

-- the figures of points, one point after the other
unfoldable pub columns : List Figures → List ℕ
columns [] = []
columns (f ∷ fs) =
    figure f Absolute
    ∷ figure f Paid
    ∷ figure f Free
    ∷ figure f Billed
    ∷ figure f Allowance
    ∷ figure f Disconnected
    ∷ figure f Credit
    ∷ figure f Debit
    ∷ columns fs

-- the length of L and the figures, where there are figures
unfoldable pub length_and_figures : ℕ → List Figures → List ℕ
length_and_figures n [] = []
length_and_figures n (f ∷ fs) = n ∷ columns (f ∷ fs)

-- the numbers of an answer, and of answers one after the other
abbrev pub numbers : Answer → List ℕ
numbers a = a.number ∷ length_and_figures a.entries a.figures

unfoldable pub all_numbers : List Answer → List ℕ
all_numbers [] = []
all_numbers (a ∷ rest) = numbers a ++ all_numbers rest
