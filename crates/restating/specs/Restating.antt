-- The totals of a book restated for one entry: figures come in, and others go out. Assumes nothing.
use Rattle.std.specs.Prelude.{ℕ, zero, suc, ◌+◌, ◌-◌, List, get_or, set}
use Rattle.point_record.specs.declared.Point.{Point}
use Rattle.worth.specs.declared.Figures.{Figures}
use Rattle.worth.specs.Figures.{figure, each, nothing}
use Rattle.machine.specs.Machine.{worth_in}
use Rattle.journal.specs.Journal.{entry_at}

-- figures with some added and others taken away
abbrev pub exchanged : Figures → Figures → Figures → Figures
exchanged a x o = each (λ c. figure a c + figure x c - figure o c)

-- totals with the figures of one point exchanged
abbrev pub restated : List Figures → ℕ → Figures → Figures → List Figures
restated ts p x o = set ts p (exchanged (get_or ts p nothing) x o)

-- what the entry at a place of the journal that is counted from 1 is worth; nothing at 0
unfoldable pub worth_at : List Point → ℕ → List ℕ → Figures
worth_at ps zero j = nothing
worth_at ps (suc i) j = worth_in ps (entry_at i j)
