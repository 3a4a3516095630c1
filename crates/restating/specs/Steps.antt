-- What the code answers, on any values; within a lawful book it is what Restating.antt has. No contract of a call speaks of it.
-- Assumes nothing.
use Rattle.std.specs.Prelude.{ℕ, ◌+◌, ◌-◌, ◌<◌, List, get_or, set, Option, Some, None}
use Rattle.quantity.specs.Quantity.{capped}
use Rattle.point_record.specs.declared.Point.{Point}
use Rattle.entry_record.specs.declared.Entry.{Entry}
use Rattle.point_record.specs.Point.{no_point}
use Rattle.worth.specs.declared.Figures.{Figures}
use Rattle.worth.specs.Figures.{figure, each, nothing}
use Rattle.worth.specs.Worth.{worth_held}

-- what an entry is worth at a point, and in a book with these points
abbrev pub worth_at_point : Point → Entry → Figures
worth_at_point p e = worth_held p p.tariffs e.metered

abbrev pub worth_among : List Point → Entry → Figures
worth_among ps e = worth_at_point (get_or ps e.point no_point) e

-- what the entry that stands is worth; nothing where none does
unfoldable pub worth_standing : List Point → Option Entry → Figures
worth_standing ps None = nothing
worth_standing ps (Some e) = worth_among ps e

-- an entry that stands has one of eight points
unfoldable pub Placed : Option Entry → Type 0
Placed None = Unit {0}
Placed (Some e) = e.point < 8

-- figures with some added and others taken away, as far as 64 bits hold the sums
unfoldable pub exchanged_held : Figures → Figures → Figures → Figures
exchanged_held a x o = each (λ c. capped 64 (figure a c + figure x c) - figure o c)

-- the totals with the figures of one point exchanged
abbrev pub exchanged_at : List Figures → ℕ → Figures → Figures → List Figures
exchanged_at ts p x o = set ts p (exchanged_held (get_or ts p nothing) x o)
