-- Demand 2 for a point: the figures of a quarter-hour at a point are those of source document 004. Assumes nothing.
use Rattle.std.specs.Prelude.{ℕ, ◌≡◌, true, cond, pos}
use Rattle.quantity.specs.Quantity.{grains}
use Rattle.quarter.specs.declared.Role.{Role}
use Rattle.quarter.specs.declared.Role.TheVariants.{Active, SemiActive}
use Rattle.quarter.specs.declared.Metered.{Metered}
use Rattle.quarter.specs.Source.{vergütet, frei, verrechnet, VB, RB, ΔWQlim}
use Rattle.quarter.specs.Agreement.{Said, Exactly}
use Rattle.point_record.specs.declared.Point.{Point}
use Rattle.entry_record.specs.declared.Entry.{Entry}
use Rattle.point_record.specs.Point.{point_in_range, counted}
use Rattle.entry_record.specs.Entry.{entry_in_range}
use Rattle.worth.specs.declared.Figures.{Figures}
use Rattle.worth.specs.Figures.{Paid, Free, Billed, Credit, Debit, figure}
use Rattle.worth.specs.Worth.{worth_held}

-- 004, 4.2: "ΔW_Q,lim = Σ_i ΔW_Q,Trafo,i" over the point's transformers that count; so many grains are that, exactly
abbrev pub Limit : Point → ℕ → Type 0
Limit p lim = Exactly lim (ΔWQlim (counted p))

-- 004's role of the point, the semi-active one with this limit
abbrev pub role_at : Point → ℕ → Role
role_at p lim = cond p.semi_active (SemiActive (grains lim)) Active

-- these figures are 004's for what was metered at the point: its quantities, the free one where 004 speaks, and its amounts
pub record Figures004 (p : Point) (lim : ℕ) (m : Metered) (f : Figures) : Type 0 where
  pub paid : pos (figure f Paid) ≡ vergütet (role_at p lim) p.level m
  pub free : Said (role_at p lim) m → pos (figure f Free) ≡ frei (role_at p lim) p.level m
  pub billed : pos (figure f Billed) ≡ verrechnet (role_at p lim) p.level m
  pub credit : pos (figure f Credit) ≡ VB (role_at p lim) p.level m p.tariffs
  pub debit : pos (figure f Debit) ≡ RB (role_at p lim) p.level m p.tariffs

-- "For each quarter-hour the paid, free and billed energy and both amounts are those of" 004: for every point that 4 lets pass and
-- every entry that 5 lets pass. `worth_held` is what the code gives.
abbrev pub Demand2 : Type 0
Demand2 =
    (p : Point) (lim : ℕ) (e : Entry) → point_in_range p ≡ true → Limit p lim → entry_in_range e ≡ true
    → Figures004 p lim e.metered (worth_held p p.tariffs e.metered)
