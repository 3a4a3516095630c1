-- What document 01's reading owes to source document 004, and to itself.
-- Assumes nothing.
use Rattle.std.specs.Prelude.{ℕ, ◌+◌, ◌*◌, ◌<◌, ◌≡◌, pos}
use Rattle.quantity.specs.Fraction.{Fraction}
use Rattle.quarter.specs.declared.Role.{Role}
use Rattle.quarter.specs.declared.Role.TheVariants.{Active, SemiActive}
use Rattle.quarter.specs.declared.Level.{Level}
use Rattle.quarter.specs.declared.Metered.{Metered}
use Rattle.quarter.specs.declared.Shares.{Shares}
use Rattle.quarter.specs.declared.Tariffs.{Tariffs}
use Rattle.quarter.specs.Reading.{absolute, classified, credit_of, debit_of}
use Rattle.quarter.specs.Source.{vergütet, frei, verrechnet, VB, RB}

-- 4.2 has a line for |W_Q| < ΔW_Q,lim and one for |W_Q| > ΔW_Q,lim, and none for the two being equal
abbrev pub Said : Role → Metered → Type 0
Said Active m = Unit {0}
Said (SemiActive b) m = absolute m ≡ b.0 → ⊥

-- 01, "Month file": "penalty 0 if semi-active"
abbrev pub Lawful : Role → Tariffs → Type 0
Lawful Active t = Unit {0}
Lawful (SemiActive b) t = t.penalty ≡ 0

-- demand 2: each quantity and each amount of 01's reading is that of 004
pub record Agrees (role : Role) (l : Level) (m : Metered) (t : Tariffs) : Type 0 where
  pub paid : pos (classified role l m).paid.0 ≡ vergütet role l m
  pub free : Said role m → pos (classified role l m).free.0 ≡ frei role l m
  pub billed : pos (classified role l m).billed.0 ≡ verrechnet role l m
  pub credit : pos (credit_of (classified role l m) t) ≡ VB role l m t
  pub debit : Lawful role t → pos (debit_of (classified role l m) t) ≡ RB role l m t

-- the five shares together
unfoldable pub total : Shares → ℕ
total s = s.paid.0 + s.free.0 + s.billed.0 + s.allowance.0 + s.disconnected.0

-- so many grains are a fraction of an Mvarh, exactly: 1 Mvarh is 1,000 kvarh of 1,600 grains
pub record Exactly (n : ℕ) (q : Fraction) : Type 0 where
  pub proper : 0 < q.under
  pub same : n * q.under ≡ 1600000 * q.over
