-- 02, Ticket 2, as a C program calls it, on plain numbers. Assumes nothing.
use Rattle.std.specs.Prelude.{ℕ, cond, eqb, ℤ}
use Rattle.transformer.specs.declared.LowSide.{LowSide}
use Rattle.transformer.specs.declared.DataSheet.{DataSheet}
use Rattle.transformer.specs.LowSide.{number, converted}

-- "signed active and reactive energy"
abbrev pub metered : ℤ → ℤ → LowSide
metered active reactive = record { active = active; reactive = reactive }

-- "Sn .., uk and i0 .., copper losses"
abbrev pub sheet : ℕ → ℕ → ℕ → ℕ → DataSheet
sheet sn uk i0 copper = record { sn = sn; uk = uk; i0 = i0; copper = copper }

-- the number, and take and supply afterwards: those of the high side, or what they were beside a refusal
unfoldable pub called : LowSide → DataSheet → ℕ → ℕ → ℕ × (ℕ × ℕ)
called low t take supply = (number low t, cond (eqb (number low t) 0) (converted low t).1 (take, supply))
