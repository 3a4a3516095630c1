-- The answers of the C call, from the number of its refusal.
-- Assumes nothing.
use Prim.Native.Nat.{ℕ, ◌≤◌}
use mathlib.Core.Path.{◌≡◌, refl, sym, ap, ◌∙◌}
use mathlib.Core.Bool.{Bool, not, ◌&&◌}
use mathlib.Core.List.{List, [], ◌∷◌, ◌++◌}
use borrow.Author.Tests.{ltb-false, ne_eqb}
use lib.Dec.{ltb, leb, eqb}
use lib.ListN.{length, drop}
use Rattle.voltages.specs.declared.Voltage.{Voltage}
use Rattle.voltages.specs.Voltages.{voltage}
use Rattle.quarter.specs.declared.Role.{Role}
use Rattle.quarter.specs.declared.Level.{Level}
use Rattle.quarter.specs.declared.Metered.{Metered}
use Rattle.quarter.specs.declared.Shares.{Shares}
use Rattle.quarter.specs.Ranges.{metered_in_range}
use Rattle.quarter.specs.Reading.{level_of, classified}
use Rattle.refusals.specs.Refusals.{first}
use Rattle.refusals.proofs.First.{none_holds}
use Rattle.reactive.specs.QuarterHour.{Arguments, point_in_range, in_range, role_of, metered_of, image, call_number, called}

-- the quarter-hour of the arguments, at the two voltages
abbrev metered_at : Arguments → Voltage → Voltage → Metered
metered_at a u v = record { lamp = eqb a.lamp 1; take = a.take; supply = a.supply; actual = u; set = v }

-- no refusal holds where the number is 0, so the slice has room
pub room : (n : ℕ) (x : Bool) (bytes : List ℕ) → n ≡ first ((5, x) ∷ (13, ltb (length bytes) 40) ∷ []) → n ≡ 0 → 40 ≤ length bytes
room n x bytes e z =
    ltb-false (length bytes) 40 (none_holds ((5, x) ∷ (13, ltb (length bytes) 40) ∷ []) refl (sym e ∙ z)).1.0

-- u and v are the two voltages, p and q say whether the point and what was metered are in their ranges, and n is the number
module _ (a : Arguments) (bytes : List ℕ) (u v : Voltage) (eu : u ≡ voltage a.actual) (ev : v ≡ voltage a.set)
    (p q : Bool) (ep : p ≡ point_in_range a.role a.level a.band) (eq : q ≡ metered_in_range (metered_at a u v))
    (n : ℕ) (en : n ≡ first ((5, not (p && leb a.lamp 1 && q)) ∷ (13, ltb (length bytes) 40) ∷ [])) where
  tested : (p && leb a.lamp 1 && q) ≡ in_range a
  unfolding in_range metered_of
  tested = rw (ep, eq, eu, ev)

  number : n ≡ call_number a bytes
  unfolding call_number
  number = en ∙ ap (λ (g : Bool). first ((5, not g) ∷ (13, ltb (length bytes) 40) ∷ [])) tested

  pub refused : (n ≡ 0 → ⊥) → (n, bytes) ≡ called a bytes
  unfolding called
  refused h = rw (← number, ne_eqb n 0 h)

  pub accepted : n ≡ 0 → (s : Shares) (role : Role) (level : Level) → s ≡ classified role level (metered_at a u v)
      → role ≡ role_of a.role a.band → level ≡ level_of a.level
      → (after : List ℕ) → after ≡ image s ++ drop 40 bytes → (0, after) ≡ called a bytes
  unfolding called metered_of
  accepted z s role level es er el after e = rw (← number, z, e, es, er, el, eu, ev)
