-- Document 01, "One quarter-hour": the classification as the members' C program calls it, on plain numbers.
-- Assumes nothing.
use Rattle.std.specs.Prelude.{ℕ, Bool, cond, not, ◌&&◌, ◌||◌, List, [], ◌∷◌, ◌++◌, ltb, leb, eqb, length, drop}
use Rattle.bits.specs.Fields.{words}
use Rattle.quantity.specs.Quantity.{grains}
use Rattle.voltages.specs.Voltages.{voltage}
use Rattle.quarter.specs.declared.Role.{Role}
use Rattle.quarter.specs.declared.Role.TheVariants.{Active, SemiActive}
use Rattle.quarter.specs.declared.Metered.{Metered}
use Rattle.quarter.specs.declared.Shares.{Shares}
use Rattle.quarter.specs.Ranges.{metered_in_range}
use Rattle.quarter.specs.Reading.{level_of, classified}
use Rattle.refusals.specs.Refusals.{first}

-- "on plain numbers: role, level, B (0 if active, else 1 to 320,000,000), lamp, take, supply, U, S"
pub record Arguments : Type 0 where
  pub role : ℕ
  pub level : ℕ
  pub band : ℕ
  pub lamp : ℕ
  pub take : ℕ
  pub supply : ℕ
  pub actual : ℕ
  pub set : ℕ

abbrev pub arguments : ℕ → ℕ → ℕ → ℕ → ℕ → ℕ → ℕ → ℕ → Arguments
arguments role level band lamp take supply actual set =
    record { role = role; level = level; band = band; lamp = lamp; take = take; supply = supply; actual = actual; set = set }

unfoldable pub role_of : ℕ → ℕ → Role
role_of role b = cond (eqb role 0) Active (SemiActive (grains b))

unfoldable pub metered_of : Arguments → Metered
metered_of a =
    record { lamp = eqb a.lamp 1; take = a.take; supply = a.supply; actual = voltage a.actual; set = voltage a.set }

-- role "0 active, 1 semi-active" with its band, level "0 is 220 kV, 1 is 380 kV"
unfoldable pub point_in_range : ℕ → ℕ → ℕ → Bool
point_in_range role level b =
    (eqb role 0 && eqb b 0 || eqb role 1 && leb 1 b && leb b 320000000) && leb level 1

-- these, the lamp of 1 bit, and what was metered
unfoldable pub in_range : Arguments → Bool
in_range a = point_in_range a.role a.level a.band && leb a.lamp 1 && metered_in_range (metered_of a)

-- "The five shares, in grains, go in the order above, 8 bytes each, most significant first"
unfoldable pub image : Shares → List ℕ
image s = words (s.paid.0 ∷ s.free.0 ∷ s.billed.0 ∷ s.allowance.0 ∷ s.disconnected.0 ∷ [])

-- "Arguments out of range get number 5, then a slice under 40 bytes 13"
unfoldable pub call_number : Arguments → List ℕ → ℕ
call_number a bytes = first ((5, not (in_range a)) ∷ (13, ltb (length bytes) 40) ∷ [])

-- the number, and the slice afterwards: "into the first 40 bytes of a lent byte slice; its other bytes stay"; "both [numbers]
-- leave it untouched"
unfoldable pub called : Arguments → List ℕ → ℕ × List ℕ
called a bytes = (
  call_number a bytes,
  cond (eqb (call_number a bytes) 0)
      (image (classified (role_of a.role a.band) (level_of a.level) (metered_of a)) ++ drop 40 bytes)
      bytes,
)
