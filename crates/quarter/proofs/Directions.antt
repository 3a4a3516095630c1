-- A take is classified as a supply with the two voltages exchanged.
-- Assumes nothing.
use Prim.Native.Nat.{ℕ, ◌+◌, ◌-◌, ◌<◌}
use mathlib.Core.Path.{◌≡◌}
use mathlib.Core.Bool.{and_comm}
use native.Mathlib.Nat.{add_comm, le_of_lt}
use native.Mathlib.Omega.{arith}
use borrow.Author.Tests.{lt-ltb, le-ltb, ne_eqb}
use lib.Dec.{leb}
use Rattle.quarter.specs.declared.Role.{Role}
use Rattle.quarter.specs.declared.Role.TheVariants.{Active, SemiActive}
use Rattle.quarter.specs.declared.Level.{Level}
use Rattle.quarter.specs.declared.Metered.{Metered}
use Rattle.quarter.specs.Reading.{active_supply, active_take, semi_active_free, semi_active, helps_by_supply, helps_by_take}
use Rattle.quarter.specs.Reading.{absolute, of_role, exchanged, classified}

-- the quarter-hour with its directions and its voltages exchanged
abbrev mirror : Metered → Metered
mirror m = record { lamp = m.lamp; take = m.supply; supply = m.take; actual = m.set; set = m.actual }

mirrored_absolute : (m : Metered) → absolute (mirror m) ≡ absolute m
unfolding absolute
mirrored_absolute m = rw (add_comm (m.supply - m.take) (m.take - m.supply))

mirrored_semi_active : (l : Level) (b w u s : ℕ)
    → semi_active l b w s u (helps_by_supply l s u) ≡ semi_active l b w u s (helps_by_take l u s)
unfolding semi_active helps_by_supply helps_by_take
mirrored_semi_active l b w u s = rw (and_comm (leb u (s + semi_active_free l)) (leb s (u + semi_active_free l)))

mirrored_role : (role : Role) (l : Level) (m : Metered) → m.supply < m.take → of_role role l (mirror m) ≡ of_role role l m
unfolding of_role active_supply active_take
mirrored_role Active l m less =
    rw (mirrored_absolute m, lt-ltb m.supply m.take less, le-ltb m.take m.supply (le_of_lt less))
mirrored_role (SemiActive b) l m less =
    rw (mirrored_absolute m, lt-ltb m.supply m.take less, le-ltb m.take m.supply (le_of_lt less))
    (mirrored_semi_active l b.0 (absolute m) m.actual.0 m.set.0)

pub mirrored_classified : (role : Role) (l : Level) (m : Metered) → m.supply < m.take
    → classified role l (mirror m) ≡ classified role l m
unfolding classified exchanged
mirrored_classified role l m less =
    rw (
      ne_eqb m.supply m.take (omega arith),
      ne_eqb m.take m.supply (omega arith),
      mirrored_absolute m,
      mirrored_role role l m less,
    )
