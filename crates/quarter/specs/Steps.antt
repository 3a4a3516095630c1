-- What two private steps of the classification answer. No exported contract cites this file.
-- Assumes nothing.
use Rattle.std.specs.Prelude.{ℕ, Bool, cond}
use Rattle.quantity.specs.declared.Grains.{Grains}
use Rattle.quarter.specs.declared.Level.{Level}
use Rattle.quarter.specs.declared.Class.{Class}
use Rattle.quarter.specs.declared.Class.TheVariants.{Paid, Free, Billed, Disconnected}
use Rattle.quarter.specs.Reading.{none, helps_by_supply, helps_by_take}

-- the class of a supply from a semi-active point, `above` its band or not. What helps as a take hurts as a supply
unfoldable pub semi_active_supply : Level → Bool → ℕ → ℕ → Class
semi_active_supply l above u s = cond above (cond (helps_by_supply l u s) Paid (cond (helps_by_take l u s) Billed Free)) Free

-- what of the band is left out of a class
abbrev pub allowance_of : Class → Grains → Grains
allowance_of Paid b = b
allowance_of Free b = none
allowance_of Billed b = b
allowance_of Disconnected b = none
