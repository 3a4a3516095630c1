-- The number of a refusal. Assumes nothing.
use Prim.Native.Nat.{◌<◌}
use native.Mathlib.Omega.{arith}
use Rattle.basic_tariff.specs.declared.ChargeRefusal.{ChargeRefusal}
use Rattle.basic_tariff.specs.declared.ChargeRefusal.TheVariants.{OutOfRange}
use Rattle.basic_tariff.specs.Numbers.{number_of}

-- it is above 0
pub refused_number : (r : ChargeRefusal) → 0 < number_of r
refused_number OutOfRange = omega arith
