-- The number of a refusal. Assumes nothing.
use Prim.Native.Nat.{◌<◌}
use native.Mathlib.Omega.{arith}
use Rattle.transformer.specs.declared.ConversionRefusal.{ConversionRefusal}
use Rattle.transformer.specs.declared.ConversionRefusal.TheVariants.{OutOfRange, Implausible}
use Rattle.transformer.specs.Numbers.{number_of}

-- it is above 0
pub refused_number : (r : ConversionRefusal) → 0 < number_of r
refused_number OutOfRange = omega arith
refused_number Implausible = omega arith
