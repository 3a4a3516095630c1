-- 02's number of each refusal, and what a conversion gives. Assumes nothing.
use Rattle.std.specs.Prelude.{ℕ, Result, Ok, Err}
use Rattle.transformer.specs.declared.ConversionRefusal.{ConversionRefusal}
use Rattle.transformer.specs.declared.ConversionRefusal.TheVariants.{OutOfRange, Implausible}
use Rattle.transformer.specs.declared.HighSide.{HighSide}

-- 02, Ticket 2: "Turned away: 14 if a field is out of range, then 15 if uk is below uR or the apparent power exceeds twice Sn"
abbrev pub number_of : ConversionRefusal → ℕ
number_of OutOfRange = 14
number_of Implausible = 15

-- number, take and supply; a refusal has neither
abbrev pub given : Result HighSide ConversionRefusal → ℕ × (ℕ × ℕ)
given (Ok high) = (0, (high.take, high.supply))
given (Err refusal) = (number_of refusal, (0, 0))
