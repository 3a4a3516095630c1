-- 02's number of a refusal, and what a charge gives. Assumes nothing.
use Rattle.std.specs.Prelude.{ℕ, Result, Ok, Err}
use Rattle.basic_tariff.specs.declared.ChargeRefusal.{ChargeRefusal}
use Rattle.basic_tariff.specs.declared.ChargeRefusal.TheVariants.{OutOfRange}

-- 02, Ticket 3: "Turned away: 16 if .."
abbrev pub number_of : ChargeRefusal → ℕ
number_of OutOfRange = 16

-- number and charge; a refusal has none
abbrev pub given : Result ℕ ChargeRefusal → ℕ × ℕ
given (Ok charge) = (0, charge)
given (Err refusal) = (number_of refusal, 0)
