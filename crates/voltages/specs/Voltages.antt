-- Voltages as numbers, for contracts: a voltage from its count.
-- Assumes nothing.
use Rattle.std.specs.Prelude.{ℕ}
use Rattle.voltages.specs.declared.Voltage.{Voltage}

-- so many hundredths of a kilovolt (01, "Units": "voltage in 0.01 kV")
abbrev pub voltage : ℕ → Voltage
voltage n = record { 0 = n }
