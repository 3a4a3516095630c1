-- What a private step of the conversion answers. No exported contract cites this file. Assumes nothing.
use Rattle.std.specs.Prelude.{ℕ, ◌+◌, ◌*◌, nat_abs}
use Rattle.transformer.specs.declared.LowSide.{LowSide}

-- the square of the apparent energy. That of the apparent power is 16 times as much
abbrev pub squared_energy : LowSide → ℕ
squared_energy low = nat_abs low.active * nat_abs low.active + nat_abs low.reactive * nat_abs low.reactive
