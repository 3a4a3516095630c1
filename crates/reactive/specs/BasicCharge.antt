-- 02, Ticket 3, as a C program calls it, on plain numbers. Assumes nothing.
use Rattle.std.specs.Prelude.{ℕ, cond, List, eqb}
use Rattle.basic_tariff.specs.BasicTariff.{number, charged}

-- the number, and the charge afterwards: that of the points, or what it was beside a refusal
unfoldable pub called : ℕ → ℕ → List ℕ → List ℕ → ℕ → ℕ × ℕ
called tariff n drawn fed_in before =
    (number tariff n drawn fed_in, cond (eqb (number tariff n drawn fed_in) 0) (charged tariff n drawn fed_in).1 before)
