-- The greatest number that passes a test. Assumes nothing.
use Rattle.std.specs.Prelude.{ℕ, zero, suc, Bool, cond}

-- the greatest number up to a bound that passes, and 0 where none above 0 does
abbrev pub greatest : (ℕ → Bool) → ℕ → ℕ
greatest passes zero = 0
greatest passes (suc n) = cond (passes (suc n)) (suc n) (greatest passes n)
