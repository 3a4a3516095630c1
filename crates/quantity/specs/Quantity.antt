-- Energy and money as numbers, for contracts: a value of each from its count, and the largest count.
-- Assumes nothing.
use Rattle.std.specs.Prelude.{ℕ, ◌+◌, ◌-◌, ◌/◌, ◌^◌, min}
use Rattle.quantity.specs.declared.Grains.{Grains}
use Rattle.quantity.specs.declared.Amount.{Amount}

-- 01, "Units": "A grain is 1/1600 kvarh."
abbrev pub per_kvarh : ℕ
per_kvarh = 1600

-- 01, "Units": "Amounts are grains times tariff, so 1,600,000 of them make one rappen (0.01 CHF)."
abbrev pub per_rappen : ℕ
per_rappen = 1600000

-- so many grains
abbrev pub grains : ℕ → Grains
grains n = record { 0 = n }

-- so many amounts
abbrev pub amount : ℕ → Amount
amount n = record { 0 = n }

-- what a count of `bits` bits holds of n: n, or the largest count where n is larger
abbrev pub capped : ℕ → ℕ → ℕ
capped bits n = min n (2 ^ bits - 1)

-- 01, "Statement": rappen are "(amount + 800,000) divided by 1,600,000, rounded down"
abbrev pub rappen : ℕ → ℕ
rappen n = (n + 800000) / per_rappen
