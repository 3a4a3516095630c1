-- The quarters of a month: document 01, "Month file", as 02, Ticket 7, amends it. Assumes nothing.
use Rattle.std.specs.Prelude.{ℕ, ◌*◌, ◌%◌, Bool, true, cond, not, ◌&&◌, ◌||◌, List, [], ◌∷◌, eqb, leb}

-- the Gregorian calendar's leap years
unfoldable pub leap : ℕ → Bool
leap year = eqb (year % 4) 0 && not (eqb (year % 100) 0) || eqb (year % 400) 0

-- the days of a month; a month outside 1 to 12 has none
unfoldable pub days_of : ℕ → ℕ → ℕ
days_of year month =
    cond (eqb month 2) (cond (leap year) 29 28)
    (cond (eqb month 4 || eqb month 6 || eqb month 9 || eqb month 11) 30
    (cond (leb 1 month && leb month 12) 31
    0))

-- 01: "The month has 96 quarters a day, by the Gregorian calendar"; 02, Ticket 7: "four quarters fewer in March and four more in
-- October: 2,972 and 2,980, and 96 a day in all other months"
unfoldable pub quarters_of : ℕ → ℕ → ℕ
quarters_of year month =
    cond (eqb month 3) 2972
    (cond (eqb month 10) 2980
    (96 * days_of year month))

-- the most quarters that a month can have: those of October
abbrev pub most_quarters : ℕ
most_quarters = 2980

-- A month that was looked up in the calendar, and its quarters.
pub record Known : Type 0 where
  pub year : ℕ
  pub month : ℕ
  pub quarters : ℕ

abbrev pub known : ℕ → ℕ → ℕ → Known
known y m q = record { year = y; month = m; quarters = q }

-- Februaries of the years that the rule tells apart, each length of month, and numbers that are no month
abbrev pub calendar : List Known
calendar =
    known 2024 2 2784
    ∷ known 2023 2 2688
    ∷ known 2100 2 2688
    ∷ known 2000 2 2784
    ∷ known 1900 2 2688
    ∷ known 2020 1 2976
    ∷ known 2021 3 2972
    ∷ known 2024 3 2972
    ∷ known 2021 4 2880
    ∷ known 2021 5 2976
    ∷ known 2021 6 2880
    ∷ known 2021 7 2976
    ∷ known 2021 8 2976
    ∷ known 2021 9 2880
    ∷ known 2021 10 2980
    ∷ known 2024 10 2980
    ∷ known 2021 11 2880
    ∷ known 2020 12 2976
    ∷ known 2020 0 0
    ∷ known 2020 13 0
    ∷ []

-- Each month of the list has the quarters that `quarters_of` gives.
unfoldable pub all_met : List Known → Bool
all_met [] = true
all_met (k ∷ ks) = eqb (quarters_of k.year k.month) k.quarters && all_met ks
