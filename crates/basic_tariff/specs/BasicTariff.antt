-- 02, Ticket 3: the weighted supply point. Assumes nothing.
use Rattle.std.specs.Prelude.{ℕ, zero, suc, ◌+◌, ◌-◌, ◌*◌, ◌/◌, Bool, cond, ◌&&◌, ◌||◌, List, ltb, leb, eqb, length, get_or}
use Rattle.lists.specs.Lists.{any_below}

-- "For each point the drawn and the fed-in energy of the last 12 months (kWh ..)"
pub record Point : Type 0 where
  pub drawn : ℕ
  pub fed_in : ℕ

abbrev pub point : ℕ → ℕ → Point
point drawn fed_in = record { drawn = drawn; fed_in = fed_in }

-- the point at a place of the two rows of energies
abbrev pub point_at : List ℕ → List ℕ → ℕ → Point
point_at drawn fed_in i = point (get_or drawn i 0) (get_or fed_in i 0)

-- "the drawn part of their sum, the share, in thousandths, rounded down"
unfoldable pub share : Point → ℕ
share p = 1000 * p.drawn / (p.drawn + p.fed_in)

-- "K, in 600ths, is 0 up to share 200, 600 from share 800, and share − 200 between"
unfoldable pub K : ℕ → ℕ
K s = cond (leb s 200) 0 (cond (leb 800 s) 600 (s - 200))

-- "the sum of K": over the points at the first n places
unfoldable pub sum_of_K : (ℕ → Point) → ℕ → ℕ
sum_of_K points zero = 0
sum_of_K points (suc n) = sum_of_K points n + K (share (points n))

-- "The charge is the fixed tariff (rappen ..) times the sum of K .., divided by 600, rounded down at the end only"
unfoldable pub charge : ℕ → (ℕ → Point) → ℕ → ℕ
charge tariff points n = tariff * sum_of_K points n / 600

-- "(kWh, each at most 1,000,000,000,000)"
abbrev pub energy_out_of_range : ℕ → Bool
energy_out_of_range e = ltb 1000000000000 e

-- "a point drew and fed in nothing"
abbrev pub is_idle : Point → Bool
is_idle p = eqb p.drawn 0 && eqb p.fed_in 0

-- whether a point is turned away
unfoldable pub point_refused : Point → Bool
point_refused p = energy_out_of_range p.drawn || energy_out_of_range p.fed_in || is_idle p

-- whether one of the points at the first n places is
abbrev pub any_refused : (ℕ → Point) → ℕ → Bool
any_refused points n = any_below (λ i. point_refused (points i)) n

-- out of range: "the fixed tariff (rappen, at most 100,000,000)"; the count of "1 to 8 points"; or a row is, having fewer places than
-- there are points
unfoldable pub call_refused : ℕ → ℕ → List ℕ → List ℕ → Bool
call_refused tariff n drawn fed_in = ltb 100000000 tariff || ltb n 1 || ltb 8 n || ltb (length drawn) n || ltb (length fed_in) n

-- "Turned away: 16 if a field or the count of points is out of range or a point drew and fed in nothing"
unfoldable pub refused : ℕ → ℕ → List ℕ → List ℕ → Bool
refused tariff n drawn fed_in = call_refused tariff n drawn fed_in || any_refused (point_at drawn fed_in) n

-- 16, or 0 where nothing is turned away
unfoldable pub number : ℕ → ℕ → List ℕ → List ℕ → ℕ
number tariff n drawn fed_in = cond (refused tariff n drawn fed_in) 16 0

-- number and charge; a refusal has none
unfoldable pub charged : ℕ → ℕ → List ℕ → List ℕ → ℕ × ℕ
charged tariff n drawn fed_in =
    (number tariff n drawn fed_in, cond (refused tariff n drawn fed_in) 0 (charge tariff (point_at drawn fed_in) n))
