-- The order of refusals, for every call of document 01. Assumes nothing.
use Rattle.std.specs.Prelude.{ℕ, Bool, cond, List, [], ◌∷◌}

-- 01, "Numbers from the state": "The lowest place in that order counts, and a number is returned only if its condition
-- holds." "An accepted call gives number 0."
abbrev pub first : List (ℕ × Bool) → ℕ
first [] = 0
first (c ∷ cs) = cond c.1 c.0 (first cs)
