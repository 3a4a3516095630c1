-- Tests over a list and over places, and a list made place by place. The library's `any` and `all` say the same as the first two,
-- but do not compute outside their module. Assumes nothing.
use Rattle.std.specs.Prelude.{ℕ, zero, suc, Bool, true, false, ◌&&◌, ◌||◌, List, [], ◌∷◌, ◌++◌}

-- whether one of the list passes a test
unfoldable pub any_of : {A : Type 0} → (A → Bool) → List A → Bool
any_of p [] = false
any_of p (x ∷ l) = p x || any_of p l

-- whether each of the list does
unfoldable pub all_of : {A : Type 0} → (A → Bool) → List A → Bool
all_of p [] = true
all_of p (x ∷ l) = p x && all_of p l

-- whether one of the places below n passes a test
unfoldable pub any_below : (ℕ → Bool) → ℕ → Bool
any_below p zero = false
any_below p (suc n) = any_below p n || p n

-- what stands at the places below n, in their order
unfoldable pub places_below : {A : Type 0} → (ℕ → A) → ℕ → List A
places_below f zero = []
places_below f (suc n) = places_below f n ++ f n ∷ []
