-- The laws of `first`: which numbers it gives, when it gives 0, and how it is found test by test. Assumes nothing.
use Prim.Native.Nat.{ℕ, ◌<◌}
use mathlib.Core.Path.{◌≡◌, refl, ◌∙◌}
use mathlib.Core.Bool.{Bool, true, false, false≢true, cond, ◌||◌, or-true}
use mathlib.Core.List.{List, [], ◌∷◌, ◌++◌}
use native.Mathlib.Omega.{arith}
use borrow.Author.Tests.{eq-eqb, ne_eqb, ltb-true}
use lib.Dec.{ltb, eqb}
use Rattle.refusals.specs.Refusals.{first}

-- One condition of a list: `first` chooses between its number and that of the conditions after it.
module _ (n rest : ℕ) {b : Bool} where
  -- one that does not hold is passed over
  pub skip : b ≡ false → cond b n rest ≡ rest
  skip h = rw h

  -- the first that holds gives its number
  pub stop : b ≡ true → cond b n rest ≡ n
  stop h = rw h

-- whether a number is 0 or one of the list's
abbrev pub listed : ℕ → List (ℕ × Bool) → Bool
listed n [] = eqb n 0
listed n (c ∷ cs) = eqb n c.0 || listed n cs

-- the number given is 0 or one of the list's
pub given_listed : (cs : List (ℕ × Bool)) → listed (first cs) cs ≡ true
given_listed [] = refl
given_listed (c ∷ cs) = go c.1 (given_listed cs)
  where
    go : (t : Bool) → listed (first cs) cs ≡ true → listed (cond t c.0 (first cs)) (c ∷ cs) ≡ true
    go true later = rw (eq-eqb c.0 c.0 refl)
    go false later = rw later (or-true (eqb (first cs) c.0))

-- none of the conditions holds
abbrev pub NoneHolds : List (ℕ × Bool) → Type 0
NoneHolds [] = Unit {0}
NoneHolds (c ∷ cs) = (c.1 ≡ false) × NoneHolds cs

-- whether each number of the list is above 0
abbrev pub positive : List (ℕ × Bool) → Bool
positive [] = true
positive (c ∷ cs) = cond (ltb 0 c.0) (positive cs) false

-- a number that is above 0 is not 0
pub refuse : {n : ℕ} → 0 < n → eqb n 0 ≡ false
refuse {n} p = ne_eqb n 0 (λ e. omega arith)

-- where the number is 0, none of them holds
pub none_holds : (cs : List (ℕ × Bool)) → positive cs ≡ true → first cs ≡ 0 → NoneHolds cs
none_holds [] p h = tt
none_holds (c ∷ cs) p h = go (ltb 0 c.0) c.1 refl refl p h (none_holds cs)
  where
    go : (q t : Bool) → ltb 0 c.0 ≡ q → c.1 ≡ t → cond q (positive cs) false ≡ true → cond t c.0 (first cs) ≡ 0
        → (positive cs ≡ true → first cs ≡ 0 → NoneHolds cs) → (c.1 ≡ false) × NoneHolds cs
    go true true e f p h later = let k = ltb-true 0 c.0 e in absurd (omega arith)
    go true false e f p h later = (f, later p h)
    go false t e f p h later = absurd (false≢true p)

-- and where none holds, the number is 0
pub all_passed : (cs : List (ℕ × Bool)) → NoneHolds cs → first cs ≡ 0
all_passed [] h = refl
all_passed (c ∷ cs) h = skip c.0 (first cs) h.0 ∙ all_passed cs h.1

-- conditions after others of which none holds
pub past : (before cs : List (ℕ × Bool)) → NoneHolds before → first (before ++ cs) ≡ first cs
past [] cs h = refl
past (c ∷ before) cs h = skip c.0 (first (before ++ cs)) h.0 ∙ past before cs h.1

-- conditions after others that give a number above 0
pub decided : (before cs : List (ℕ × Bool)) (n : ℕ) → 0 < n → first before ≡ n → first (before ++ cs) ≡ n
decided [] cs n p h = absurd (omega arith)
decided (c ∷ before) cs n p h = go c.1 h (decided before cs n p)
  where
    go : (t : Bool) → cond t c.0 (first before) ≡ n → (first before ≡ n → first (before ++ cs) ≡ n)
        → cond t c.0 (first (before ++ cs)) ≡ n
    go true h later = h
    go false h later = later h
