-- Facts on tests: two together, either of two, and a test that denies another. Assumes nothing.
use mathlib.Core.Path.{◌≡◌, refl, sym, ◌∙◌}
use mathlib.Core.Bool.{Bool, true, false, false≢true, true≢false, not, ◌&&◌, ◌||◌, So}
use mathlib.Core.List.{List, [], ◌∷◌}
use borrow.Author.Tests.{not-true, not-false}

-- two tests that hold together
pub both : (a b : Bool) → (a && b) ≡ true → (a ≡ true) × (b ≡ true)
both true true h = (refl, refl)
both true false h = (refl, h)
both false b h = (h, absurd (false≢true h))

-- a test and those that follow it, as one test and one by one
abbrev pub joined : Bool → List Bool → Bool
joined a [] = a
joined a (b ∷ bs) = joined (a && b) bs

abbrev pub Hold : Bool → List Bool → Type 0
Hold a [] = a ≡ true
Hold a (b ∷ bs) = (a ≡ true) × Hold b bs

-- tests that hold together hold one by one
apart : (a b : Bool) (bs : List Bool) → Hold (a && b) bs → (a ≡ true) × Hold b bs
apart a b [] h = both a b h
apart a b (c ∷ bs) h = let k = both a b h.0 in (k.0, (k.1, h.1))

pub each : (a : Bool) (bs : List Bool) → joined a bs ≡ true → Hold a bs
each a [] h = h
each a (b ∷ bs) h = apart a b bs (each (a && b) bs h)

-- two tests of which neither holds
pub neither : (a b : Bool) → (a || b) ≡ false → (a ≡ false) × (b ≡ false)
neither true b h = absurd (true≢false h)
neither false b h = (refl, h)

-- a test that fails beside another
pub second_fails : (a b : Bool) → b ≡ false → (a && b) ≡ false
second_fails true b h = h
second_fails false b h = refl

-- tests that hold together are one
pub alike : (a b : Bool) → (So a → So b) → (So b → So a) → a ≡ b
alike true b f g = sym (f refl)
alike false true f g = g refl
alike false false f g = refl

-- a denial denied
pub not_not : (b : Bool) → not (not b) ≡ b
not_not true = refl
not_not false = refl

-- Code asks `if !t`, where t is the answer of a function that denies a condition w.
module _ (t w : Bool) (e : t ≡ not w) where
  -- turned down: the condition holds
  pub denied : not t ≡ true → w ≡ true
  denied h = not-false w (sym e ∙ not-true t h)

  -- passed: it does not
  pub granted : not t ≡ false → w ≡ false
  granted h = not-true w (sym e ∙ not-false t h)
