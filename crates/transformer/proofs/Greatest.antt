-- The laws of `greatest`. Assumes nothing.
use Prim.Native.Nat.{ℕ, zero, suc, ◌≤◌}
use mathlib.Core.Path.{◌≡◌, refl, sym, ap, ◌∙◌}
use mathlib.Core.Bool.{Bool, true, false, false≢true, cond}
use native.Mathlib.Omega.{arith}
use borrow.Author.Tests.{leb-true, leb-false}
use lib.Dec.{leb}
use Rattle.transformer.specs.Greatest.{greatest}

module _ (passes : ℕ → Bool) where
  -- it passes, where 0 does
  pub greatest-passes : passes 0 ≡ true → (n : ℕ) → passes (greatest passes n) ≡ true
  greatest-passes z zero = z
  greatest-passes z (suc n) = go (passes (suc n)) refl (greatest-passes z n)
    where
      go : (t : Bool) → passes (suc n) ≡ t → passes (greatest passes n) ≡ true
          → passes (cond t (suc n) (greatest passes n)) ≡ true
      go true e later = e
      go false e later = later

  -- no number up to the bound that passes is above it
  pub greatest-above : (n k : ℕ) → k ≤ n → passes k ≡ true → k ≤ greatest passes n
  greatest-above zero k h e = h
  greatest-above (suc n) k h e = go (passes (suc n)) refl (greatest-above n k)
    where
      go : (t : Bool) → passes (suc n) ≡ t → (k ≤ n → passes k ≡ true → k ≤ greatest passes n)
          → k ≤ cond t (suc n) (greatest passes n)
      go true f later = h
      go false f later = later (below f) e
        where
          below : passes (suc n) ≡ false → k ≤ n
          below f = pick (leb k n) refl
            where
              pick : (t : Bool) → leb k n ≡ t → k ≤ n
              pick true i = leb-true k n i
              pick false i =
                  let same : k ≡ suc n = omega (arith, leb-false k n i, h) in
                  absurd (false≢true (sym f ∙ ap passes (sym same) ∙ e))
