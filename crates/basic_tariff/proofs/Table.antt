-- A rule of a table, proved at all of its places by one test that antt computes, one place after the other. Assumes nothing.
use mathlib.Core.Path.{◌≡◌, ◌∙◌, subst, sym}
use mathlib.Core.Bool.{Bool, true, ◌&&◌}
use mathlib.Core.List.{List, [], ◌∷◌}
use Prim.Native.Nat.{ℕ, zero, suc, ◌+◌, ◌<◌}
use native.Mathlib.Nat.{add-zero, zero-add, add-suc, suc-add, le_of_suc-le-suc, not-suc-le-zero}
use lib.ListN.{length, get_or}
use Rattle.refusals.proofs.Tests.{both}

module _ (passes : ℕ → ℕ → Bool) where
  -- whether each number of the table passes with its place, counted from i
  abbrev pub everywhere : ℕ → List ℕ → Bool
  everywhere i [] = true
  everywhere i (x ∷ xs) = passes i x && everywhere (suc i) xs

  from : (xs : List ℕ) (i : ℕ) → everywhere i xs ≡ true → (k : ℕ) → k < length xs → passes (i + k) (get_or xs k 0) ≡ true
  from [] i t k h = absurd (not-suc-le-zero h)
  from (x ∷ xs) i t zero h = subst (λ (m : ℕ). passes m x ≡ true) (sym (add-zero i)) (both (passes i x) (everywhere (suc i) xs) t).0
  from (x ∷ xs) i t (suc k) h =
      subst (λ (m : ℕ). passes m (get_or xs k 0) ≡ true) (suc-add i k ∙ sym (add-suc i k))
      (from xs (suc i) (both (passes i x) (everywhere (suc i) xs) t).1 k (le_of_suc-le-suc h))

  pub at : (xs : List ℕ) → everywhere 0 xs ≡ true → (k : ℕ) → k < length xs → passes k (get_or xs k 0) ≡ true
  at xs t k h = subst (λ (m : ℕ). passes m (get_or xs k 0) ≡ true) (zero-add k) (from xs 0 t k h)
