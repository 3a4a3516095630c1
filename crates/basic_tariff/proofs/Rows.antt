-- The counted points as pairs of the two rows, as the code goes through them. Assumes nothing.
use Prim.Native.Nat.{ℕ, zero, suc, ◌+◌, ◌≤◌, ◌<◌}
use mathlib.Core.Path.{◌≡◌, refl, ap, ap₂, ◌∙◌}
use mathlib.Core.Bool.{Bool, false, ◌||◌, or-false}
use mathlib.Core.List.{List, [], ◌∷◌, ◌++◌}
use native.Mathlib.Nat.{zero-add}
use native.Mathlib.Omega.{arith}
use lib.ListN.{length, get_or, take}
use lib.Seq.{take-suc}
use Rattle.std.specs.List.{list_any, zip, sum_by}
use Rattle.std.proofs.lemmas.List.{length-take-le}
use Rattle.std.proofs.lemmas.List.Folds.{list_any-append}
use Rattle.std.proofs.lemmas.List.Sums.{sum_by-append}
use Rattle.refusals.proofs.Tests.{neither}
use Rattle.lists.specs.Lists.{any_below}
use Rattle.basic_tariff.specs.BasicTariff.{point, point_at, share, K, point_refused, any_refused, sum_of_K}

-- one pair more
zip-next : (xs ys : List ℕ) (x y : ℕ) → length xs ≡ length ys → zip (xs ++ x ∷ []) (ys ++ y ∷ []) ≡ zip xs ys ++ (x, y) ∷ []
zip-next [] [] x y h = refl
zip-next [] (b ∷ ys) x y h = absurd (omega arith)
zip-next (a ∷ xs) [] x y h = absurd (omega arith)
zip-next (a ∷ xs) (b ∷ ys) x y h = ap (λ (l : List (ℕ × ℕ)). (a, b) ∷ l) (zip-next xs ys x y (omega arith))

-- where none of a list passes a test, none at a place does
pub none-at_place : {A : Type 0} (p : A → Bool) (xs : List A) (k : ℕ) (d : A) → list_any p xs ≡ false → k < length xs → p (get_or xs k d) ≡ false
none-at_place p [] k d h i = absurd (omega arith)
none-at_place p (x ∷ xs) zero d h i = (neither (p x) (list_any p xs) h).0
none-at_place p (x ∷ xs) (suc k) d h i = none-at_place p xs k d (neither (p x) (list_any p xs) h).1 (omega arith)

-- The first n places of two rows that have as many.
module _ (drawn fed_in : List ℕ) where
  pairs-next : (n : ℕ) → n < length drawn → n < length fed_in
      → zip (take (suc n) drawn) (take (suc n) fed_in) ≡ zip (take n drawn) (take n fed_in) ++ (get_or drawn n 0, get_or fed_in n 0) ∷ []
  pairs-next n h k =
      let as_long : length (take n drawn) ≡ length (take n fed_in) = omega (arith, length-take-le n drawn, length-take-le n fed_in) in
      ap₂ zip (take-suc drawn n 0 h) (take-suc fed_in n 0 k) ∙ zip-next (take n drawn) (take n fed_in) (get_or drawn n 0) (get_or fed_in n 0) as_long

  pub any_pairs : (n : ℕ) → n ≤ length drawn → n ≤ length fed_in
      → list_any (λ p. point_refused (point p.0 p.1)) (zip (take n drawn) (take n fed_in)) ≡ any_refused (point_at drawn fed_in) n
  unfolding any_below
  any_pairs zero h k = refl
  any_pairs (suc n) h k =
      let test : ℕ × ℕ → Bool = λ p. point_refused (point p.0 p.1) in
      let rest = zip (take n drawn) (take n fed_in) in
      ap (list_any test) (pairs-next n (omega arith) (omega arith))
      ∙ list_any-append test rest ((get_or drawn n 0, get_or fed_in n 0) ∷ [])
      ∙ ap₂ ◌||◌ (any_pairs n (omega arith) (omega arith)) (or-false (point_refused (point_at drawn fed_in n)))

  pub sum_pairs : (n : ℕ) → n ≤ length drawn → n ≤ length fed_in
      → sum_by (λ p. K (share (point p.0 p.1))) (zip (take n drawn) (take n fed_in)) ≡ sum_of_K (point_at drawn fed_in) n
  unfolding sum_of_K
  sum_pairs zero h k = refl
  sum_pairs (suc n) h k =
      let weight : ℕ × ℕ → ℕ = λ p. K (share (point p.0 p.1)) in
      let rest = zip (take n drawn) (take n fed_in) in
      ap (sum_by weight) (pairs-next n (omega arith) (omega arith))
      ∙ sum_by-append weight rest ((get_or drawn n 0, get_or fed_in n 0) ∷ [])
      ∙ ap₂ ◌+◌ (sum_pairs n (omega arith) (omega arith)) (zero-add (K (share (point_at drawn fed_in n))))
