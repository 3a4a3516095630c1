-- The figures of points as numbers, put into a slice point by point. Assumes nothing.
use Prim.Native.Nat.{ℕ, ◌+◌, ◌*◌, ◌≤◌, ◌<◌}
use mathlib.Core.Path.{◌≡◌, refl, sym, ap, ap₂, ◌∙◌}
use mathlib.Core.List.{List, [], ◌∷◌, ◌++◌}
use native.Mathlib.Nat.{not-suc-le-zero}
use native.Mathlib.Numerals.{add-one}
use native.Mathlib.Omega.{arith}
use lib.ListN.{length, get_or, take}
use lib.Seq.{take-suc, take_all, length-take-le}
use Rattle.bits.specs.Fields.{with_words}
use Rattle.bits.proofs.Sequence.{with_more, length_with}
use Rattle.worth.specs.declared.Figures.{Figures}
use Rattle.worth.specs.Figures.{figure, nothing, Absolute, Paid, Free, Billed, Allowance, Disconnected, Credit, Debit}
use Rattle.call_answers.specs.Answers.{columns, length_and_figures}

-- a point has eight figures
length-columns : (fs : List Figures) → length (columns fs) ≡ 8 * length fs
unfolding columns
length-columns [] = refl
length-columns (f ∷ fs) = omega (arith, length-columns fs)

-- the figures of points behind points
columns-++ : (fs gs : List Figures) → columns (fs ++ gs) ≡ columns fs ++ columns gs
unfolding columns
columns-++ [] gs = refl
columns-++ (f ∷ fs) gs =
    ap
    (λ (l : List ℕ).
    figure f Absolute
    ∷ figure f Paid
    ∷ figure f Free
    ∷ figure f Billed
    ∷ figure f Allowance
    ∷ figure f Disconnected
    ∷ figure f Credit
    ∷ figure f Debit
    ∷ l)
    (columns-++ fs gs)

-- one point more
columns-next : (fs : List Figures) (i : ℕ) → i < length fs
    → columns (take (i + 1) fs) ≡ columns (take i fs) ++ columns (get_or fs i nothing ∷ [])
columns-next fs i h =
    ap (λ (k : ℕ). columns (take k fs)) (add-one i)
    ∙ ap columns (take-suc fs i nothing h)
    ∙ columns-++ (take i fs) (get_or fs i nothing ∷ [])

-- the length of L before figures that are there
given_some : (n : ℕ) (fs : List Figures) → 0 < length fs → length_and_figures n fs ≡ n ∷ columns fs
unfolding length_and_figures
given_some n [] h = absurd (not-suc-le-zero h)
given_some n (f ∷ fs) h = refl

-- the eight figures of a point, put one after the other
pub figures-stored : (out xs : List ℕ) (at : ℕ) (f : Figures) (n₁ n₂ n₃ n₄ n₅ n₆ n₇ n₈ : ℕ)
    → n₁ ≡ f.absolute.0
    → n₂ ≡ f.paid.0
    → n₃ ≡ f.free.0
    → n₄ ≡ f.billed.0
    → n₅ ≡ f.allowance.0
    → n₆ ≡ f.disconnected.0
    → n₇ ≡ f.credit.0
    → n₈ ≡ f.debit.0
    → xs ≡ with_words out at (n₁ ∷ n₂ ∷ n₃ ∷ n₄ ∷ n₅ ∷ n₆ ∷ n₇ ∷ n₈ ∷ [])
    → xs ≡ with_words out at (columns (f ∷ []))
unfolding columns
figures-stored out xs at f n₁ n₂ n₃ n₄ n₅ n₆ n₇ n₈ e₁ e₂ e₃ e₄ e₅ e₆ e₇ e₈ e =
    e ∙ (λ i. with_words out at (e₁ i ∷ e₂ i ∷ e₃ i ∷ e₄ i ∷ e₅ i ∷ e₆ i ∷ e₇ i ∷ e₈ i ∷ []))

-- a slice with the figures of the first i points in it, from a place on
abbrev pub filled : List ℕ → ℕ → List Figures → ℕ → List ℕ
filled out at fs i = with_words out at (columns (take i fs))

-- eight points that are put one after the other
module _ (out : List ℕ) (at : ℕ) (fs : List Figures) (eight : length fs ≡ 8) (room : at + 512 ≤ length out) where
  -- how many numbers these are
  size : (i : ℕ) → i ≤ 8 → length (columns (take i fs)) ≡ 8 * i
  size i h = omega (arith, length-columns (take i fs), length-take-le i fs (omega arith))

  -- the slice keeps its length
  pub length_filled : (i : ℕ) (xs : List ℕ) → i ≤ 8 → xs ≡ filled out at fs i → length xs ≡ length out
  length_filled i xs h e = ap length e ∙ length_with out at _ (omega (arith, size i h))

  -- one point more
  pub next_filled : (i : ℕ) (xs ys : List ℕ) → i < 8 → xs ≡ filled out at fs i
      → ys ≡ with_words xs (at + 64 * i) (columns (get_or fs i nothing ∷ [])) → ys ≡ filled out at fs (i + 1)
  next_filled i xs ys h e d =
      let ns = columns (take i fs) in
      let new = columns (get_or fs i nothing ∷ []) in
      let n : length ns ≡ 8 * i = size i (omega arith) in
      let m : length new ≡ 8 = length-columns (get_or fs i nothing ∷ []) in
      let place : at + 64 * i ≡ at + 8 * length ns = omega arith in
      d
      ∙ ap₂ (λ (l : List ℕ) (k : ℕ). with_words l k new) e place
      ∙ with_more out at ns new (omega arith)
      ∙ ap (with_words out at) (sym (columns-next fs i (omega arith)))

-- a number, the length of L and the figures of eight points
pub totals-stored : (out : List ℕ) (at number entries : ℕ) (fs : List Figures) → length fs ≡ 8 → at + 528 ≤ length out
    → (l xs : List ℕ) (i : ℕ) → l ≡ with_words out at (number ∷ entries ∷ []) → 8 ≤ i → xs ≡ filled l (at + 16) fs i
    → xs ≡ with_words out at (number ∷ length_and_figures entries fs)
totals-stored out at number entries fs eight room l xs i start h e =
    e
    ∙ ap₂ (λ (l : List ℕ) (gs : List Figures). with_words l (at + 16) (columns gs)) start (take_all i fs (omega arith))
    ∙ with_more out at (number ∷ entries ∷ []) (columns fs) (omega (arith, length-columns fs))
    ∙ ap (λ (ns : List ℕ). with_words out at (number ∷ ns)) (sym (given_some entries fs (omega arith)))
