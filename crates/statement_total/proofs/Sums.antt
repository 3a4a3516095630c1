-- Sums of lines, column by column. Assumes nothing.
use Prim.Native.Nat.{ℕ, zero, suc, ◌+◌, ◌*◌, ◌^◌, ◌<◌, ◌≤◌}
use mathlib.Core.Path.{◌≡◌, refl, ap, ◌∙◌}
use mathlib.Core.List.{List, [], ◌∷◌, ◌++◌}
use native.Mathlib.Numerals.{add-one}
use native.Mathlib.Omega.{arith}
use lib.ListN.{length, get_or, take}
use lib.Seq.{take-suc}
use Rattle.statement_text.specs.declared.Line.{Line}
use Rattle.worth.specs.Figures.{Column, Absolute, Paid, Free, Billed, Allowance, Disconnected, Credit, Debit}
use Rattle.statement_total.specs.Total.{figure_of, line_with, no_figures, sum, total_line, Addable}

-- what was put into a column is the figure there
with_column : (n : Column → ℕ) (c : Column) → figure_of (line_with n) c ≡ n c
with_column n Absolute = refl
with_column n Paid = refl
with_column n Free = refl
with_column n Billed = refl
with_column n Allowance = refl
with_column n Disconnected = refl
with_column n Credit = refl
with_column n Debit = refl

-- the total's figure in a column is the sum of the column
pub total_column : (ls : List Line) (c : Column) → figure_of (total_line ls) c ≡ sum c ls
unfolding total_line
total_column ls c = with_column (λ d. sum d ls) c

-- one line more
sum_snoc : (c : Column) (ls : List Line) (l : Line) → sum c (ls ++ l ∷ []) ≡ sum c ls + figure_of l c
unfolding sum
sum_snoc c [] l = omega arith
sum_snoc c (k ∷ ls) l = omega (arith, sum_snoc c ls l)

-- the first i + 1 lines
sum-next : (c : Column) (ls : List Line) (i : ℕ) → i < length ls
    → sum c (take (i + 1) ls) ≡ sum c (take i ls) + figure_of (get_or ls i no_figures) c
sum-next c ls i h =
    ap (λ (n : ℕ). sum c (take n ls)) (add-one i) ∙ ap (sum c) (take-suc ls i no_figures h) ∙ sum_snoc c (take i ls) (get_or ls i no_figures)

-- the first of lines that can be added can
pub addable_take : (k : ℕ) (ls : List Line) → Addable ls → Addable (take k ls)
unfolding Addable
addable_take zero ls h i c = omega (arith, with_column (λ d. 0) c)
addable_take (suc k) [] h i c = h i c
addable_take (suc k) (l ∷ ls) h zero c = h zero c
addable_take (suc k) (l ∷ ls) h (suc i) c = addable_take k ls (λ j d. h (suc j) d) i c

-- Lines that can be added.
module _ (ls : List Line) (addable : Addable ls) where
  -- a sum is below as many eighths of 2 to the power of 64 as it has lines
  sum_most : (c : Column) (i : ℕ) → i ≤ length ls → sum c (take i ls) ≤ i * 2 ^ 61
  unfolding sum Addable
  sum_most c zero h = omega arith
  sum_most c (suc i) h =
      omega (arith, ap (λ (n : ℕ). sum c (take n ls)) (add-one i), sum-next c ls i (omega arith), sum_most c i (omega arith), addable i c)

  -- The total of the first i, and the next line.
  module _ (i : ℕ) (h : i < length ls) (most : i < 8) (t : Line) (e : t ≡ total_line (take i ls)) where
    -- 64 bits hold the sums
    pub next_held : (c : Column) → figure_of t c + figure_of (get_or ls i no_figures) c < 2 ^ 64
    unfolding Addable
    next_held c = rw e (omega (arith, total_column (take i ls) c, sum_most c i (omega arith), addable i c))

    -- and they are the total of the first i + 1
    pub next-total : (r : Line) → r ≡ line_with (λ c. figure_of t c + figure_of (get_or ls i no_figures) c)
        → r ≡ total_line (take (i + 1) ls)
    unfolding total_line
    next-total r f =
        f
        ∙ ap (λ (l : Line). line_with (λ c. figure_of l c + figure_of (get_or ls i no_figures) c)) e
        ∙ (λ k. line_with (λ c. figures c k))
      where
        figures : (c : Column) → figure_of (total_line (take i ls)) c + figure_of (get_or ls i no_figures) c ≡ sum c (take (i + 1) ls)
        figures c = omega (arith, total_column (take i ls) c, sum-next c ls i h)

-- no line yet
pub none_added : no_figures ≡ total_line []
unfolding total_line sum
none_added = refl
