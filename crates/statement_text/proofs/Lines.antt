-- The lines of the points, one after the other. Assumes nothing.
use Prim.Native.Nat.{ℕ, suc, ◌+◌, ◌<◌}
use mathlib.Core.Path.{◌≡◌, sym, ap, ◌∙◌}
use mathlib.Core.List.{List, [], ◌∷◌, ◌++◌, append-nil, append_assoc}
use native.Mathlib.Numerals.{add-one}
use native.Mathlib.Omega.{arith}
use lib.ListN.{length, get_or, take}
use lib.Seq.{take-suc, length-take-le}
use Rattle.statement_text.specs.declared.Line.{Line}
use Rattle.statement_text.specs.declared.page.Page.{Page}
use Rattle.statement_text.specs.Steps.{Behind}
use Rattle.statement_text.specs.Text.{point_text, points_text}
use Rattle.statement_text.proofs.Pages.{none, ◌then◌}

-- the line of a point behind those of the points before it
one_more : (p : ℕ) (ls : List Line) (l : Line) → points_text p (ls ++ l ∷ []) ≡ points_text p ls ++ point_text (p + length ls) l
unfolding points_text
one_more p [] l = let e : p ≡ p + 0 = omega arith in append-nil (point_text p l) ∙ ap (λ (n : ℕ). point_text n l) e
one_more p (k ∷ ls) l =
    let e : suc p + length ls ≡ p + suc (length ls) = omega arith in
    ap (λ (t : List ℕ). point_text p k ++ t) (one_more (suc p) ls l ∙ ap (λ (n : ℕ). points_text (suc p) ls ++ point_text n l) e)
    ∙ sym (append_assoc (point_text p k) (points_text (suc p) ls) (point_text (p + suc (length ls)) l))

-- the same, for the lines that the code has written
lines_next : (ls : List Line) (i : ℕ) (d : Line) → i < length ls
    → points_text 0 (take (i + 1) ls) ≡ points_text 0 (take i ls) ++ point_text i (get_or ls i d)
lines_next ls i d h =
    let e : 0 + length (take i ls) ≡ i = omega (arith, length-take-le i ls (omega arith)) in
    ap (λ (n : ℕ). points_text 0 (take n ls)) (add-one i)
    ∙ ap (points_text 0) (take-suc ls i d h)
    ∙ one_more 0 (take i ls) (get_or ls i d)
    ∙ ap (λ (n : ℕ). points_text 0 (take i ls) ++ point_text n (get_or ls i d)) e

-- no line yet
pub no_line : (p : Page) (ls : List Line) → Behind p (points_text 0 (take 0 ls)) p
unfolding points_text
no_line p ls = none p

-- one line more
pub next_line : (p q r : Page) (ls : List Line) (i : ℕ) (d : Line) → i < length ls
    → Behind p (points_text 0 (take i ls)) q → Behind q (point_text i (get_or ls i d)) r → Behind p (points_text 0 (take (i + 1) ls)) r
next_line p q r ls i d h b l = rw (lines_next ls i d h) (b then l)
