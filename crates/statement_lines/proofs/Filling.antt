-- The lines of a statement. Assumes nothing.
use Prim.Native.Nat.{ℕ, suc, ◌<◌}
use mathlib.Core.Path.{◌≡◌, refl, ap₂}
use mathlib.Core.List.{List, [], ◌∷◌, map}
use native.Mathlib.Omega.{arith}
use lib.ListN.{length, get_or}
use Rattle.quantity.specs.Quantity.{rappen}
use Rattle.worth.specs.declared.Figures.{Figures}
use Rattle.statement_text.specs.declared.Line.{Line}
use Rattle.statement_lines.specs.Lines.{line_of}

-- the line that has a point's figures
pub made : (f : Figures) (l : Line) → l.absolute ≡ f.absolute.0 → l.paid ≡ f.paid.0 → l.free ≡ f.free.0
    → l.billed ≡ f.billed.0 → l.allowance ≡ f.allowance.0 → l.disconnected ≡ f.disconnected.0
    → l.credit ≡ rappen f.credit.0 → l.debit ≡ rappen f.debit.0 → l ≡ line_of f
unfolding line_of
made f l a p u b w d c e =
    λ i.
    record {
      absolute = a i;
      paid = p i;
      free = u i;
      billed = b i;
      allowance = w i;
      disconnected = d i;
      credit = c i;
      debit = e i;
    }

-- as many lines, each that of the figures in its place
pub mapped : (fs : List Figures) (ls : List Line) → length ls ≡ length fs
    → ((i : ℕ) (d : Figures) (e : Line) → i < length fs → get_or ls i e ≡ line_of (get_or fs i d)) → ls ≡ map line_of fs
mapped [] [] n h = refl
mapped [] (l ∷ ls) n h = absurd (omega arith)
mapped (f ∷ fs) [] n h = absurd (omega arith)
mapped (f ∷ fs) (l ∷ ls) n h = ap₂ ◌∷◌ (h 0 f l (omega arith)) (mapped fs ls (omega arith) (λ i d e k. h (suc i) d e (omega arith)))
