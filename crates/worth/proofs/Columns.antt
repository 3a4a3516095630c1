-- Figures, column by column. Assumes nothing.
use Prim.Native.Nat.{ℕ}
use mathlib.Core.Path.{◌≡◌, refl}
use mathlib.Core.Bool.{true}
use borrow.Author.Tests.{eqb-true, eq-eqb}
use lib.Dec.{eqb}
use Rattle.refusals.proofs.Tests.{both}
use Rattle.worth.specs.declared.Figures.{Figures}
use Rattle.worth.specs.Figures.{Column, Absolute, Paid, Free, Billed, Allowance, Disconnected, Credit, Debit, figure, each, same}

-- figures with these numbers in their columns are those figures
pub made : (f : Figures) (n : Column → ℕ)
    → f.absolute.0 ≡ n Absolute → f.paid.0 ≡ n Paid → f.free.0 ≡ n Free → f.billed.0 ≡ n Billed
    → f.allowance.0 ≡ n Allowance → f.disconnected.0 ≡ n Disconnected → f.credit.0 ≡ n Credit → f.debit.0 ≡ n Debit
    → f ≡ each n
made f n a p r b l d c e =
    λ i.
    record {
      absolute = record { 0 = a i };
      paid = record { 0 = p i };
      free = record { 0 = r i };
      billed = record { 0 = b i };
      allowance = record { 0 = l i };
      disconnected = record { 0 = d i };
      credit = record { 0 = c i };
      debit = record { 0 = e i };
    }

-- figures are equal where each column is
pub columns : (f g : Figures) → ((c : Column) → figure f c ≡ figure g c) → f ≡ g
columns f g h =
    made f (figure g) (h Absolute) (h Paid) (h Free) (h Billed) (h Allowance) (h Disconnected) (h Credit) (h Debit)

-- what was put into a column is the figure there
pub each_column : (n : Column → ℕ) (c : Column) → figure (each n) c ≡ n c
each_column n Absolute = refl
each_column n Paid = refl
each_column n Free = refl
each_column n Billed = refl
each_column n Allowance = refl
each_column n Disconnected = refl
each_column n Credit = refl
each_column n Debit = refl

-- figures that the test calls the same are equal
pub same_true : (f g : Figures) → same f g ≡ true → f ≡ g
unfolding same
same_true f g h =
    let e = both _ _ h in
    let c = both _ _ e.0 in
    let d = both _ _ c.0 in
    let l = both _ _ d.0 in
    let b = both _ _ l.0 in
    let r = both _ _ b.0 in
    let p = both _ _ r.0 in
    made f (figure g) (eqb-true _ _ p.0) (eqb-true _ _ p.1) (eqb-true _ _ r.1) (eqb-true _ _ b.1) (eqb-true _ _ l.1)
    (eqb-true _ _ d.1) (eqb-true _ _ c.1) (eqb-true _ _ e.1)

-- a number is equal to itself
equal : (n : ℕ) → eqb n n ≡ true
equal n = eq-eqb n n refl

-- and figures are the same as themselves
pub same_self : (f : Figures) → same f f ≡ true
unfolding same
same_self f = simp equal
