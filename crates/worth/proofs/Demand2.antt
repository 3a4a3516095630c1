-- Demand 2 for a point, and that each point has a limit. Assumes nothing.
use Prim.Native.Nat.{ℕ, ◌/◌}
use mathlib.Core.Path.{◌≡◌, sym, ap, subst, ◌∙◌}
use mathlib.Core.Bool.{Bool, true, false, cond, not, ◌&&◌, ◌||◌}
use native.Mathlib.Nat.{mul-div_cancel}
use borrow.Author.Tests.{eqb-true}
use lib.Dec.{leb, eqb}
use Rattle.refusals.proofs.Tests.{both}
use Rattle.quantity.specs.declared.Grains.{Grains}
use Rattle.quantity.specs.Fraction.{Fraction}
use Rattle.quantity.specs.Quantity.{grains}
use Rattle.quarter.specs.declared.Role.TheVariants.{Active, SemiActive}
use Rattle.quarter.specs.declared.Metered.{Metered}
use Rattle.quarter.specs.declared.Tariffs.{Tariffs}
use Rattle.quarter.specs.Reading.{band}
use Rattle.quarter.specs.Ranges.{tariffs_in_range}
use Rattle.quarter.specs.Agreement.{Exactly, Lawful}
use Rattle.quarter.proofs.Agreement.{agrees}
use Rattle.quarter.proofs.Band.{band_exact}
use Rattle.point_record.specs.declared.Point.{Point}
use Rattle.point_record.specs.Point.{counted}
use Rattle.point_record.proofs.Points as Points
use Rattle.entry_record.proofs.Entries as Entries
use Rattle.worth.specs.Worth.{role_of, worth, worth_held}
use Rattle.worth.specs.Demand2.{Limit, Figures004, Demand2}
use Rattle.worth.proofs.Held.{held}

-- two numbers of grains that are exactly the same fraction are equal
one_number : (a b : ℕ) (q : Fraction) → Exactly a q → Exactly b q → a ≡ b
one_number a b q x y =
    sym (mul-div_cancel a x.proper) ∙ ap (λ (n : ℕ). n / q.under) (x.same ∙ sym y.same) ∙ mul-div_cancel b x.proper

-- the limit of a point is its band
pub limit_band : (p : Point) → Limit p (band (counted p))
limit_band p = band_exact (counted p)

-- 01's penalty of a semi-active point is 0
penalty_zero : (s : Bool) (b : Grains) (t : Tariffs) → (not s || eqb t.penalty 0) ≡ true → Lawful (cond s (SemiActive b) Active) t
penalty_zero true b t h = eqb-true _ _ h
penalty_zero false b t h = tt

no_penalty : (s : Bool) (b : Grains) (t : Tariffs) → tariffs_in_range s t ≡ true → Lawful (cond s (SemiActive b) Active) t
unfolding tariffs_in_range
no_penalty s b t h =
    let most = leb t.payment 100000 && leb t.billing 100000 && leb t.penalty 100000 in
    penalty_zero s b t (both most (not s || eqb t.penalty 0) h).1

-- the exact figures of a point are 004's at its band
at_the_band : (p : Point) (m : Metered) → tariffs_in_range p.semi_active p.tariffs ≡ true
    → Figures004 p (band (counted p)) m (worth p p.tariffs m)
unfolding worth
at_the_band p m h =
    let a = agrees (role_of p) p.level m p.tariffs in
    record {
      paid = a.paid;
      free = a.free;
      billed = a.billed;
      credit = a.credit;
      debit = a.debit (no_penalty p.semi_active (grains (band (counted p))) p.tariffs h);
    }

-- "the paid, free and billed energy and both amounts are those of" 004
pub demand_2 : Demand2
demand_2 p lim e hp hl he =
    let tariffs = (Points.in_range_lem p hp).tariffs in
    let m = e.metered in
    let exact = held p p.tariffs m tariffs (Entries.in_range_lem e he).metered in
    subst (λ (n : ℕ). Figures004 p n m (worth_held p p.tariffs m)) (one_number (band (counted p)) lim _ (limit_band p) hl)
    (subst (Figures004 p (band (counted p)) m) (sym exact) (at_the_band p m tariffs))
