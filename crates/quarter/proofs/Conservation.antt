-- The five shares always add up to |W|. With it: where 004 is silent, 01's reading; and no amount within 01's ranges is cut off.
-- Assumes nothing.
use Prim.Native.Nat.{ℕ, ◌+◌, ◌-◌, ◌≤◌}
use mathlib.Core.Path.{◌≡◌, refl, ap₂, ◌∙◌}
use mathlib.Core.Bool.{Bool, true, false, cond, ◌&&◌}
use native.Mathlib.Nat.{mul-le-mul}
use native.Mathlib.Omega.{arith}
use borrow.Author.Tests.{leb-false, le-leb, eqb-true, eq-eqb}
use lib.Dec.{leb, eqb}
use Rattle.quantity.specs.declared.Grains.{Grains}
use Rattle.quantity.specs.Quantity.{grains}
use Rattle.quarter.specs.declared.Role.{Role}
use Rattle.quarter.specs.declared.Role.TheVariants.{Active, SemiActive}
use Rattle.quarter.specs.declared.Level.{Level}
use Rattle.quarter.specs.declared.Class.{Class}
use Rattle.quarter.specs.declared.Class.TheVariants.{Paid, Free, Billed, Disconnected}
use Rattle.quarter.specs.declared.Metered.{Metered}
use Rattle.quarter.specs.declared.Tariffs.{Tariffs}
use Rattle.quarter.specs.Reading.{absolute, shares, none, filed, active_class, helps, semi_active_free, semi_active, of_role, exchanged, classified}
use Rattle.quarter.specs.Reading.{credit_of, debit_of, amounts, valued}
use Rattle.quarter.specs.Agreement.{total}
use Rattle.quarter.specs.Ranges.{tariffs_in_range, metered_in_range}
use Rattle.quarter.proofs.InRange.{tariffs_most, metered_most}

filed-total : (k : Class) (w a : Grains) → total (filed k w a) ≡ w.0 + a.0
unfolding total
filed-total Paid w a = omega arith
filed-total Free w a = omega arith
filed-total Billed w a = omega arith
filed-total Disconnected w a = omega arith

all_filed : (k : Class) (w : ℕ) → total (filed k (grains w) none) ≡ w
all_filed k w = filed-total k (grains w) none ∙ omega arith

semi_active-total : (l : Level) (b w u s : ℕ) (helping : Bool) → total (semi_active l b w u s helping) ≡ w
unfolding semi_active
semi_active-total l b w u s helping = go (leb w b) refl (leb s (u + semi_active_free l) && leb u (s + semi_active_free l)) helping
  where
    above : (k : Class) → leb w b ≡ false → total (filed k (grains (w - b)) (grains b)) ≡ w
    above k p = filed-total k (grains (w - b)) (grains b) ∙ omega (arith, leb-false w b p)

    go : (within : Bool) → leb w b ≡ within → (between helped : Bool)
        → total (cond within (filed Free (grains w) none)
        (cond between (filed Free (grains w) none)
        (cond helped (filed Paid (grains (w - b)) (grains b)) (filed Billed (grains (w - b)) (grains b))))) ≡ w
    go true p between helped = all_filed Free w
    go false p true helped = all_filed Free w
    go false p false true = above Paid p
    go false p false false = above Billed p

lamp-total : (lamp : Bool) (k : Class) (w : ℕ) → total (cond lamp (filed k (grains w) none) (filed Disconnected (grains w) none)) ≡ w
lamp-total true k w = all_filed k w
lamp-total false k w = all_filed Disconnected w

exchanged-total : (role : Role) (l : Level) (m : Metered) → total (exchanged role l m) ≡ absolute m
unfolding exchanged of_role
exchanged-total Active l m = lamp-total m.lamp (active_class l m) (absolute m)
exchanged-total (SemiActive b) l m = semi_active-total l b.0 (absolute m) m.actual.0 m.set.0 (helps l m)

-- paid, free, billed, allowance and disconnected are all of |W|, and nothing else
pub conserved : (role : Role) (l : Level) (m : Metered) → total (classified role l m) ≡ absolute m
unfolding classified
conserved role l m = go (eqb m.take m.supply) refl
  where
    go : (zero : Bool) → eqb m.take m.supply ≡ zero
        → total (cond zero (shares none none none none none) (exchanged role l m)) ≡ absolute m
    go true p = unfold total absolute in omega (arith, eqb-true m.take m.supply p)
    go false p = exchanged-total role l m

-- where 004 is silent, 01 says: "W = 0 gives all zero"
pub at_zero : (role : Role) (l : Level) (m : Metered) → m.take ≡ m.supply → classified role l m ≡ shares none none none none none
unfolding classified
at_zero role l m e = rw (eq-eqb m.take m.supply e)

-- and "|W| ≤ B: all free", with |W| = B among it
pub at_the_band : (b : Grains) (l : Level) (m : Metered) → absolute m ≡ b.0
    → classified (SemiActive b) l m ≡ filed Free (grains (absolute m)) none
unfolding classified exchanged of_role semi_active
at_the_band b l m e = go (eqb m.take m.supply) refl
  where
    go : (zero : Bool) → eqb m.take m.supply ≡ zero
        → cond zero (shares none none none none none) (exchanged (SemiActive b) l m) ≡ filed Free (grains (absolute m)) none
    go true p =
        let nothing : absolute m ≡ 0 = unfold absolute in omega (arith, eqb-true m.take m.supply p) in
        rw nothing
    go false p = rw (le-leb (absolute m) b.0 (omega arith))

-- the largest |W|: 1,000,000 kvarh
pub absolute_most : (m : Metered) → metered_in_range m ≡ true → absolute m ≤ 1600000000
unfolding absolute
absolute_most m h = let r = metered_most m h in omega arith

-- The amounts within 01's ranges.
module _ (role : Role) (l : Level) (m : Metered) (t : Tariffs) (hm : metered_in_range m ≡ true)
    (semi_active : Bool) (ht : tariffs_in_range semi_active t ≡ true) where
  -- no share is larger than |W|
  part_most : ((classified role l m).paid.0 ≤ 1600000000) × ((classified role l m).billed.0 ≤ 1600000000)
  part_most =
      let all = conserved role l m in
      let most = absolute_most m hm in
      unfold total in omega arith

  -- 1,000,000 kvarh, paid at 100,000
  pub credit_most : credit_of (classified role l m) t ≤ 160000000000000
  unfolding credit_of
  credit_most = mul-le-mul part_most.0 (tariffs_most semi_active t ht).payment

  -- and billed at 100,000, with a penalty of 100,000
  pub debit_most : debit_of (classified role l m) t ≤ 320000000000000
  unfolding debit_of
  debit_most =
      let r = tariffs_most semi_active t ht in
      let rate : t.billing + t.penalty ≤ 200000 = omega arith in
      mul-le-mul part_most.1 rate

  -- 64 bits hold both amounts: nothing is cut off
  pub exact : valued (classified role l m) t ≡ amounts (credit_of (classified role l m) t) (debit_of (classified role l m) t)
  unfolding valued
  exact = let c = credit_most in let d = debit_most in ap₂ amounts (omega arith) (omega arith)
