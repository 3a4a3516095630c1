-- What the range tests say of each number. Assumes nothing.
use Prim.Native.Nat.{◌≤◌}
use mathlib.Core.Path.{◌≡◌}
use mathlib.Core.Bool.{Bool, true}
use mathlib.Core.List.{[], ◌∷◌}
use borrow.Author.Tests.{leb-true}
use Rattle.refusals.proofs.Tests.{each}
use Rattle.quarter.specs.declared.Metered.{Metered}
use Rattle.quarter.specs.declared.Tariffs.{Tariffs}
use Rattle.quarter.specs.Ranges.{tariffs_in_range, metered_in_range}

-- the largest tariffs, in either role
pub record TariffsMost (t : Tariffs) : Type 0 where
  pub payment : t.payment ≤ 100000
  pub billing : t.billing ≤ 100000
  pub penalty : t.penalty ≤ 100000

pub tariffs_most : (semi_active : Bool) (t : Tariffs) → tariffs_in_range semi_active t ≡ true → TariffsMost t
unfolding tariffs_in_range
tariffs_most semi_active t h =
    let s = each _ (_ ∷ _ ∷ _ ∷ []) h in
    record { payment = leb-true _ _ s.0; billing = leb-true _ _ s.1.0; penalty = leb-true _ _ s.1.1.0 }

-- the largest numbers that are metered
pub record MeteredMost (m : Metered) : Type 0 where
  pub take : m.take ≤ 1000000
  pub supply : m.supply ≤ 1000000
  pub actual : m.actual.0 ≤ 50000
  pub set : m.set.0 ≤ 50000

pub metered_most : (m : Metered) → metered_in_range m ≡ true → MeteredMost m
unfolding metered_in_range
metered_most m h =
    let s = each _ (_ ∷ _ ∷ _ ∷ []) h in
    record {
      take = leb-true _ _ s.0;
      supply = leb-true _ _ s.1.0;
      actual = leb-true _ _ s.1.1.0;
      set = leb-true _ _ s.1.1.1;
    }
