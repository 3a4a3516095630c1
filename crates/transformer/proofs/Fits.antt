-- Take and supply fit an entry. Assumes nothing.
use Prim.Native.Nat.{ℕ, ◌≤◌}
use mathlib.Core.Logic.{◌⊎◌, inl, inr}
use mathlib.Core.Path.{◌≡◌, refl}
use mathlib.Core.Bool.{Bool, true, false, cond}
use native.Mathlib.Omega.{arith}
use borrow.Author.Tests.{eqb-true, leb-true, leb-false}
use lib.Dec.{eqb, leb}
use lib.IntN.{ℤ, pos, nat_abs}
use lib.Signed.{lt_z}
use Rattle.std.proofs.lemmas.Int.{ints}
use Rattle.transformer.specs.declared.LowSide.{LowSide}
use Rattle.transformer.specs.declared.DataSheet.{DataSheet}
use Rattle.transformer.specs.Source.{QOS}
use Rattle.transformer.specs.LowSide.{number, loss, high_side, entered, converted}
use Rattle.transformer.specs.Claims.{FitsAnEntry}
use Rattle.transformer.specs.Steps.{squared_energy}
use Rattle.transformer.proofs.Roots.{square_lt}
use Rattle.transformer.proofs.Bounds.{squares_most, loss_most}

-- both numbers of an entry are small, and one is 0
abbrev Small : ℕ × ℕ → Type 0
Small e = (e.0 ≤ 1000000) × ((e.1 ≤ 1000000) × ((e.0 ≡ 0) ⊎ (e.1 ≡ 0)))

-- 15 keeps the reactive energy so small
reactive_most : (low : LowSide) → squared_energy low ≤ 62500000000 → nat_abs low.reactive ≤ 250000
reactive_most low h = go (leb (nat_abs low.reactive) 250000) refl
  where
    go : (b : Bool) → leb (nat_abs low.reactive) 250000 ≡ b → nat_abs low.reactive ≤ 250000
    go true e = leb-true (nat_abs low.reactive) 250000 e
    go false e = absurd (omega (arith, h, square_lt 250000 (nat_abs low.reactive) (leb-false (nat_abs low.reactive) 250000 e)))

-- the loss at most doubles it
high_most : (z : ℤ) (l : ℕ) → nat_abs z ≤ 250000 → l ≤ 250000 → nat_abs (QOS z l) ≤ 1000000
unfolding QOS
high_most z l h k = grind (arith, ints)

small : (e : ℤ) → nat_abs e ≤ 1000000 → Small (entered e)
unfolding entered
small e h = go (lt_z (pos 0) e)
  where
    go : (b : Bool) → Small (cond b (nat_abs e, 0) (0, nat_abs e))
    go true = (h, (omega arith, inr refl))
    go false = (omega arith, (h, inl refl))

fits : (low : LowSide) (t : DataSheet) → Small (converted low t).1
unfolding converted high_side
fits low t = go (eqb (number low t) 0) refl
  where
    go : (b : Bool) → eqb (number low t) 0 ≡ b → Small (cond b (entered (QOS low.reactive (loss low t))) (0, 0))
    go true e =
        let n : number low t ≡ 0 = eqb-true (number low t) 0 e in
        small (QOS low.reactive (loss low t)) (high_most low.reactive (loss low t) (reactive_most low (squares_most low t n)) (loss_most low t n))
    go false e = (omega arith, (omega arith, inl refl))

pub fits_an_entry : FitsAnEntry
fits_an_entry low t = record { take = (fits low t).0; supply = (fits low t).1.0; single = (fits low t).1.1 }
