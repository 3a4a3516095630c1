-- What is claimed of 02's conversion: against source document 001, and for the entry that it ends up in. Assumes nothing.
use Rattle.std.specs.Prelude.{ℕ, ◌+◌, ◌*◌, ◌≤◌, ◌<◌, ◌⊎◌, ◌≡◌, true}
use Rattle.quantity.specs.Fraction.{Fraction, ratio, whole, square, is_below, nearest}
use Rattle.transformer.specs.declared.LowSide.{LowSide}
use Rattle.transformer.specs.declared.DataSheet.{DataSheet}
use Rattle.transformer.specs.Steps.{squared_energy}
use Rattle.transformer.specs.Surd.{surd, plus, with_root, surd_below, below_surd}
use Rattle.transformer.specs.Source.{lost_energy}
use Rattle.transformer.specs.LowSide.{number, passes, root, loss, converted}

-- the root passes, and is the greatest of all numbers that do
pub record Greatest (t : DataSheet) : Type 0 where
  pub passed : passes t (root t) ≡ true
  pub above : (n : ℕ) → passes t n ≡ true → n ≤ root t

abbrev pub RootIsGreatest : Type 0
RootIsGreatest = (t : DataSheet) → 0 < t.sn → Greatest t

-- the loss in whole numbers, as the code works it out: what `loss` has from 001's own formula, with the root in millionths and
-- rounded once, is this fraction, rounded once
abbrev pub LossReduced : Type 0
LossReduced =
    (low : LowSide) (t : DataSheet) → 0 < t.sn
    → loss low t ≡ nearest (ratio (squared_energy low * root t + 62500 * t.i0 * t.sn * t.sn) (25000000 * t.sn))

-- "the loss is less than 1 kvarh from the exact formula, the root being compared through squares of whole numbers": the formula's
-- value is below the loss and 1, and the loss below the formula's value and 1
pub record Near (low : LowSide) (t : DataSheet) : Type 0 where
  pub below : surd_below (lost_energy low t) (whole (loss low t + 1)) ≡ true
  pub above : below_surd (whole (loss low t)) (plus (lost_energy low t) (whole 1)) ≡ true

abbrev pub LessThanOne : Type 0
LessThanOne = (low : LowSide) (t : DataSheet) → number low t ≡ 0 → Near low t

-- "take if positive, else supply, of an ordinary entry": an entry's energies are at most 1,000,000; and one of the two is 0
pub record Fits (low : LowSide) (t : DataSheet) : Type 0 where
  pub take : (converted low t).1.0 ≤ 1000000
  pub supply : (converted low t).1.1 ≤ 1000000
  pub single : ((converted low t).1.0 ≡ 0) ⊎ ((converted low t).1.1 ≡ 0)

abbrev pub FitsAnEntry : Type 0
FitsAnEntry = (low : LowSide) (t : DataSheet) → Fits low t

-- what the two tests of a number with a root in it are where the root is a fraction: those of fractions
pub record Ordered (a f r q : Fraction) : Type 0 where
  pub below : surd_below (surd a f (square r)) q ≡ is_below (with_root (surd a f (square r)) r) q
  pub above : below_surd q (surd a f (square r)) ≡ is_below q (with_root (surd a f (square r)) r)

abbrev pub OrderOfRoots : Type 0
OrderOfRoots = (a f r q : Fraction) → 0 < f.under → 0 < r.under → Ordered a f r q
