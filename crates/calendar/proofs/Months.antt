-- The calendar checked at known months, the quarters of a month from the tests that lead to them, and the longest month.
-- Assumes nothing.
use Prim.Native.Nat.{ℕ, ◌*◌, ◌≤◌}
use mathlib.Core.Path.{◌≡◌, refl}
use mathlib.Core.Bool.{Bool, true, false, cond, ◌&&◌, ◌||◌}
use native.Mathlib.Omega.{arith}
use borrow.Author.Tests.{eq-eqb, ne_eqb}
use lib.Dec.{eqb, leb}
use Rattle.calendar.specs.Calendar.{leap, days_of, quarters_of, most_quarters, calendar, all_met}

pub months : all_met calendar ≡ true
unfolding all_met quarters_of days_of leap
months = refl

module _ (y m : ℕ) where
  -- the quarters of a month from the tests that lead to them
  pub march : m ≡ 3 → 2972 ≡ quarters_of y m
  unfolding quarters_of
  march h = rw (eq-eqb m 3 h)

  module _ (h : m ≡ 3 → ⊥) where
    pub october : m ≡ 10 → 2980 ≡ quarters_of y m
    unfolding quarters_of
    october t = rw (ne_eqb m 3 h, eq-eqb m 10 t)

    pub by_days : (m ≡ 10 → ⊥) → (d : ℕ) → d ≡ days_of y m → 96 * d ≡ quarters_of y m
    unfolding quarters_of
    by_days f d e = rw (ne_eqb m 3 h, ne_eqb m 10 f, e)

-- no month has more days than 31
days_most : (y m : ℕ) → days_of y m ≤ 31
unfolding days_of
days_most y m = go (eqb m 2) (leap y) (eqb m 4 || eqb m 6 || eqb m 9 || eqb m 11) (leb 1 m && leb m 12)
  where
    go : (a b c d : Bool) → cond {A = ℕ} a (cond b 29 28) (cond c 30 (cond d 31 0)) ≤ 31
    go true true c d = omega arith
    go true false c d = omega arith
    go false b true d = omega arith
    go false b false true = omega arith
    go false b false false = omega arith

-- nor more quarters than October
pub quarters_most : (y m : ℕ) → quarters_of y m ≤ most_quarters
unfolding quarters_of
quarters_most y m = go (eqb m 3) (eqb m 10)
  where
    go : (a b : Bool) → cond {A = ℕ} a 2972 (cond b 2980 (96 * days_of y m)) ≤ most_quarters
    go true b = omega arith
    go false true = omega arith
    go false false = omega (arith, days_most y m)
