-- The root is the greatest of all numbers that pass, and the one number between whose square and the next one's the radicand lies.
-- Assumes nothing.
use Prim.Native.Nat.{ℕ, ◌+◌, ◌*◌, ◌/◌, ◌≤◌, ◌<◌}
use mathlib.Core.Path.{◌≡◌, refl, sym, ap, ◌∙◌}
use mathlib.Core.Bool.{Bool, true, false, not}
use native.Mathlib.Nat.{le_antisymm, mul-div-le, lt-mul-div-succ, mul-le-mul, mul-le-mul_left, mul-le-mul_right, mul-lt-mul_of_pos_right}
use native.Mathlib.Omega.{arith}
use borrow.Author.Tests.{ltb-true, ltb-false, leb-true, leb-false, le-ltb, not-true}
use lib.Dec.{ltb, leb}
use Rattle.transformer.specs.declared.DataSheet.{DataSheet}
use Rattle.transformer.specs.LowSide.{passes, root}
use Rattle.transformer.specs.Claims.{Greatest, RootIsGreatest}
use Rattle.transformer.proofs.Greatest.{greatest-passes, greatest-above}
use Rattle.transformer.proofs.Reduced.{radicand, passes_reduced}

-- of two numbers the larger has the larger square
pub square_lt : (a b : ℕ) → a < b → a * a < b * b
square_lt a b h =
    let less : a * a ≤ a * b = mul-le-mul_left a (omega arith) in
    let more : a * b < b * b = mul-lt-mul_of_pos_right h (omega arith) in
    omega arith

module _ (t : DataSheet) (h : 0 < t.sn) where
  -- what passes has a square of at most the radicand, times Sn
  at_most : (n : ℕ) → passes t n ≡ true → n * t.sn * (n * t.sn) ≤ radicand t
  at_most n e =
      ltb-false (radicand t) (n * t.sn * (n * t.sn))
      (not-true (ltb (radicand t) (n * t.sn * (n * t.sn))) (sym (passes_reduced t n) ∙ e))

  passing : (n : ℕ) → n * t.sn * (n * t.sn) ≤ radicand t → passes t n ≡ true
  passing n k = passes_reduced t n ∙ ap not (le-ltb (radicand t) (n * t.sn * (n * t.sn)) k)

  -- nothing above uk passes
  bounded : (n : ℕ) → passes t n ≡ true → n ≤ 100 * t.uk
  bounded n e = go (leb n (100 * t.uk)) refl
    where
      go : (b : Bool) → leb n (100 * t.uk) ≡ b → n ≤ 100 * t.uk
      go true f = leb-true n (100 * t.uk) f
      go false f =
          let more : 100 * t.uk * t.sn < n * t.sn = mul-lt-mul_of_pos_right (leb-false n (100 * t.uk) f) h in
          absurd (omega (arith, at_most n e, square_lt (100 * t.uk * t.sn) (n * t.sn) more))

  is_greatest : Greatest t
  unfolding root
  is_greatest =
      record {
        passed = greatest-passes (passes t) (passing 0 (omega arith)) (100 * t.uk);
        above = λ n e. greatest-above (passes t) (100 * t.uk) n (bounded n e) e;
      }

  -- the root lies so that the radicand is between its square and the next one's
  pub root_lower : root t * t.sn * (root t * t.sn) ≤ radicand t
  root_lower = at_most (root t) is_greatest.passed

  pub root_upper : radicand t < (root t + 1) * t.sn * ((root t + 1) * t.sn)
  root_upper = go (ltb (radicand t) ((root t + 1) * t.sn * ((root t + 1) * t.sn))) refl
    where
      go : (b : Bool) → ltb (radicand t) ((root t + 1) * t.sn * ((root t + 1) * t.sn)) ≡ b
          → radicand t < (root t + 1) * t.sn * ((root t + 1) * t.sn)
      go true e = ltb-true (radicand t) ((root t + 1) * t.sn * ((root t + 1) * t.sn)) e
      go false e =
          let higher : root t + 1 ≤ root t =
          is_greatest.above (root t + 1) (passing (root t + 1) (ltb-false (radicand t) ((root t + 1) * t.sn * ((root t + 1) * t.sn)) e))
          in
          absurd (omega arith)

  pub root_most : root t ≤ 100 * t.uk
  root_most = bounded (root t) is_greatest.passed

  -- and it is the only number that does
  pub root_is : (r : ℕ) → r * t.sn * (r * t.sn) ≤ radicand t → radicand t < (r + 1) * t.sn * ((r + 1) * t.sn) → r ≡ root t
  root_is r lower upper = le_antisymm (is_greatest.above r (passing r lower)) (go (leb (root t) r) refl)
    where
      go : (b : Bool) → leb (root t) r ≡ b → root t ≤ r
      go true e = leb-true (root t) r e
      go false e =
          let side : (r + 1) * t.sn ≤ root t * t.sn = mul-le-mul_right t.sn (omega (arith, leb-false (root t) r e)) in
          absurd (omega (arith, root_lower, mul-le-mul side side))

  -- found as the root of the radicand, over Sn
  pub root_found : (q : ℕ) → q * q ≤ radicand t → radicand t < (q + 1) * (q + 1) → q / t.sn ≡ root t
  root_found q lower upper =
      let side : q / t.sn * t.sn ≤ q = omega (arith, mul-div-le q t.sn) in
      let next : q + 1 ≤ (q / t.sn + 1) * t.sn = omega (arith, lt-mul-div-succ q h) in
      root_is (q / t.sn) (omega (arith, mul-le-mul side side)) (omega (arith, mul-le-mul next next))

pub root_is_greatest : RootIsGreatest
root_is_greatest t h = is_greatest t h
