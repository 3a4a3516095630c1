-- A field of one bit, which holds a flag. Assumes nothing.
use Prim.Native.Nat.{ℕ, ◌<◌}
use mathlib.Core.Path.{◌≡◌, refl, sym}
use mathlib.Core.Bool.{Bool, true, false}
use native.Mathlib.Omega.{arith}
use borrow.Author.Tests.{eqb-true, eqb-false}
use lib.Dec.{eqb}
use mir.Val.{bool_byte}

-- a flag fits one bit
pub bit_fits : (b : Bool) → bool_byte b < 2
bit_fits false = omega arith
bit_fits true = omega arith

-- and flag and bit give each other back
pub bit_back : (b : Bool) → eqb (bool_byte b) 1 ≡ b
bit_back false = refl
bit_back true = refl

pub bit_forth : (v : ℕ) → v < 2 → bool_byte (eqb v 1) ≡ v
bit_forth v h = go (eqb v 1) refl
  where
    go : (b : Bool) → eqb v 1 ≡ b → bool_byte b ≡ v
    go true e = sym (eqb-true v 1 e)
    go false e = let n = eqb-false v 1 e in omega arith
