-- The band of a point from what its places add to it, and its largest value. Assumes nothing.
use Prim.Native.Nat.{ℕ, zero, suc, ◌+◌, ◌*◌, ◌^◌, ◌≤◌, ◌<◌}
use mathlib.Core.Path.{◌≡◌, refl, ap, ◌∙◌}
use mathlib.Core.Bool.{Bool, true, false, not}
use mathlib.Core.List.{[], ◌∷◌}
use native.Mathlib.Nat.{mul-le-mul}
use native.Mathlib.Omega.{arith}
use borrow.Author.Tests.{lt-ltb, not-true, not-false}
use lib.Dec.{ltb}
use lib.ListN.{take}
use lib.Seq.{take-nil}
use Rattle.quantity.specs.declared.Grains.{Grains}
use Rattle.quantity.specs.Quantity.{grains}
use Rattle.quarter.specs.declared.Transformer.{Transformer}
use Rattle.quarter.specs.Reading.{band}
use Rattle.point_record.specs.declared.Point.{Point}
use Rattle.point_record.specs.Point.{point_in_range, counted, product}
use Rattle.point_record.proofs.Points.{Most, in_range_lem}

-- a product of two numbers of 16 bits
pub product_lt : (a b : ℕ) → a < 2 ^ 16 → b < 2 ^ 16 → a * b < 2 ^ 32
product_lt a b ha hb = let k : a * b ≤ 65535 * 65535 = mul-le-mul {n₂ = 65535} {m₂ = 65535} (omega arith) (omega arith) in omega arith

-- the two answers of a place
pub spare : (b : Bool) (t : Transformer) → not b ≡ true → 0 ≡ product b t
spare b t h = rw (not-true b h)

pub in_use : (b : Bool) (t : Transformer) → not b ≡ false → t.uk * t.sn ≡ product b t
in_use b t h = rw (not-false b h)

-- what the four places add is the band of those that are counted
places : (n : ℕ) (s t u v : Transformer)
    → product (ltb 0 n) s + product (ltb 1 n) t + product (ltb 2 n) u + product (ltb 3 n) v
    ≡ band (take n (s ∷ t ∷ u ∷ v ∷ []))
unfolding band
places zero s t u v = refl
places (suc zero) s t u v = omega arith
places (suc (suc zero)) s t u v = omega arith
places (suc (suc (suc zero))) s t u v = omega arith
places (suc (suc (suc (suc n)))) s t u v =
    let m = suc (suc (suc (suc n))) in
    let z : band (take n []) ≡ 0 = ap band (take-nil n) in
    rw (lt-ltb 0 m (omega arith), lt-ltb 1 m (omega arith), lt-ltb 2 m (omega arith), lt-ltb 3 m (omega arith)) (omega arith)

pub band_made : (p : Point) (a b c d : ℕ) → a ≡ product (ltb 0 p.transformers) p.first → b ≡ product (ltb 1 p.transformers) p.second
    → c ≡ product (ltb 2 p.transformers) p.third → d ≡ product (ltb 3 p.transformers) p.fourth
    → (r : Grains) → r ≡ grains (a + b + c + d) → r ≡ grains (band (counted p))
unfolding counted
band_made p a b c d ea eb ec ed r e =
    e ∙ ap grains ((λ i. ea i + eb i + ec i + ed i) ∙ places p.transformers p.first p.second p.third p.fourth)

-- a place adds at most 4,000 times 20,000
product_most : (b : Bool) (t : Transformer) → Most t → product b t ≤ 80000000
product_most true t m = mul-le-mul m.uk m.sn
product_most false t m = omega arith

-- 01: "B (.. 1 to 320,000,000)"
pub band_most : (p : Point) → point_in_range p ≡ true → band (counted p) ≤ 320000000
unfolding counted
band_most p h =
    let r = in_range_lem p h in
    let n = p.transformers in
    let e = places n p.first p.second p.third p.fourth in
    let a = product_most (ltb 0 n) p.first r.first in
    let b = product_most (ltb 1 n) p.second r.second in
    let c = product_most (ltb 2 n) p.third r.third in
    let d = product_most (ltb 3 n) p.fourth r.fourth in
    omega arith
