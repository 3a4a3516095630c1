-- The band of document 01, uk times Sn summed, is 004's limit in grains, exactly.
-- Assumes nothing.
use Prim.Native.Nat.{ℕ, ◌+◌, ◌*◌}
use mathlib.Core.Path.{◌≡◌, refl, sym, ap, ap₂, ◌∙◌}
use mathlib.Core.List.{List, [], ◌∷◌}
use native.Mathlib.Nat.{one-mul, mul-one, mul_comm, mul_assoc, add-mul, mul-add, mul-pos}
use native.Mathlib.Omega.{arith}
use lib.Dec.{lit<}
use Rattle.quantity.specs.Fraction.{Fraction, sum}
use Rattle.quarter.specs.declared.Transformer.{Transformer}
use Rattle.quarter.specs.Reading.{band}
use Rattle.quarter.specs.Source.{ΔWQTrafo, ΔWQlim}
use Rattle.quarter.specs.Agreement.{Exactly}

one : (t : Transformer) → Exactly (t.uk * t.sn) (ΔWQTrafo t)
unfolding ΔWQTrafo
one t =
    record {
      proper = lit< tt;
      same = rw (one-mul (t.uk * 1 * (t.sn * 25)), mul-one t.uk, ← mul_assoc t.uk t.sn 25) (omega arith);
    }

both : (x y : ℕ) (p q : Fraction) → Exactly x p → Exactly y q → Exactly (x + y) (sum p q)
both x y p q a b =
    let left : x * (p.under * q.under) ≡ 1600000 * (p.over * q.under) =
    sym (mul_assoc x p.under q.under)
    ∙ ap (λ (k : ℕ). k * q.under) a.same
    ∙ mul_assoc 1600000 p.over q.under
    in
    let right : y * (p.under * q.under) ≡ 1600000 * (q.over * p.under) =
    ap (λ (k : ℕ). y * k) (mul_comm p.under q.under)
    ∙ sym (mul_assoc y q.under p.under)
    ∙ ap (λ (k : ℕ). k * p.under) b.same
    ∙ mul_assoc 1600000 q.over p.under
    in
    record {
      proper = mul-pos a.proper b.proper;
      same =
          add-mul x y (p.under * q.under)
          ∙ ap₂ ◌+◌ left right
          ∙ sym (mul-add 1600000 (p.over * q.under) (q.over * p.under));
    }

pub band_exact : (ts : List Transformer) → Exactly (band ts) (ΔWQlim ts)
unfolding band ΔWQlim
band_exact [] = record { proper = lit< tt; same = refl }
band_exact (t ∷ ts) = both (t.uk * t.sn) (band ts) (ΔWQTrafo t) (ΔWQlim ts) (one t) (band_exact ts)
