-- The point: what its range test says of its fields, and that they hold it. Assumes nothing.
use Prim.Native.Nat.{ℕ, ◌≤◌, ◌<◌}
use mathlib.Core.Path.{◌≡◌, refl, sym, ◌∙◌}
use mathlib.Core.Bool.{Bool, true, false, not, ◌&&◌, ◌||◌, or-false}
use mathlib.Core.List.{[], ◌∷◌}
use native.Mathlib.Omega.{arith}
use borrow.Author.Rules.{rules}
use borrow.Author.Tests.{leb-true, eqb-true}
use lib.Dec.{leb, eqb}
use Rattle.refusals.proofs.Tests.{both, each}
use Rattle.bits.specs.Fields.{Fit}
use Rattle.quarter.specs.declared.Level.{Level}
use Rattle.quarter.specs.declared.Level.TheVariants.{Kv220, Kv380}
use Rattle.quarter.specs.declared.Transformer.{Transformer}
use Rattle.quarter.specs.Ranges.{tariffs_in_range}
use Rattle.quarter.specs.Reading.{level_bit}
use Rattle.quarter.proofs.InRange.{tariffs_most}
use Rattle.point_record.specs.declared.Point.{Point}
use Rattle.point_record.specs.Point.{point_widths, point_values, place_in_range, point_in_range, point_kind}
use Rattle.record_fields.proofs.Answers.{Lawful}
use Rattle.record_fields.proofs.OneBit.{bit_fits}

-- the largest uk and Sn of a place that is in range, counted or not
pub record Most (t : Transformer) : Type 0 where
  pub uk : t.uk ≤ 4000
  pub sn : t.sn ≤ 20000

place_most : (b : Bool) (t : Transformer) → place_in_range b t ≡ true → Most t
unfolding place_in_range
place_most true t h =
    let k : (leb 1 t.uk && leb t.uk 4000 && leb 1 t.sn && leb t.sn 20000) ≡ true = sym (or-false _) ∙ h in
    let s = both _ _ k in
    let l = both _ (leb 1 t.sn) s.0 in
    let u = both (leb 1 t.uk) _ l.0 in
    record { uk = leb-true _ _ u.1; sn = leb-true _ _ s.1 }
place_most false t h =
    let s = both _ _ h in
    let u : t.uk ≡ 0 = eqb-true _ _ s.0 in
    let v : t.sn ≡ 0 = eqb-true _ _ s.1 in
    record { uk = omega arith; sn = omega arith }

-- at most four transformers, in either role
count_most : (s : Bool) (n : ℕ) → (s && leb 1 n && leb n 4 || not s && eqb n 0) ≡ true → n ≤ 4
count_most true n h =
    let t : (leb 1 n && leb n 4) ≡ true = sym (or-false _) ∙ h in
    leb-true _ _ (both (leb 1 n) _ t).1
count_most false n h = let e : n ≡ 0 = eqb-true _ _ h in omega arith

-- what 01's rules give for each field
pub record InRange (p : Point) : Type 0 where
  pub transformers : p.transformers ≤ 4
  pub tariffs : tariffs_in_range p.semi_active p.tariffs ≡ true
  pub first : Most p.first
  pub second : Most p.second
  pub third : Most p.third
  pub fourth : Most p.fourth

pub in_range_lem : (p : Point) → point_in_range p ≡ true → InRange p
unfolding point_in_range
in_range_lem p h =
    let s = each _ (_ ∷ _ ∷ _ ∷ _ ∷ _ ∷ []) h in
    record {
      transformers = count_most p.semi_active p.transformers s.0;
      tariffs = s.1.0;
      first = place_most _ _ s.1.1.0;
      second = place_most _ _ s.1.1.1.0;
      third = place_most _ _ s.1.1.1.1.0;
      fourth = place_most _ _ s.1.1.1.1.1;
    }

-- a level fits one bit
level_fits : (l : Level) → level_bit l < 2
level_fits Kv220 = omega arith
level_fits Kv380 = omega arith

values_fit : (p : Point) → point_in_range p ≡ true → Fit point_widths (point_values p)
values_fit p h =
    let r = in_range_lem p h in
    let t = tariffs_most p.semi_active p.tariffs r.tariffs in (
      bit_fits p.semi_active,
      (
        level_fits p.level,
        (
          omega arith,
          (
            omega arith,
            (
              omega arith,
              (
                omega arith,
                (omega arith, (omega arith, (omega arith, (omega arith, (omega arith, (omega arith, (omega arith, (omega arith, tt)))))))),
              ),
            ),
          ),
        ),
      ),
    )

pub point_lawful : Lawful point_kind
point_lawful = record { filled = refl; short = omega arith; narrow = search rules; fit = values_fit }
