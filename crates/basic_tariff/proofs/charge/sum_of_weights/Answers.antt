-- `basic_tariff::charge::sum_of_weights` meets its contract: each pair of the rows is accepted.
use mathlib.Core.Path.{◌≡◌, refl, sym, subst}
use mathlib.Core.Bool.{Bool, false}
use Prim.Native.Nat.{ℕ}
use Rattle.std.proofs.Common.{rules}
use Rattle.std.proofs.lemmas.Iterator.{YieldsList-from_slice, YieldsList-from_zip}
use Rattle.std.proofs.lemmas.Iterator.Adapters.{serves_from_places}
use Rattle.basic_tariff.specs.BasicTariff.{point, point_refused}
use Rattle.basic_tariff.proofs.Rows.{none-at_place}
use Rattle.basic_tariff.proofs.charge.sum_of_weights.Goals as goal

pub sum-requires-clause-can : goal.sum-requires-clause-can
sum-requires-clause-can c =
    let refused : ℕ × ℕ → Bool = λ p. point_refused (point p.0 p.1) in
    let rows = YieldsList-from_zip (YieldsList-from_slice c.args.drawn.now cc) (YieldsList-from_slice c.args.fed_in.now cc) in (
      (tt, tt),
      serves_from_places rows (λ x q r. refl) (λ x k h e.
          let accepted : refused (x.0.now, x.1.now) ≡ false =
          subst (λ (p : ℕ × ℕ). refused p ≡ false) (sym e) (none-at_place refused _ k _ c.requires.accepted h) in
          search rules),
    )
