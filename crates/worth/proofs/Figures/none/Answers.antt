-- `worth::Figures::none` meets its contract: each column is 0.
use mathlib.Core.Path.{◌≡◌, ap, ◌∙◌}
use native.Mathlib.Omega.{arith}
use Rattle.quantity.specs.declared.Grains.{Grains}
use Rattle.worth.proofs.Columns.{made}
use Rattle.worth.proofs.Figures.none.Goals as goal

pub returns : goal.returns
returns c =
    let none : c.of-nothing.result.0 ≡ 0 = ap (λ (g : Grains). g.0) c.of-nothing.ensures in
    let worthless : c.times-worthless.result.0 ≡ 0 = c.times-worthless.ensures ∙ omega arith in
    made _ (λ k. 0) none none none none none none worthless worthless
