-- `worth::Figures::minus` meets its contract: each column is a difference.
use Prim.Native.Nat.{◌-◌}
use Rattle.worth.specs.Figures.{figure}
use Rattle.worth.proofs.Columns.{made}
use Rattle.worth.proofs.Figures.minus.Goals as goal

pub returns : goal.returns
returns c =
    let a = c.args in
    made _ (λ k. figure a.self k - figure a.other k)
    c.minus.ensures
    c.minus-2.ensures
    c.minus-3.ensures
    c.minus-4.ensures
    c.minus-5.ensures
    c.minus-6.ensures
    c.minus-7.ensures
    c.minus-8.ensures
