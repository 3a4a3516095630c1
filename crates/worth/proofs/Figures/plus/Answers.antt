-- `worth::Figures::plus` meets its contract: each column is a sum.
use Prim.Native.Nat.{◌+◌}
use Rattle.quantity.specs.Quantity.{capped}
use Rattle.worth.specs.Figures.{figure}
use Rattle.worth.proofs.Columns.{made}
use Rattle.worth.proofs.Figures.plus.Goals as goal

pub returns : goal.returns
returns c =
    let a = c.args in
    made _ (λ k. capped 64 (figure a.self k + figure a.other k))
    c.plus.ensures
    c.plus-2.ensures
    c.plus-3.ensures
    c.plus-4.ensures
    c.plus-5.ensures
    c.plus-6.ensures
    c.plus-7.ensures
    c.plus-8.ensures
