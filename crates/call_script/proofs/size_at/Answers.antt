-- `call_script::size_at` meets its contract.
use mathlib.Core.Path.{ap, ◌∙◌}
use native.Mathlib.Omega.{arith}
use Rattle.call_script.specs.Kinds.{byte_of}
use Rattle.call_script.proofs.Scripts.{size_past, size_delivery, size_one, size_other}
use Rattle.call_script.proofs.size_at.Goals as goal

pub returns-then-script-at : goal.returns-then-script-at
returns-then-script-at c = size_past _ _ (omega arith)

pub returns-in-Ok-Deliver : goal.returns-in-Ok-Deliver
returns-in-Ok-Deliver c =
    let byte = c.in-Ok-Deliver.ensures ∙ ap byte_of c.in-Ok-Deliver.field-0-is in
    c.delivery_size.ensures ∙ size_delivery _ _ (omega arith) byte

pub returns-in-Err : goal.returns-in-Err
returns-in-Err c = size_other _ _ (omega arith) c.in-Err.ensures.0

pub returns-in-Ok-TakeBack : goal.returns-in-Ok-TakeBack
returns-in-Ok-TakeBack c =
    let byte = c.in-Ok-TakeBack.ensures ∙ ap byte_of c.in-Ok-TakeBack.field-0-is in
    size_one _ _ (omega arith) (λ e. omega (arith, byte)) (omega (arith, byte))

pub returns-in-Ok-Close : goal.returns-in-Ok-Close
returns-in-Ok-Close c =
    let byte = c.in-Ok-Close.ensures ∙ ap byte_of c.in-Ok-Close.field-0-is in
    size_one _ _ (omega arith) (λ e. omega (arith, byte)) (omega (arith, byte))

pub returns-in-Ok-Totals : goal.returns-in-Ok-Totals
returns-in-Ok-Totals c =
    let byte = c.in-Ok-Totals.ensures ∙ ap byte_of c.in-Ok-Totals.field-0-is in
    size_one _ _ (omega arith) (λ e. omega (arith, byte)) (omega (arith, byte))
