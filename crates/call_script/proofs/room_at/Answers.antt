-- `call_script::room_at` meets its contract.
use mathlib.Core.Path.{ap, ◌∙◌}
use native.Mathlib.Omega.{arith}
use Rattle.call_script.specs.Kinds.{byte_of}
use Rattle.call_script.proofs.Scripts.{whole-inside, whole_kind}
use Rattle.call_script.proofs.Fitting.{room-totals, room_other}
use Rattle.call_script.proofs.room_at.Goals as goal

pub bounds-script-at : goal.bounds-script-at
bounds-script-at c = whole-inside _ _ c.requires

pub returns-in-Ok-Totals : goal.returns-in-Ok-Totals
returns-in-Ok-Totals c =
    record { value = room-totals _ _ (c.in-Ok-Totals.ensures ∙ ap byte_of c.in-Ok-Totals.field-0-is); upper_bound = omega arith }

pub returns-in-Ok-Deliver : goal.returns-in-Ok-Deliver
returns-in-Ok-Deliver c =
    let byte = c.in-Ok-Deliver.ensures ∙ ap byte_of c.in-Ok-Deliver.field-0-is in
    record { value = room_other _ _ (omega (arith, byte)); upper_bound = omega arith }

pub returns-in-Ok-TakeBack : goal.returns-in-Ok-TakeBack
returns-in-Ok-TakeBack c =
    let byte = c.in-Ok-TakeBack.ensures ∙ ap byte_of c.in-Ok-TakeBack.field-0-is in
    record { value = room_other _ _ (omega (arith, byte)); upper_bound = omega arith }

pub returns-in-Ok-Close : goal.returns-in-Ok-Close
returns-in-Ok-Close c =
    let byte = c.in-Ok-Close.ensures ∙ ap byte_of c.in-Ok-Close.field-0-is in
    record { value = room_other _ _ (omega (arith, byte)); upper_bound = omega arith }

pub returns-in-Err : goal.returns-in-Err
returns-in-Err c = absurd (omega (arith, whole_kind _ _ c.requires, c.in-Err.ensures.0))
