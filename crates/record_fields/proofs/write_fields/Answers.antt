-- `record_fields::write_fields` meets its contract: the loop keeps `Writing`, of `proofs/Turns.antt`.
use native.Mathlib.Omega.{arith}
use Rattle.record_fields.proofs.Turns.{writing_start, writing_turn, writing_end, writing_fits, left_inside, left_narrow}
use Rattle.record_fields.proofs.write_fields.Goals as goal

pub loop-i-init : goal.loop-i-init
loop-i-init c = writing_start c.requires.layout c.requires.fit

pub put-requires : goal.put-requires
put-requires c =
    let w = c.loop-i.invariant in
    record { width_bound = left_inside w.left (omega arith); width_bound_2 = left_narrow w.left (omega arith); value_bound = writing_fits w (omega arith) }

pub overflow_add-at : goal.overflow_add-at
overflow_add-at c =
    let k = left_inside c.loop-i.invariant.left (omega arith) in
    omega arith

pub loop-i-preserved : goal.loop-i-preserved
loop-i-preserved c =
    writing_turn c.loop-i.invariant (omega arith) _ c.put.ensures

pub shape_of-bytes : goal.shape_of-bytes
shape_of-bytes c = c.loop-i.invariant.sized

pub returns : goal.returns
returns c = writing_end c.loop-i.invariant (omega arith)
