-- `record_fields::read_fields` meets its contract: the loop keeps `Reading`, of `proofs/Turns.antt`.
use native.Mathlib.Omega.{arith}
use Rattle.record_fields.proofs.Turns.{reading_start, reading_turn, reading_end, fields_small, left_inside, left_narrow}
use Rattle.record_fields.proofs.read_fields.Goals as goal

pub loop-i-init : goal.loop-i-init
loop-i-init c = reading_start c.requires.layout c.requires.values_len

pub get-requires : goal.get-requires
get-requires c =
    let l = c.loop-i.invariant.left in
    record { width_bound = left_inside l (omega arith); width_bound_2 = left_narrow l (omega arith) }

pub overflow_add-at : goal.overflow_add-at
overflow_add-at c = let k = left_inside c.loop-i.invariant.left (omega arith) in omega arith

pub loop-i-preserved : goal.loop-i-preserved
loop-i-preserved c = reading_turn c.loop-i.invariant (omega arith) c.get.result c.get.ensures.value

pub returns : goal.returns
returns c =
    let e = reading_end c.loop-i.invariant (omega arith) in
    record { values_after = e; small = fields_small _ _ _ e }
