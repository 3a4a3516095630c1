-- `point_record::product` meets its contract: two answers, each a law of `proofs/Bands.antt`.
use native.Mathlib.Omega.{arith}
use Rattle.point_record.proofs.Bands.{product_lt, spare, in_use}
use mathlib.Core.Path.{ap}
use mathlib.Core.Bool.{not}
use Rattle.point_record.proofs.product.Goals as goal

pub returns-then-not-counts : goal.returns-then-not-counts
returns-then-not-counts c = record { value = spare c.args.counts c.args.place (ap not c.if-not-counts.true); upper_bound = omega arith }

pub overflow_mul-result : goal.overflow_mul-result
overflow_mul-result c =
    let a = c.args.place in
    let k = product_lt a.uk a.sn (omega arith) (omega arith) in
    omega arith

pub returns : goal.returns
returns c =
    let a = c.args.place in
    record { value = in_use c.args.counts a (ap not c.if-not-counts.false); upper_bound = product_lt a.uk a.sn (omega arith) (omega arith) }
