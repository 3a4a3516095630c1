-- `point_record::encode_point` meets its contract: each answer is a law of `record_fields`.
use Rattle.point_record.specs.Point.{point_kind, encoded_point}
use Rattle.record_fields.proofs.Answers.{kept, fits, written}
use Rattle.point_record.proofs.Points.{point_lawful}
use mathlib.Core.Path.{ap}
use mathlib.Core.Bool.{not}
use Rattle.point_record.proofs.encode_point.Goals as goal

pub returns-then-not-bytes-point_in_range : goal.returns-then-not-bytes-point_in_range
unfolding encoded_point
returns-then-not-bytes-point_in_range c = kept point_kind _ c.args.bytes.now c.point_in_range.ensures (ap not c.if-not-bytes-point_in_range.true)

pub write_fields-requires : goal.write_fields-requires
write_fields-requires c =
    let v = c in
    let t = v in
    let k = fits point_kind _ t.args.bytes.now t.point_in_range.ensures (ap not t.if-not-bytes-point_in_range.false) _
    v.point_values-values.ensures point_lawful in record { layout = k.0; fit = k.1 }

pub returns : goal.returns
unfolding encoded_point
returns c =
    let w = c in
    let v = w in
    let t = v in
    written point_kind _ t.args.bytes.now t.point_in_range.ensures (ap not t.if-not-bytes-point_in_range.false) _
    v.point_values-values.ensures _ w.write_fields.ensures
