-- `point_record::decode_point` meets its contract: each answer is a law of `record_fields`.
use mathlib.Core.Path.{refl}
use Rattle.point_record.specs.Point.{point_kind, no_point, point_given, read_point}
use Rattle.record_fields.proofs.Answers.{layout, other, accepted, turned_down}
use Rattle.point_record.proofs.Points.{point_lawful}
use Rattle.point_record.proofs.decode_point.Goals as goal

pub returns-then-bytes-ne21 : goal.returns-then-bytes-ne21
unfolding point_given read_point
returns-then-bytes-ne21 c = other point_kind (λ p. (0, p)) (4, no_point) c.args.bytes.now c.if-bytes-ne21.true

pub read_fields-requires : goal.read_fields-requires
read_fields-requires c = record { layout = layout point_lawful _ c.if-bytes-ne21.false; values_len = refl }

pub point_of-point-requires : goal.point_of-point-requires
point_of-point-requires c = c.read_fields.ensures.small

pub returns-then-point_in_range : goal.returns-then-point_in_range
unfolding point_given read_point
returns-then-point_in_range c =
    let s = c in
    let t = s in
    accepted point_kind (λ p. (0, p)) (4, no_point) t.args.bytes.now t.if-bytes-ne21.false s.read_fields.new.values
    s.read_fields.ensures.values_after c.point_of-point.ensures c.point_in_range.ensures c.if-point_in_range.true

pub returns : goal.returns
unfolding point_given read_point
returns c =
    let s = c in
    let t = s in
    turned_down point_kind (λ p. (0, p)) (4, no_point) t.args.bytes.now t.if-bytes-ne21.false s.read_fields.new.values
    s.read_fields.ensures.values_after c.point_of-point.ensures c.point_in_range.ensures c.if-point_in_range.false
