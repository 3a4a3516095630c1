-- `header_record::decode_header` meets its contract: each answer is a law of `record_fields`.
use mathlib.Core.Path.{refl}
use Rattle.header_record.specs.Header.{header_kind, no_header, header_given, read_header}
use Rattle.record_fields.proofs.Answers.{layout, other, accepted, turned_down}
use Rattle.header_record.proofs.Headers.{header_lawful}
use Rattle.header_record.proofs.decode_header.Goals as goal

pub returns-then-bytes-ne7 : goal.returns-then-bytes-ne7
unfolding header_given read_header
returns-then-bytes-ne7 c = other header_kind (λ h. (0, h)) (2, no_header) c.args.bytes.now c.if-bytes-ne7.true

pub read_fields-requires : goal.read_fields-requires
read_fields-requires c = record { layout = layout header_lawful _ c.if-bytes-ne7.false; values_len = refl }

pub header_of-header-requires : goal.header_of-header-requires
header_of-header-requires c = c.read_fields.ensures.small

pub returns-then-opens-header_in_range : goal.returns-then-opens-header_in_range
unfolding header_given read_header
returns-then-opens-header_in_range c =
    let s = c in
    let t = s in
    accepted header_kind (λ h. (0, h)) (2, no_header) t.args.bytes.now t.if-bytes-ne7.false s.read_fields.new.values
    s.read_fields.ensures.values_after c.header_of-header.ensures c.header_in_range.ensures c.if-opens-header_in_range.true

pub returns : goal.returns
unfolding header_given read_header
returns c =
    let s = c in
    let t = s in
    turned_down header_kind (λ h. (0, h)) (2, no_header) t.args.bytes.now t.if-bytes-ne7.false s.read_fields.new.values
    s.read_fields.ensures.values_after c.header_of-header.ensures c.header_in_range.ensures c.if-opens-header_in_range.false
