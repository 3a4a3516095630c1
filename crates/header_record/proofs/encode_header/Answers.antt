-- `header_record::encode_header` meets its contract: each answer is a law of `record_fields`.
use Rattle.header_record.specs.Header.{header_kind, encoded_header}
use Rattle.record_fields.proofs.Answers.{kept, fits, written}
use Rattle.header_record.proofs.Headers.{header_lawful}
use mathlib.Core.Path.{ap}
use mathlib.Core.Bool.{not}
use Rattle.header_record.proofs.encode_header.Goals as goal

pub returns-then-not-bytes-header_in_range : goal.returns-then-not-bytes-header_in_range
unfolding encoded_header
returns-then-not-bytes-header_in_range c = kept header_kind _ c.args.bytes.now c.header_in_range.ensures (ap not c.if-not-bytes-header_in_range.true)

pub write_fields-requires : goal.write_fields-requires
write_fields-requires c =
    let v = c in
    let t = v in
    let k = fits header_kind _ t.args.bytes.now t.header_in_range.ensures (ap not t.if-not-bytes-header_in_range.false) _
    v.header_values-values.ensures header_lawful in record { layout = k.0; fit = k.1 }

pub returns : goal.returns
unfolding encoded_header
returns c =
    let w = c in
    let v = w in
    let t = v in
    written header_kind _ t.args.bytes.now t.header_in_range.ensures (ap not t.if-not-bytes-header_in_range.false) _
    v.header_values-values.ensures _ w.write_fields.ensures
