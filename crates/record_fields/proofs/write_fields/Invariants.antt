-- `record_fields::write_fields` meets its contract: the loop keeps `Writing`, of `proofs/Turns.antt`.
use Rattle.record_fields.proofs.Turns.{Writing}
use Rattle.record_fields.proofs.write_fields.Given as goal

abbrev pub invariant-loop-i : goal.invariant-loop-i
invariant-loop-i l = Writing l.initial.bytes l.widths l.values l.bytes l.at l.i
