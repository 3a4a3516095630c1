-- `record_fields::read_fields` meets its contract: the loop keeps `Reading`, of `proofs/Turns.antt`.
use Rattle.record_fields.proofs.Turns.{Reading}
use Rattle.record_fields.proofs.read_fields.Given as goal

abbrev pub invariant-loop-i : goal.invariant-loop-i
invariant-loop-i l = Reading l.bytes l.widths l.values l.at l.i
