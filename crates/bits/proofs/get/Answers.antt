-- `bits::get` meets its contract: the field is the word's by a shift and a mask.
use native.Mathlib.Omega.{arith}
use Rattle.bits.proofs.Words.{got}
use Rattle.bits.proofs.get.Goals as goal

pub returns : goal.returns
returns c =
    let a = c.args in
    let s = c.span_of-span in
    let w = c.load-word in
    let k = got a.bytes.now a.at a.width w.result s.result s.ensures (omega arith) w.ensures c.ones.result c.ones.ensures in record { value = k.0; upper_bound = k.1 }
