-- `bits::load` meets its contract. The invariant: the word is the field that the bytes passed make.
use Prim.Native.Nat.{◌+◌, ◌-◌, ◌*◌, ◌%◌, ◌^◌}
use mathlib.Core.Path.{◌≡◌, ap, ◌∙◌}
use native.Mathlib.Omega.{arith}
use lib.Bits.{bit_or}
use lib.ListN.{length, take, drop, length-drop}
use lib.Seq.{length-take-le}
use Rattle.std.proofs.lemmas.List.{get_or-take, get_or-drop}
use Rattle.bits.proofs.Laws.{field_lt}
use Rattle.bits.proofs.Words.{load_byte}
use Rattle.bits.proofs.load.Goals as goal

pub loop-byte-init : goal.loop-byte-init
loop-byte-init c = omega (arith, field_lt c.args.bytes.now (8 * c.args.first) 0)

pub loop-byte-preserved : goal.loop-byte-preserved
loop-byte-preserved c =
    let a = c.args in
    let l = c.loop-byte in
    let k = a.first + a.count - a.first in
    let after = drop a.first a.bytes.now in
    let rest = length-drop a.first a.bytes.now in
    let size : length (take k after) ≡ a.count = omega (arith, rest, length-take-le k after (omega (arith, rest))) in
    let item = get_or-take k after l.byte-index 0 (omega arith) ∙ get_or-drop a.first a.bytes.now l.byte-index 0 in (
      omega arith,
      ap (bit_or (l.word * 2 ^ 8 % 2 ^ 64)) item
          ∙ load_byte a.bytes.now a.first l.byte-index l.word (λ j. (c.type_inv.bytes j).fits) (omega arith) (omega arith) l.invariant.1,
    )
