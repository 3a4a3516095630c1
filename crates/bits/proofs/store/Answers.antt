-- `bits::store` meets its contract. The invariant: the bytes passed hold the low bytes of the word, and the rest of it is left.
use Prim.Native.Nat.{◌+◌, ◌-◌}
use mathlib.Core.Path.{refl, ◌∙◌}
use native.Mathlib.Omega.{arith}
use lib.ListN.{length-set}
use Rattle.bits.proofs.Words.{store_none, store_byte, store_all}
use Rattle.bits.proofs.store.Goals as goal

pub loop-i-init : goal.loop-i-init
loop-i-init c =
    let a = c.args in
    (omega arith, refl, store_none a.bytes.now a.first a.count a.word (λ k. (c.type_inv.bytes k).fits) (omega arith))

pub loop-i-preserved : goal.loop-i-preserved
loop-i-preserved c =
    let a = c.args in
    let l = c.loop-i in (
      omega arith,
      length-set l.bytes (a.first + (l.i - 1)) c.low_byte.result ∙ l.invariant.1,
      store_byte a.bytes.now l.bytes a.first a.count l.i a.word l.word c.low_byte.result (omega arith) (omega arith) (omega arith)
          c.low_byte.ensures l.invariant.2,
    )

pub shape_of-bytes : goal.shape_of-bytes
shape_of-bytes c = c.loop-i.invariant.1

pub returns : goal.returns
returns c =
    let a = c.args in
    let l = c.loop-i in
    store_all a.bytes.now l.bytes a.first a.count l.i a.word l.word c.requires.word_bound (omega arith) l.invariant.2
