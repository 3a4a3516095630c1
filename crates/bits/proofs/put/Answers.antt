-- `bits::put` meets its contract: the word that it stores is the one loaded, with the value between the other bits.
use native.Mathlib.Omega.{arith}
use Rattle.bits.proofs.Words.{patched_lt, patched_stored}
use Rattle.bits.proofs.put.Goals as goal

pub store-requires : goal.store-requires
store-requires c =
    let a = c.args in
    let s = c.span_of-span in
    let w = c.load-word in record {
      count_in_bounds = omega arith;
      word_bound = patched_lt a.bytes.now a.at a.width w.result s.result s.ensures (omega arith) w.ensures a.value c.ones.result
          (omega arith) (omega arith) c.ones.ensures;
    }

pub returns : goal.returns
returns c =
    let b = c in
    let a = b.args in
    let s = b.span_of-span in
    let w = b.load-word in
    patched_stored a.bytes.now a.at a.width w.result s.result s.ensures (omega arith) w.ensures a.value b.ones.result
    (omega arith) (omega arith) b.ones.ensures (λ k. (b.slice_known-1.given k).fits)
    c.store.new.bytes c.store.ensures
