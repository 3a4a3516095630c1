-- `bits::put_word` meets its contract: the word is stored into its eight bytes.
use native.Mathlib.Omega.{arith}
use Rattle.bits.proofs.Words.{word_stored}
use Rattle.bits.proofs.put_word.Goals as goal

pub returns : goal.returns
returns c =
    let s = c in
    let a = s.args in
    word_stored a.bytes.now _ a.at a.word (λ k. (s.slice_known-1.given k).fits) (omega arith) (omega arith) s.store.ensures
