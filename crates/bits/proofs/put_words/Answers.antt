-- `bits::put_words` meets its contract. The invariant: the first i numbers are in place.
use mathlib.Core.Path.{sym}
use native.Mathlib.Omega.{arith}
use Rattle.bits.proofs.Sequence.{with_none, length-first, first_next, first_all}
use Rattle.bits.proofs.put_words.Goals as goal

pub loop-i-init : goal.loop-i-init
loop-i-init c = (omega arith, sym (with_none _ _))

pub put_word-requires : goal.put_word-requires
put_word-requires c =
    let s = c in
    let l = c.loop-i in
    let n = length-first _ _ s.args.words.now s.requires l.i l.bytes l.invariant.0 l.invariant.1 in
    omega arith

pub loop-i-preserved : goal.loop-i-preserved
loop-i-preserved c =
    let s = c in
    let l = c.loop-i in
    let a = s.args in
    let next = first_next a.bytes.now a.at a.words.now s.requires in
    (omega arith, next l.i l.bytes _ (omega arith) l.invariant.1 c.put_word.ensures)

pub shape_of-bytes : goal.shape_of-bytes
shape_of-bytes c =
    let s = c in
    let l = c.loop-i in
    length-first _ _ s.args.words.now s.requires l.i l.bytes l.invariant.0 l.invariant.1

pub returns : goal.returns
returns c =
    let s = c in
    let l = c.loop-i in
    first_all _ _ s.args.words.now s.requires l.i l.bytes (omega arith) l.invariant.1
