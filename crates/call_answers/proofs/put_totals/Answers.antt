-- `call_answers::put_totals` meets its contract. The invariant: the figures of so many points are in place.
use Prim.Native.Nat.{◌+◌}
use mathlib.Core.Path.{◌≡◌, sym}
use native.Mathlib.Omega.{arith}
use lib.ListN.{length}
use Rattle.bits.proofs.Sequence.{with_none}
use Rattle.call_answers.specs.Answers.{columns}
use Rattle.call_answers.proofs.Columns.{length_filled, next_filled, totals-stored}
use Rattle.call_answers.proofs.put_totals.Goals as goal

pub loop-i-init : goal.loop-i-init
unfolding columns
loop-i-init c = (omega arith, sym (with_none _ _))

pub put_figures-requires : goal.put_figures-requires
put_figures-requires c =
    let s = c in
    let a = s.args in
    let eight : length a.points ≡ 8 = s.well_formed.1.1.1.1.0.1.0.1 in
    let l = c.loop-i in
    let w = c.put_words.new.bytes in
    let n = length_filled w (a.to + 16) a.points eight (omega arith) l.i l.output l.invariant.0 l.invariant.1 in
    omega arith

pub loop-i-preserved : goal.loop-i-preserved
loop-i-preserved c =
    let s = c in
    let a = s.args in
    let eight : length a.points ≡ 8 = s.well_formed.1.1.1.1.0.1.0.1 in
    let l = c.loop-i in
    let w = c.put_words.new.bytes in
    let next = next_filled w (a.to + 16) a.points eight (omega arith) in
    (omega arith, next l.i l.output _ (omega arith) l.invariant.1 c.put_figures.ensures)

pub shape_of-output : goal.shape_of-output
shape_of-output c =
    let s = c in
    let a = s.args in
    let eight : length a.points ≡ 8 = s.well_formed.1.1.1.1.0.1.0.1 in
    let l = c.loop-i in
    let w = c.put_words.new.bytes in
    let n = length_filled w (a.to + 16) a.points eight (omega arith) l.i l.output l.invariant.0 l.invariant.1 in
    omega arith

pub returns : goal.returns
returns c =
    let s = c in
    let a = s.args in
    let eight : length a.points ≡ 8 = s.well_formed.1.1.1.1.0.1.0.1 in
    let l = c.loop-i in
    totals-stored a.output.now a.to _ _ a.points eight s.requires _ l.output l.i c.put_words.ensures (omega arith) l.invariant.1
