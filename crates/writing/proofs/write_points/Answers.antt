-- `writing::write_points` meets its contract. The invariant: so many points are written.
use mathlib.Core.Path.{◌≡◌, refl}
use native.Mathlib.Omega.{arith}
use lib.ListN.{length}
use Rattle.writing.specs.Writing.{written_points}
use Rattle.writing.proofs.PointsWritten.{length-written, written_next, written_all}
use Rattle.writing.proofs.write_points.Goals as goal

pub loop-i-init : goal.loop-i-init
unfolding written_points
loop-i-init c = (omega arith, refl)

pub slice_bounds-encode_point-end : goal.slice_bounds-encode_point-end
slice_bounds-encode_point-end c =
    let s = c in
    let a = s.args in
    let eight : length a.points ≡ 8 = s.well_formed.0.1.0.1 in
    let l = c.loop-i in
    let n =
    length-written a.points a.count (omega arith) s.requires.points_value a.output.now l.output s.requires.output_len
    l.i l.invariant.0 l.invariant.1 in
    omega arith

pub loop-i-preserved : goal.loop-i-preserved
loop-i-preserved c =
    let s = c in
    let a = s.args in
    let eight : length a.points ≡ 8 = s.well_formed.0.1.0.1 in
    let l = c.loop-i in
    let next =
    written_next a.points a.count (omega arith) s.requires.points_value a.output.now l.output s.requires.output_len
    l.i l.invariant.0 l.invariant.1 in
    (omega arith, next _ _ _ (omega arith) c.encode_point.ensures)

pub shape_of-output : goal.shape_of-output
shape_of-output c =
    let s = c in
    let a = s.args in
    let eight : length a.points ≡ 8 = s.well_formed.0.1.0.1 in
    let l = c.loop-i in
    length-written a.points a.count (omega arith) s.requires.points_value a.output.now l.output s.requires.output_len
    l.i l.invariant.0 l.invariant.1

pub returns : goal.returns
returns c =
    let s = c in
    let a = s.args in
    let eight : length a.points ≡ 8 = s.well_formed.0.1.0.1 in
    let l = c.loop-i in
    written_all a.points a.count (omega arith) s.requires.points_value a.output.now l.output s.requires.output_len
    l.i l.invariant.0 l.invariant.1
    (omega arith)
