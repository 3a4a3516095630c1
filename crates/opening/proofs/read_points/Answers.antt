-- `opening::read_points` meets its contract.
use mathlib.Core.Path.{◌≡◌, refl, ap, ◌∙◌}
use mathlib.Core.List.{List}
use lib.ListN.{set}
use native.Mathlib.Omega.{arith}
use borrow.Author.Rules.{rules}
use Rattle.std.specs.Prelude.{None}
use Rattle.lists.specs.Lists.{any_below, places_below}
use Rattle.point_record.specs.declared.Point.{Point}
use Rattle.point_record.proofs.Laws.{point-decoded}
use Rattle.opening.proofs.Reading.{zeros_next, right_next, wrong_here, none_read, all_read}
use Rattle.opening.proofs.read_points.Goals as goal

pub loop-i-init : goal.loop-i-init
unfolding any_below places_below
loop-i-init c = (omega arith, (refl, rw c.no_point-points.ensures))

pub returns-in_err-points : goal.returns-in_err-points
returns-in_err-points c =
    let same : c.from_residual.result ≡ None = search rules in
    let w = wrong_here c.loop-i.i c.args.file.now _ (point-decoded _ _ c.decode_point.ensures) c.in_err-points.was c.args.count (omega arith) in
    same ∙ none_read c.args.count c.args.file.now w

pub loop-i-preserved : goal.loop-i-preserved
loop-i-preserved c =
    let file = c.args.file.now in
    let l = c.loop-i in
    let p = c.in_ok-points.field-0 in
    let r = right_next l.i file _ (point-decoded _ _ c.decode_point.ensures) p c.in_ok-points.was l.invariant.1.0 in
    (omega arith, (r.0, ap (λ (ps : List Point). set ps l.i p) l.invariant.1.1 ∙ zeros_next l.i file p (omega arith) r.1))

pub returns : goal.returns
returns c =
    let l = c.loop-i in
    all_read c.args.count l.i c.args.file.now l.points (omega arith) l.invariant.1.0 l.invariant.1.1
