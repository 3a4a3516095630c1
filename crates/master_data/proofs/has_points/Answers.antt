-- `master_data::has_points` meets its contract. The points that it goes through are those that are counted.
use mathlib.Core.Path.{refl, sym, ap, ◌∙◌}
use native.Mathlib.Omega.{arith}
use lib.ListN.{length, take}
use lib.Seq.{take_all}
use Rattle.lists.specs.Lists.{all_of}
use Rattle.lists.proofs.Laws.{all_next, all_stop}
use Rattle.refusals.proofs.Tests.{not_not}
use Rattle.quarter.specs.Reading.{level_of}
use Rattle.point_record.specs.Point.{no_point, point_in_range}
use Rattle.master_data.specs.Master.{wrong_point}
use Rattle.master_data.proofs.has_points.Goals as goal

pub loop-point-init : goal.loop-point-init
unfolding all_of
loop-point-init c = refl

pub returns-then-not-point_in_range : goal.returns-then-not-point_in_range
unfolding wrong_point no_point level_of
returns-then-not-point_in_range c =
    let counted = take c.args.master.count c.args.master.points in
    let stopped = all_stop point_in_range no_point counted c.loop-point.point-index (length counted) (omega arith) (omega arith)
    (sym c.point_in_range.ensures ∙ c.if-not-point_in_range.true) in
    sym (not_not _ ∙ ap (all_of point_in_range) (sym (take_all (length counted) counted (omega arith))) ∙ stopped)

pub loop-point-preserved : goal.loop-point-preserved
unfolding no_point level_of
loop-point-preserved c =
    let counted = take c.args.master.count c.args.master.points in
    all_next point_in_range no_point counted c.loop-point.point-index (omega arith) c.loop-point.invariant
    (sym c.point_in_range.ensures ∙ c.if-not-point_in_range.false)

pub returns : goal.returns
unfolding wrong_point
returns c =
    let counted = take c.args.master.count c.args.master.points in
    sym (not_not _ ∙ ap (all_of point_in_range) (sym (take_all c.loop-point.point-index counted (omega arith))) ∙ c.loop-point.invariant)
