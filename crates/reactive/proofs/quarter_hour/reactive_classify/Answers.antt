-- `reactive::reactive_classify` meets its contract: the number of its refusal says which answer is due.
use mathlib.Core.Bool.{not, ◌&&◌}
use lib.Dec.{leb}
use Rattle.reactive.proofs.QuarterHour.{room, refused, accepted}
use Rattle.reactive.proofs.quarter_hour.reactive_classify.Goals as goal

pub returns-then-number-ne0 : goal.returns-then-number-ne0
returns-then-number-ne0 c =
    let t = c in
    let o = t in
    refused _ o.args.shares.now _ _ o.of.ensures o.of-2.ensures _ _
    t.point_in_range.ensures t.metered_in_range.ensures _ c.refusal-number.ensures c.if-number-ne0.true

pub store-requires : goal.store-requires
store-requires c =
    let i = c in
    let t = i in
    let a = t.args in
    room _ (not (t.point_in_range.result && leb a.lamp 1 && t.metered_in_range.result)) a.shares.now
    i.refusal-number.ensures i.if-number-ne0.false

pub returns : goal.returns
returns c =
    let k = c in
    let i = k in
    let t = i in
    let o = t in
    accepted _ o.args.shares.now _ _ o.of.ensures o.of-2.ensures _ _
    t.point_in_range.ensures t.metered_in_range.ensures _ i.refusal-number.ensures i.if-number-ne0.false
    _ _ _ k.classify.ensures k.role_of.ensures k.from-level.ensures _ c.store.ensures
