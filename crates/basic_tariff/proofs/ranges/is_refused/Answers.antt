-- `basic_tariff::ranges::is_refused` meets its contract: where the call itself passes, its points decide.
use mathlib.Core.Path.{◌∙◌}
use Rattle.basic_tariff.specs.BasicTariff.{call_refused, refused}
use Rattle.basic_tariff.proofs.Accepted.{call}
use Rattle.basic_tariff.proofs.Rows.{any_pairs}
use Rattle.basic_tariff.proofs.ranges.is_refused.Goals as goal

pub returns : goal.returns
unfolding refused call_refused
returns c =
    let a = c.args in
    let k = call a.fixed_tariff a.points a.drawn.now a.fed_in.now c.if-fixed_tariff-count.false in
    rw c.if-fixed_tariff-count.false (c.any_refused.ensures ∙ any_pairs a.drawn.now a.fed_in.now a.points k.drawn k.fed_in)
