-- `statement_text::layout::text_of` meets its contract.
use mathlib.Core.Path.{sym, ap}
use native.Mathlib.Omega.{arith}
use Rattle.statement_text.specs.Text.{text_of}
use Rattle.statement_text.proofs.Pages.{◌then◌, printed}
use Rattle.statement_text.proofs.layout.text_of.Goals as goal

pub returns-in-Ok : goal.returns-in-Ok
unfolding text_of
returns-in-Ok c =
    let month = c.month-first.ensures in
    let points = c.points-above.ensures in
    let total = c.total.ensures in
    let k = printed c.blank-blank.ensures.value (month.behind then points.behind then total.behind) (omega arith) (sym (ap text_of c.in-Ok.is)) in
    record { value = k.0; length_in_bounds = k.1 }

pub returns-in-Err : goal.returns-in-Err
unfolding text_of
returns-in-Err c =
    let refused = c.refused.ensures in
    let k = printed c.blank-blank.ensures.value refused.behind (omega arith) (sym (ap text_of c.in-Err.is)) in
    record { value = k.0; length_in_bounds = k.1 }
