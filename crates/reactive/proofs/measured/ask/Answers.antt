-- `reactive::measured::ask` meets its contract.
use mathlib.Core.Path.{◌≡◌, refl, ap, ◌∙◌}
use native.Mathlib.Omega.{arith}
use Rattle.std.specs.Result.{result_unwrap_or}
use Rattle.book.specs.Library.{no_totals}
use Rattle.book.proofs.Numbers.{taken_apart}
use Rattle.reactive.specs.Measured.{asked}
use Rattle.reactive.proofs.Asking.{length-asked, asked-next, asked_all}
use Rattle.reactive.proofs.measured.ask.Goals as goal

pub loop-init : goal.loop-init
unfolding asked
loop-init c = (omega arith, refl)

pub put_totals-requires : goal.put_totals-requires
put_totals-requires c =
    let l = c.loop in
    omega (arith, c.requires, length-asked _ _ _ c.requires l.counter _ l.invariant.1)

pub loop-preserved : goal.loop-preserved
loop-preserved c =
    let l = c.loop in
    let totals : c.unwrap_or-totals.result ≡ result_unwrap_or c.totals-given.result no_totals = c.unwrap_or-totals.ensures ∙ ap (result_unwrap_or c.totals-given.result) c.none.ensures in (
      omega arith,
      asked-next _ _ _ c.requires l.counter _ _ _ l.invariant.1 (taken_apart c.totals-given.result ∙ c.totals-given.ensures)
          (rw (c.answered.ensures, totals) at c.put_totals.ensures),
    )

pub shape_of-output : goal.shape_of-output
shape_of-output c =
    let l = c.loop in
    length-asked _ _ _ c.requires l.counter _ l.invariant.1

pub returns : goal.returns
returns c =
    let l = c.loop in
    asked_all _ _ _ c.requires _ _ _ l.invariant.1 l.invariant.0 c.loop-test.false
