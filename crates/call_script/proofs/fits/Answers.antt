-- `call_script::fits` meets its contract.
use mathlib.Core.Path.{sym, ◌∙◌}
use native.Mathlib.Omega.{arith}
use Rattle.call_script.proofs.Scripts.{whole_end}
use Rattle.call_script.proofs.Fitting.{nothing_fitted, fitted_all, fitted_end, not_fitted, fitted_next}
use Rattle.call_script.proofs.fits.Goals as goal

pub loop-init : goal.loop-init
loop-init c = nothing_fitted _ _

pub returns-then-size-eq0 : goal.returns-then-size-eq0
returns-then-size-eq0 c = fitted_all _ _ _ _ _ c.loop.invariant (sym c.size_at-size.ensures ∙ c.if-size-eq0.true)

pub returns-then-left-room : goal.returns-then-left-room
returns-then-left-room c =
    let sized = c in
    not_fitted _ _ _ _ _ sized.loop.invariant sized.loop-test.true _ _ sized.size_at-size.ensures
    c.room_at-room.ensures.value (omega arith) (omega arith)

pub overflow_add-at : goal.overflow_add-at
overflow_add-at c =
    let a = c.args in
    omega (arith, whole_end a.script.now c.loop.at (omega arith))

pub loop-preserved : goal.loop-preserved
loop-preserved c =
    let sized = c in
    fitted_next _ _ _ _ _ sized.loop.invariant sized.loop-test.true _ _ sized.size_at-size.ensures
    c.room_at-room.ensures.value (omega arith) (omega arith)

pub returns : goal.returns
returns c = fitted_end _ _ _ _ _ c.loop.invariant c.loop-test.false
