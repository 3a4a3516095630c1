-- `call_script::delivery_size` meets its contract.
use Prim.Native.Nat.{◌+◌}
use native.Mathlib.Omega.{arith}
use Rattle.call_script.proofs.Scripts.{delivery_cut, delivery_whole}
use Rattle.call_script.proofs.delivery_size.Goals as goal

pub returns-then-left-lt2 : goal.returns-then-left-lt2
returns-then-left-lt2 c = delivery_cut _ _ (omega arith)

pub overflow_cast-size : goal.overflow_cast-size
overflow_cast-size c =
    let a = c.args in
    omega (arith, c.type_inv.script (a.at + 1))

pub overflow_add-size-2 : goal.overflow_add-size-2
overflow_add-size-2 c =
    let a = c.args in
    omega (arith, c.type_inv.script (a.at + 1))

pub returns-then-left-size : goal.returns-then-left-size
returns-then-left-size c = delivery_cut _ _ (omega arith)

pub returns : goal.returns
returns c = delivery_whole _ _ (omega arith)
