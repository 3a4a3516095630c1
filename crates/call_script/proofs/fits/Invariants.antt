-- `call_script::fits` meets its contract.
use Prim.Native.Nat.{◌-◌}
use Rattle.call_script.proofs.Fitting.{Fitting}
use Rattle.call_script.proofs.fits.Given as goal

abbrev pub invariant-loop : goal.invariant-loop
invariant-loop l = Fitting l.script l.bytes l.counter l.at l.left

abbrev pub decreases-loop : goal.decreases-loop
decreases-loop l = l.end - l.counter
