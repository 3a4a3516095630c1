-- `transformer::root::bisected` meets its contract.
use Prim.Native.Nat.{◌-◌}
use Rattle.transformer.proofs.Bisecting.{Between}
use Rattle.transformer.proofs.root.bisected.Given as goal

abbrev pub invariant-loop-low : goal.invariant-loop-low
invariant-loop-low l = Between l.sn l.radicand l.low l.high

abbrev pub decreases-loop-low : goal.decreases-loop-low
decreases-loop-low l = l.high - l.low
