-- `index::agree` meets its contract.
use mathlib.Core.Path.{◌≡◌}
use mathlib.Core.Bool.{not}
use lib.ListN.{length}
use Rattle.index.specs.Index.{differ}
use Rattle.index.proofs.agree.Given as goal

abbrev pub invariant-loop-said : goal.invariant-loop-said
invariant-loop-said l = l.same ≡ not (differ (length l.yielded) l.one l.other)
