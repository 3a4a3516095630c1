-- `reactive::measured::ask` meets its contract.
use Prim.Native.Nat.{◌-◌, ◌≤◌}
use mathlib.Core.Path.{◌≡◌}
use Rattle.book.specs.Library.{lent}
use Rattle.reactive.specs.Measured.{asked}
use Rattle.reactive.proofs.measured.ask.Given as goal

abbrev pub invariant-loop : goal.invariant-loop
invariant-loop l =
    (l.counter ≤ l.rounds) × (l.output ≡ asked l.counter l.book (lent l.journal l.index) l.initial.output)

abbrev pub decreases-loop : goal.decreases-loop
decreases-loop l = l.rounds - l.counter
