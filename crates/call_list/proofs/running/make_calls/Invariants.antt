-- `call_list::running::make_calls` meets its contract.
use Rattle.book.specs.Library.{lent}
use Rattle.call_list.proofs.Turns.{Turns}
use Rattle.call_list.proofs.running.make_calls.Given as goal

abbrev pub invariant-loop : goal.invariant-loop
invariant-loop l =
    Turns l.script l.initial.book (lent l.initial.journal l.initial.index) l.initial.output l.book (lent l.journal l.index) l.output l.counter l.at l.to
