-- `opening::void` meets its contract.
use Rattle.opening.specs.Opening.{void}
use Rattle.opening.proofs.void.Goals as goal

pub returns : goal.returns
unfolding void
returns c = rw (c.no_point.ensures, c.none.ensures)
