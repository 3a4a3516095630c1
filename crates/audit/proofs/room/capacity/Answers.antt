-- `audit::room::capacity` meets its contract: the test says whether the bound counts.
use native.Mathlib.Omega.{arith}
use Rattle.machine.specs.Machine.{capacity_of}
use Rattle.audit.proofs.room.capacity.Goals as goal

pub returns-then-whole-gt65535 : goal.returns-then-whole-gt65535
unfolding capacity_of
returns-then-whole-gt65535 c = omega arith

pub returns : goal.returns
unfolding capacity_of
returns c = omega arith
