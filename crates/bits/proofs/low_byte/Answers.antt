-- `bits::low_byte` meets its contract.
use lib.Bits.{and_mask, mask_lt}
use Rattle.bits.proofs.low_byte.Goals as goal

pub overflow_cast-result : goal.overflow_cast-result
overflow_cast-result c = record { fits = mask_lt c.args.word 8 }

pub returns : goal.returns
returns c = and_mask c.args.word 8
