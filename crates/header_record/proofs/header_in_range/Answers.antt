-- `header_record::header_in_range` meets its contract: by definition.
use mathlib.Core.Path.{refl}
use Rattle.header_record.specs.Header.{header_in_range}
use Rattle.header_record.proofs.header_in_range.Goals as goal

pub returns : goal.returns
unfolding header_in_range
returns c = refl
