-- `quarter::classify` meets its contract: a take is a supply with the two voltages exchanged.
use mathlib.Core.Path.{◌∙◌}
use Rattle.quarter.proofs.Directions.{mirrored_classified}
use Rattle.quarter.proofs.classification.classify.Goals as goal

pub returns : goal.returns
returns c = c.classify_supply-2.ensures ∙ mirrored_classified _ _ c.args.metered c.if-take-supply.false
