-- `basic_tariff::weights::k_factor` meets its contract: the rule is one test over the whole table, which antt computes.
use mathlib.Core.Path.{refl}
use Rattle.basic_tariff.specs.BasicTariff.{K}
use Rattle.basic_tariff.proofs.Factors.{at-share}
use Rattle.basic_tariff.proofs.weights.k_factor.Reads as reads
use Rattle.basic_tariff.proofs.weights.k_factor.Lts as lts
use Rattle.basic_tariff.proofs.weights.k_factor.Goals as goal

-- the table is what the code holds where it reads; the first `refl` is the test, the second its length
pub returns : goal.returns
unfolding K
returns c =
    let table = (lts.m5 reads.Pre reads.Post c.before.before c.result-1.given).1.1.0.now in
    at-share table refl refl c.args.share c.requires
