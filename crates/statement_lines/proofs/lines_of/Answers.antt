-- `statement_lines::lines_of` meets its contract: the line of each point is its own.
use mathlib.Core.Path.{◌≡◌}
use native.Mathlib.Omega.{arith}
use borrow.Author.Rules.{rules}
use lib.ListN.{length}
use Rattle.statement_lines.proofs.Filling.{mapped}
use Rattle.statement_lines.proofs.lines_of.Goals as goal

pub returns : goal.returns
returns c =
    let eight : length c.args.totals ≡ 8 = search rules in
    mapped _ _ (omega (arith, c.map.ensures.items.long)) (λ i d e h. (c.map.ensures.items.at i d e (omega arith)).2.met)
