-- `statement_text::page::Page::number` meets its contract: with the digits of the rest stored, the page would be as it is to be.
use Prim.Native.Nat.{◌+◌, ◌^◌, ◌<◌}
use mathlib.Core.Path.{◌≡◌}
use lib.ListN.{length}
use lib.Seq.{sets}
use Rattle.statement_text.specs.Text.{decimal}
use Rattle.statement_text.proofs.page.Page.number.Given as goal

abbrev pub invariant-loop-rest : goal.invariant-loop-rest
invariant-loop-rest l =
    ((l.rest < 2 ^ 64) × (l.at ≡ l.start + length (decimal l.rest)))
    × ((l.self.length ≡ l.initial.self.length) × (sets l.self.bytes l.start (decimal l.rest) ≡ sets l.initial.self.bytes l.start (decimal l.n)))

abbrev pub decreases-loop-rest : goal.decreases-loop-rest
decreases-loop-rest l = l.rest
