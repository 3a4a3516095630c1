-- `report::printed` meets its contract.
use Prim.Native.Nat.{ℕ}
use mathlib.Core.Path.{ap, ◌∙◌}
use Rattle.std.specs.Prelude.{Result}
use Rattle.statement_text.specs.declared.Statement.{Statement}
use Rattle.statement_text.specs.Text.{text_of, page_of}
use Rattle.report.specs.Statement.{printed}
use Rattle.report.proofs.printed.Goals as goal

pub returns : goal.returns
unfolding printed
returns c =
    let page = c.text_of.ensures in
    record { value = page.value ∙ ap (λ (s : Result Statement ℕ). page_of (text_of s)) c.statement_of.ensures; length_in_bounds = page.length_in_bounds }
