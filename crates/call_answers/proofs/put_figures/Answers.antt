-- `call_answers::put_figures` meets its contract: eight numbers, one after the other.
use Rattle.call_answers.proofs.Columns.{figures-stored}
use Rattle.call_answers.proofs.put_figures.Goals as goal

pub returns : goal.returns
returns c =
    let put = c in
    let n₈ = put in
    let n₇ = n₈ in
    let n₆ = n₇ in
    let n₅ = n₆ in
    let n₄ = n₅ in
    let n₃ = n₄ in
    let n₂ = n₃ in
    let n₁ = n₂ in
    let a = n₁.args in
    figures-stored a.output.now _ a.to a.figures _ _ _ _ _ _ _ _
    n₁.count.ensures n₂.count-2.ensures n₃.count-3.ensures n₄.count-4.ensures
    n₅.count-5.ensures n₆.count-6.ensures n₇.count-7.ensures n₈.count-8.ensures put.put_words.ensures
