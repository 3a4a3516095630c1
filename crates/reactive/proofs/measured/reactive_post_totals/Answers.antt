-- `reactive::measured::reactive_post_totals` meets its contract.
use mathlib.Core.Path.{sym, ap, ◌∙◌}
use Rattle.book.specs.Library.{lent}
use Rattle.posting.specs.Posting.{stopped_number}
use Rattle.reactive.proofs.Asking.{too_short, measures}
use Rattle.reactive.proofs.measured.reactive_post_totals.Goals as goal

pub returns-then-answer-lt-ANSWER_BYTES : goal.returns-then-answer-lt-ANSWER_BYTES
returns-then-answer-lt-ANSWER_BYTES c = too_short _ _ _ _ c.if-answer-lt-ANSWER_BYTES.true

pub returns-in-Ok : goal.returns-in-Ok
returns-in-Ok c =
    let r = c.post-posted in
    ap (λ n. (n, (lent r.new.journal r.new.index, c.ask.new.output))) (sym (ap stopped_number c.in-Ok.is))
    ∙ measures _ _ _ _ c.if-answer-lt-ANSWER_BYTES.false _ _ r.ensures c.ask.ensures

pub returns-in-Err : goal.returns-in-Err
returns-in-Err c =
    let r = c.post-posted in
    ap (λ n. (n, (lent r.new.journal r.new.index, c.ask.new.output))) (c.from.ensures ∙ sym (ap stopped_number c.in-Err.is))
    ∙ measures _ _ _ _ c.if-answer-lt-ANSWER_BYTES.false _ _ r.ensures c.ask.ensures
