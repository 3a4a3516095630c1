-- `call_list::running::run_calls` meets its contract.
use Prim.Native.Nat.{ℕ}
use mathlib.Core.Path.{◌≡◌, sym, ap, ◌∙◌}
use borrow.Author.Tests.{leb-true}
use borrow.Author.Rules.{rules}
use Rattle.std.specs.Prelude.{Result, Err}
use Rattle.answers.specs.declared.Refusal.{Refusal}
use Rattle.answers.specs.Numbers.{answered}
use Rattle.answers.proofs.Refusing.{refused-number}
use Rattle.book.specs.Library.{lent}
use Rattle.call_list.specs.Run.{run_given}
use Rattle.call_list.proofs.Runs.{too_short, not_opened, runs, begins}
use Rattle.call_list.proofs.running.run_calls.Goals as goal

pub returns-then-not-fits : goal.returns-then-not-fits
returns-then-not-fits c = too_short _ _ _ _ (sym c.fits.ensures ∙ c.if-not-fits.true)

pub returns-in_err-answer : goal.returns-in_err-answer
returns-in_err-answer c =
    let r = c.open-answer in
    let same : c.from_residual.result ≡ Err c.in_err-answer.field-0.0 = search rules in
    let a = c.args in
    ap (λ (g : Result ℕ Refusal). run_given g (lent a.journal.now r.new.index) a.answers.now) same
    ∙ not_opened _ _ _ _ (sym c.fits.ensures ∙ c.if-not-fits.false) _ _ (sym (ap answered c.in_err-answer.was) ∙ r.ensures.answer_value) r.ensures.index_after
    (refused-number c.in_err-answer.field-0.0)

pub make_calls-requires : goal.make_calls-requires
make_calls-requires c =
    let s = c.args in
    let e = c.open-answer.ensures in
    let room = sym c.fits.ensures ∙ c.if-not-fits.false in
    let zero = sym e.answer_value ∙ ap answered c.in_ok-answer.was in
    record {
      index_value =
          begins s.file.now s.script.now (lent s.journal.now s.index.now) s.answers.now room zero _ _ e.book_value e.index_after;
      script_in_bounds = leb-true _ _ room;
    }

pub returns : goal.returns
returns c =
    let s = c.args in
    let e = c.open-answer.ensures in
    let call = c.make_calls.ensures in
    let zero = sym e.answer_value ∙ ap answered c.in_ok-answer.was in
    runs s.file.now s.script.now (lent s.journal.now s.index.now) s.answers.now
    (sym c.fits.ensures ∙ c.if-not-fits.false) zero _ _ e.book_value e.index_after _ _ _
    call.value call.index_after call.output_after
