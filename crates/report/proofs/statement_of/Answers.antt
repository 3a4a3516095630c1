-- `report::statement_of` meets its contract.
use mathlib.Core.Path.{refl, sym, ap, ◌∙◌}
use native.Mathlib.Omega.{arith}
use Rattle.answers.proofs.Refusing.{refused-number}
use Rattle.posting.specs.Posting.{stopped_number}
use Rattle.report.proofs.Adding.{posted_addable}
use Rattle.report.proofs.Reporting.{too_much, turned_down, in_full}
use Rattle.report.proofs.statement_of.Goals as goal

pub returns-then-input-gt65536 : goal.returns-then-input-gt65536
returns-then-input-gt65536 c = too_much _ (omega arith)

pub returns-in-Err : goal.returns-in-Err
returns-in-Err c =
    turned_down _ _ (omega arith) c.post-posted.ensures _ (c.from.ensures ∙ sym (ap stopped_number c.in-Err.is))
    (omega (arith, c.from.ensures, refused-number c.in-Err.stopped.refusal))

pub report-requires : goal.report-requires
report-requires c = posted_addable _ _ _ _ c.post-posted.ensures refl (ap stopped_number c.in_default.is)

pub returns : goal.returns
returns c = in_full _ _ (omega arith) c.post-posted.ensures (ap stopped_number c.in_default.is) _ c.report.ensures
