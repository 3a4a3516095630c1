-- `book::Book::try_deliver` meets its contract: it tests 7 and 5, and leaves the other numbers to `file_entry`.
use mathlib.Core.Path.{◌≡◌, sym, ap, ◌∙◌}
use native.Mathlib.Omega.{arith}
use borrow.Author.Rules.{rules}
use Rattle.std.specs.Prelude.{Result, Err, ⊤}
use Rattle.entry_record.proofs.Laws.{entry_decoded}
use Rattle.answers.specs.declared.Refusal.{Refusal}
use Rattle.answers.specs.declared.Refusal.TheVariants.{Unreadable}
use Rattle.answers.specs.Numbers.{answered}
use Rattle.audit.proofs.Lawful.{not_unlawful}
use Rattle.audit.proofs.Placed.{read_range, placed, placed_read}
use Rattle.machine.specs.Machine.{deliver}
use Rattle.book.specs.Library.{lent, outcome}
use Rattle.book.proofs.Deliveries.{not_read, Given, is_refused, counts, stands_before, is_posted}
use Rattle.book.proofs.Numbers.{guarded, judged_refused}
use Rattle.book.proofs.Sound.{Sound, journal_lawful, not_short}
use Rattle.book.proofs.Book.try_deliver.Goals.{After-file_entry, In_ok-judge}
use Rattle.book.proofs.Book.try_deliver.Goals as goal

-- the book is sound
sound : (c : In_ok-judge) → Sound c.args.self.now (lent c.args.journal.now c.args.index.now)
sound c = guarded _ _ (sym c.judge.ensures ∙ ap answered c.in_ok-judge.was)

-- what filing the entry gave
given : (c : After-file_entry)
    → Given c.args.self.now (lent c.args.journal.now c.args.index.now) c.args.bytes.now c.in_ok-entry.entry
    c.file_entry.result c.file_entry.new.journal c.file_entry.new.index
given c =
    record {
      sound = guarded _ _ (sym c.judge.ensures ∙ ap answered c.in_ok-judge.was);
      read = sym (entry_decoded _ _ c.decode_entry.ensures) ∙ search rules;
      gave = c.file_entry.ensures;
    }

pub returns-in_err-judge : goal.returns-in_err-judge
returns-in_err-judge c = judged_refused _ _ (deliver c.args.bytes.now) c.in_err-judge.was c.judge.ensures (search rules)

pub returns-in_err-entry : goal.returns-in_err-entry
returns-in_err-entry c =
    let same : c.from_residual-in_err-entry.result ≡ Err Unreadable = search rules in
    let a = c.args in
    ap (λ (r : Result ⊤ Refusal). outcome (answered r) a.self.now (lent a.journal.now a.index.now)) same
    ∙ not_read _ _ _ (sound (goal.at.returns-in_err-entry c).In_ok-judge) (sym (entry_decoded _ _ c.decode_entry.ensures) ∙ search rules)

pub file_entry-requires : goal.file_entry-requires
file_entry-requires c =
    let s = sound (goal.at.file_entry-requires c).In_ok-judge in
    record {
      index_value = not_short s;
      index_value_2 = not_unlawful _ _ _ _ (journal_lawful s);
      bytes_value = sym (entry_decoded _ _ c.decode_entry.ensures) ∙ search rules;
    }

pub returns-in_err-replaced_at : goal.returns-in_err-replaced_at
returns-in_err-replaced_at c =
    let same : c.from_residual-in_err-replaced_at.result ≡ Err c.in_err-replaced_at.field-0.0 = search rules in
    let left = lent c.file_entry.new.journal c.file_entry.new.index in
    ap (λ (r : Result ⊤ Refusal). outcome (answered r) c.args.self.now left) same
    ∙ is_refused (given (goal.at.returns-in_err-replaced_at c).After-file_entry) _ c.in_err-replaced_at.was

pub found_at-replaced-requires : goal.found_at-replaced-requires
found_at-replaced-requires c =
    omega (
      arith,
      stands_before (given (goal.at.found_at-replaced-requires c).After-file_entry) _ c.in_ok-replaced_at.was,
      c.file_entry.auto.journal,
    )

pub overflow_add-length : goal.overflow_add-length
overflow_add-length c = record { fits = omega (arith, counts (given (goal.at.overflow_add-length c).After-file_entry)) }

pub restate-requires : goal.restate-requires
restate-requires c =
    let r = read_range _ _ (given (goal.at.restate-requires c).After-file_entry).read in
    record { point_bound = r.point; placed = placed_read _ r; placed_2 = placed _ _ _ c.found_at-replaced.ensures }

pub returns : goal.returns
returns c =
    is_posted (given (goal.at.returns c).After-file_entry) _ c.in_ok-replaced_at.was c.found_at-replaced.ensures
    c.restate.ensures
