-- `writing::write` meets its contract: the book is judged, 13 is tested, and the bytes are left to `write_file`.
use Prim.Native.Nat.{ℕ}
use mathlib.Core.Path.{◌≡◌, sym, ap, ◌∙◌}
use native.Mathlib.Omega.{arith}
use borrow.Author.Rules.{rules}
use Rattle.std.specs.Prelude.{Result, Err}
use Rattle.answers.specs.declared.Refusal.{Refusal}
use Rattle.answers.specs.Numbers.{answered}
use Rattle.book.proofs.Numbers.{guarded}
use Rattle.writing.specs.Writing.{file_length, write_given}
use Rattle.writing.proofs.FileWritten.{is_short, sound_writable, guard_answered, thirteen, written}
use Rattle.writing.proofs.write.Goals as goal

pub returns-in_err-judge : goal.returns-in_err-judge
returns-in_err-judge c =
    let same : c.from_residual.result ≡ Err c.in_err-judge.field-0.0 = search rules in
    ap (λ (r : Result ℕ Refusal). write_given r c.args.output.now) same
    ∙ guard_answered _ _ _ c.in_err-judge.field-0.0 (sym (ap answered c.in_err-judge.was) ∙ c.judge.ensures)

pub overflow_mul-length-2 : goal.overflow_mul-length-2
overflow_mul-length-2 c =
    let none = sym c.judge.ensures ∙ ap answered c.in_ok-judge.was in
    let w = sound_writable (guarded _ _ none) in
    omega arith

pub overflow_add-length-2 : goal.overflow_add-length-2
overflow_add-length-2 c =
    let none = sym c.judge.ensures ∙ ap answered c.in_ok-judge.was in
    let w = sound_writable (guarded _ _ none) in
    omega arith

pub returns-then-output-length : goal.returns-then-output-length
unfolding file_length
returns-then-output-length c =
    let none = sym c.judge.ensures ∙ ap answered c.in_ok-judge.was in
    thirteen _ _ _ none (omega arith)

pub write_file-requires : goal.write_file-requires
unfolding file_length
write_file-requires c =
    let none = sym c.judge.ensures ∙ ap answered c.in_ok-judge.was in
    let s = guarded _ _ none in
    record { master_value = s.ranged.month; master_value_2 = s.ranged.point; journal_value = is_short s; book_in_bounds = omega arith }

pub returns : goal.returns
unfolding file_length
returns c =
    let none = sym c.judge.ensures ∙ ap answered c.in_ok-judge.was in
    written _ _ _ none (omega arith) _ c.write_file.ensures
