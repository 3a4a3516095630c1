-- Demand 3 as the promise of one function: what running a script on a file answers is what the machine answers to its calls.
-- Assumes nothing.
use Rattle.std.specs.Prelude.{ℕ, cond, not, List, [], ◌∷◌, ◌++◌, ltb, eqb, length, drop, Result, Ok, Err}
use Rattle.bits.specs.Fields.{words}
use Rattle.refusals.specs.Refusals.{first}
use Rattle.answers.specs.declared.Refusal.{Refusal}
use Rattle.answers.specs.Numbers.{number_of}
use Rattle.machine.specs.Machine as machine
use Rattle.book.specs.Library as library
use Rattle.book.specs.Library.{Lent}
use Rattle.opening.specs.Opening.{opening_number, opened_book, opened_lent}
use Rattle.demand.specs.Demand.{beside}
use Rattle.call_script.specs.Script.{calls}
use Rattle.call_answers.specs.Answers.{all_numbers}

-- the bytes of the machine's answers to the calls that the script holds; of what is lent it is fed the journal's length alone
unfoldable pub answered : List ℕ → List ℕ → ℕ → List ℕ
answered file script size = words (all_numbers (machine.answers (beside file size) (calls script)))

-- 13 as of write, before anything is done: the slice for the answers is shorter than they are; then the numbers of open
unfoldable pub run_number : List ℕ → List ℕ → Lent → List ℕ → ℕ
run_number file script l out =
    let opens = opening_number file l.index in
    first ((13, ltb (length out) (length (answered file script (length l.journal)))) ∷ (opens, not (eqb opens 0)) ∷ [])

-- what a run gives: the number, how many bytes the answers take, what is lent afterwards, and the slice of answers
pub record RunResult : Type 0 where
  pub number : ℕ
  pub taken : ℕ
  pub lent : Lent
  pub answers : List ℕ

abbrev pub run_result : ℕ → ℕ → Lent → List ℕ → RunResult
run_result n taken l out = record { number = n; taken = taken; lent = l; answers = out }

-- of an answer. "Beside a refusal's number every other figure given is 0"
abbrev pub run_given : Result ℕ Refusal → Lent → List ℕ → RunResult
run_given (Ok taken) l out = run_result 0 taken l out
run_given (Err r) l out = run_result (number_of r) 0 l out

-- journal and index are as the calls leave them, one index being lent to the opening and to all of them; bytes behind the answers
-- stay; beside a refusal's number all is as it was
unfoldable pub running : List ℕ → List ℕ → Lent → List ℕ → RunResult
running file script l out =
    let number = run_number file script l out in
    let text = answered file script (length l.journal) in
    let end = (library.run (opened_book file l.index) (opened_lent file l) (calls script)).lent in
    cond (eqb number 0) (run_result 0 (length text) end (text ++ drop (length text) out)) (run_result number 0 l out)
