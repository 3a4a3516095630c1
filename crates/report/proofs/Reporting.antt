-- What is printed, from what posting gives. Assumes nothing.
use Prim.Native.Nat.{ℕ, ◌<◌, ◌≤◌}
use mathlib.Core.Path.{◌≡◌, refl, sym, ap}
use mathlib.Core.List.{List}
use borrow.Author.Tests.{lt-ltb, le-ltb}
use lib.ListN.{length, replicate}
use Rattle.std.specs.Prelude.{Result, Ok, Err}
use Rattle.refusals.proofs.First.{refuse}
use Rattle.book.specs.Library.{lent}
use Rattle.posting.specs.Posting.{PostResult, posting}
use Rattle.statement_text.specs.declared.Statement.{Statement}
use Rattle.report.specs.Statement.{of_book, reported, input_most, journal_size, index_size, own_lent, statement}

-- too much was read
pub too_much : (input : List ℕ) → input_most < length input → Err 12 ≡ statement input
unfolding statement
too_much input h = rw (lt-ltb input_most (length input) h) refl

-- what posting gives is reported
pub shown : (input : List ℕ) (s : Result Statement ℕ) (n : ℕ) (x : PostResult) → length input ≤ input_most
    → x ≡ posting input (lent (replicate journal_size 0) (replicate index_size 0)) → n ≡ x.number → s ≡ reported n x.book → s ≡ statement input
unfolding own_lent statement
shown input s n x h q e r = rw (le-ltb input_most (length input) h, ← q, ← e) r

-- The two cases of it.
module _ (input : List ℕ) (x : PostResult) (h : length input ≤ input_most)
    (q : x ≡ posting input (lent (replicate journal_size 0) (replicate index_size 0))) where
  -- a refusal by its number
  pub turned_down : (n : ℕ) → n ≡ x.number → 0 < n → Err n ≡ statement input
  unfolding reported
  turned_down n e p = shown input (Err n) n x h q e (rw (refuse p) refl)

  -- and else the figures of the book
  pub in_full : x.number ≡ 0 → (s : Statement) → s ≡ of_book x.book → Ok s ≡ statement input
  unfolding reported
  in_full z s e = shown input (Ok s) 0 x h q (sym z) (ap Ok e)
