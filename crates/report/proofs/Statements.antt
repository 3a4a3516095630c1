-- What every statement has: the figures of a book, or a refusal. Assumes nothing.
use Prim.Native.Nat.{ℕ, ◌≤◌, ◌<◌}
use mathlib.Core.Path.{◌≡◌, refl}
use mathlib.Core.Bool.{Bool, true, false, cond}
use mathlib.Core.List.{List}
use borrow.Author.Tests.{ltb-false}
use lib.Dec.{ltb}
use lib.ListN.{length}
use Rattle.std.specs.Prelude.{Result, Ok, Err}
use Rattle.posting.specs.Posting.{posting}
use Rattle.posting.proofs.Results.{chosen}
use Rattle.statement_text.specs.declared.Statement.{Statement}
use Rattle.report.specs.Statement.{of_book, reported, input_most, own_lent, statement}

-- what the figures of a book and a refusal have, the statement of what was read has
pub statement_has : (P : Result Statement ℕ → Type 0) (input : List ℕ) → let r = posting input own_lent in P (Ok (of_book r.book))
    → P (Err 12) → (length input ≤ input_most → 0 < r.number → P (Err r.number)) → P (statement input)
unfolding statement reported
statement_has P input figures too_long_lem refused = go (ltb input_most (length input)) refl
  where
    go : (t : Bool) → ltb input_most (length input) ≡ t
        → let r = posting input own_lent in P (cond t (Err 12) (reported r.number r.book))
    go true e = too_long_lem
    go false e =
        let r = posting input own_lent in
        chosen P r.number (Ok (of_book r.book)) (Err r.number) (λ z. figures)
        (refused (ltb-false input_most (length input) e))
