-- The number handed to printing: which it can be, and that it is never 10 nor 17. Assumes nothing.
use Prim.Native.Nat.{ℕ, ◌≤◌, ◌<◌}
use mathlib.Core.Path.{◌≡◌, refl, sym, ap, ◌∙◌}
use mathlib.Core.Bool.{true, false, false≢true}
use mathlib.Core.List.{List}
use native.Mathlib.Omega.{arith}
use lib.Dec.{eqb}
use lib.ListN.{length, length-replicate}
use Rattle.lists.specs.Lists.{any_of}
use Rattle.lists.proofs.Laws.{any_snoc}
use Rattle.header_record.proofs.Headers.{in_range_lem}
use Rattle.header_record.proofs.Laws.{header_reads}
use Rattle.machine.specs.Machine.{capacity_of}
use Rattle.opening.specs.Opening.{header_bytes, header, opening_number}
use Rattle.opening.proofs.Accepted.{openable}
use Rattle.std.specs.Prelude.{Result, Ok, Err}
use Rattle.posting.specs.Posting.{entries_of, posting}
use Rattle.posting.proofs.Numbers.{numbers_given, posted-given}
use Rattle.statement_text.specs.declared.Statement.{Statement}
use Rattle.report.specs.Statement.{input_most, journal_size, index_size, own_lent, statement, number}
use Rattle.report.specs.Statement.{NeverFull, NeverShort, numbers_seen, OnlyNumbersSeen, NeverRefusedBy0}
use Rattle.report.proofs.Statements.{statement_has}

-- a file that 12 does not stop has a point, and so no more entries than the journal has places
journal_holds : (input : List ℕ) → length input ≤ input_most → opening_number input own_lent.index ≡ 0
    → entries_of input ≤ capacity_of (length own_lent.journal)
unfolding own_lent capacity_of
journal_holds input h z =
    let o = openable input own_lent.index z in
    let point = (in_range_lem (header input) (header_reads.range (header_bytes input) o.header_right).0).points_least in
    omega (arith, o.long, point, length-replicate {A = ℕ} journal_size 0)

-- and the index has places for eight points
index_long : index_size ≤ length own_lent.index
unfolding own_lent
index_long = omega (arith, length-replicate {A = ℕ} index_size 0)

-- what is handed over with a number that is seen
abbrev Seen : Result Statement ℕ → Type 0
Seen s = any_of (eqb (number s)) numbers_seen ≡ true

-- 0, 12, or a number of posting
pub only_numbers_seen : OnlyNumbersSeen
unfolding numbers_seen any_of
only_numbers_seen input =
    let n = (posting input own_lent).number in
    statement_has Seen input refl refl
    (λ h p. any_snoc (eqb n) numbers_given 12 ∙ rw (posted-given input own_lent index_long (journal_holds input h)))

-- the number of a refusal, and 1 for a book
abbrev refused_by : Result Statement ℕ → ℕ
refused_by (Ok _) = 1
refused_by (Err n) = n

-- 12, or a number above 0 of posting
above_0 : (input : List ℕ) → 0 < refused_by (statement input)
above_0 input =
    let one : 0 < 1 = omega arith in
    let twelve : 0 < 12 = omega arith in
    statement_has (λ s. 0 < refused_by s) input one twelve (λ h p. p)

pub never_refused_by_0 : NeverRefusedBy0
never_refused_by_0 input e =
    let zero_given : refused_by (statement input) ≡ 0 = ap refused_by e in
    omega (arith, above_0 input, zero_given)

-- a number that is none of them is not handed over
unseen : (n : ℕ) → any_of (eqb n) numbers_seen ≡ false → (input : List ℕ) → number (statement input) ≡ n → ⊥
unseen n none input h = false≢true (sym none ∙ ap (λ (m : ℕ). any_of (eqb m) numbers_seen) (sym h) ∙ only_numbers_seen input)

-- 10 is none
pub never_full : NeverFull
unfolding numbers_seen any_of
never_full = unseen 10 refl

-- nor is 17
pub never_short : NeverShort
unfolding numbers_seen any_of
never_short = unseen 17 refl
