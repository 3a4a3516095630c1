-- The number of each answer in documents 01 and 02. Assumes nothing.
use Rattle.std.specs.Prelude.{ℕ, Result, Ok, Err}
use Rattle.answers.specs.declared.Refusal.{Refusal}
use Rattle.answers.specs.declared.Refusal.TheVariants.{TooShort, WrongHeader, WrongLength, WrongPoint, Unreadable}
use Rattle.answers.specs.declared.Refusal.TheVariants.{Outside, Unsound, AlreadyClosed, NotAbove, Full, Empty, ShortOutput, ShortIndex}

-- 01, "Numbers from the input" and "Numbers from the state"; 02, Ticket 6, "17".
abbrev pub number_of : Refusal → ℕ
number_of TooShort = 1
number_of WrongHeader = 2
number_of WrongLength = 3
number_of WrongPoint = 4
number_of Unreadable = 5
number_of Outside = 6
number_of Unsound = 7
number_of AlreadyClosed = 8
number_of NotAbove = 9
number_of Full = 10
number_of Empty = 11
number_of ShortOutput = 13
number_of ShortIndex = 17

-- "An accepted call gives number 0."
abbrev pub answered : {A : Type 0} → Result A Refusal → ℕ
answered (Ok _) = 0
answered (Err r) = number_of r
