-- Document 01, "Statement", and document 02, Ticket 1: the bytes that are printed. Assumes nothing.
use Rattle.std.specs.Prelude.{ℕ, zero, suc, ◌+◌, ◌-◌, ◌/◌, ◌%◌, cond, List, [], ◌∷◌, ◌++◌, Result, Ok, Err, ltb, length, take, replicate}
use Rattle.statement_text.specs.declared.Line.{Line}
use Rattle.statement_text.specs.declared.Statement.{Statement}
use Rattle.statement_text.specs.declared.page.Page.{Page}

-- a digit in ASCII
abbrev pub digit : ℕ → ℕ
digit d = 48 + d

-- a number in decimal, of at most so many digits
unfoldable pub decimal_of : ℕ → ℕ → List ℕ
decimal_of zero n = []
decimal_of (suc most) n = cond (ltb n 10) (digit n ∷ []) (decimal_of most (n / 10) ++ digit (n % 10) ∷ [])

-- 20 digits hold every number of 64 bits
unfoldable pub decimal : ℕ → List ℕ
decimal n = decimal_of 20 n

-- a space, and a number behind it
unfoldable pub spaced : ℕ → List ℕ
spaced n = 0x20 ∷ decimal n

-- "Every line ends with the byte 0A hex."
unfoldable pub ended : List ℕ → List ℕ
ended l = l ++ 0x0a ∷ []

-- "month two digits"
unfoldable pub two_digits : ℕ → List ℕ
two_digits n = digit (n / 10 % 10) ∷ digit (n % 10) ∷ []

-- "`refused N`"
unfoldable pub refused_text : ℕ → List ℕ
refused_text n = ended (0x72 ∷ 0x65 ∷ 0x66 ∷ 0x75 ∷ 0x73 ∷ 0x65 ∷ 0x64 ∷ spaced n)

-- "a line `year-month quarters entries`"
unfoldable pub month_text : Statement → List ℕ
month_text s = ended (decimal s.year ++ 0x2d ∷ [] ++ two_digits s.month ++ spaced s.quarters ++ spaced s.entries)

-- "absolute, paid, free, billed, allowance, disconnected in grains, credit and debit in rappen"
unfoldable pub columns_text : Line → List ℕ
columns_text l =
    spaced l.absolute ++ spaced l.paid ++ spaced l.free ++ spaced l.billed ++ spaced l.allowance ++ spaced l.disconnected
    ++ spaced l.credit ++ spaced l.debit

-- a line of figures: its first word, and the columns behind it
unfoldable pub line_text : List ℕ → Line → List ℕ
line_text first l = ended (first ++ columns_text l)

-- "a line for each point: its number, .."
unfoldable pub point_text : ℕ → Line → List ℕ
point_text p l = line_text (decimal p) l

-- the lines of points from number p on
unfoldable pub points_text : ℕ → List Line → List ℕ
points_text p [] = []
points_text p (l ∷ ls) = point_text p l ++ points_text (suc p) ls

-- 02, Ticket 1: "a last line `total` with the eight columns"
unfoldable pub total_text : Line → List ℕ
total_text l = line_text (0x74 ∷ 0x6f ∷ 0x74 ∷ 0x61 ∷ 0x6c ∷ []) l

-- the whole text, of a month or of a refusal
unfoldable pub text_of : Result Statement ℕ → List ℕ
text_of (Ok s) = month_text s ++ points_text 0 (take s.count s.lines) ++ total_text s.total
text_of (Err number) = refused_text number

-- a page of 2,048 bytes with this text at its start, and zeros behind it
unfoldable pub page_of : List ℕ → Page
page_of l = record { bytes = l ++ replicate (2048 - length l) 0; length = length l }
