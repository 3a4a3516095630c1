-- Document 01: "Write puts header (its entries field the length of L), points and L into a lent output and gives the file's
-- length; output bytes past the file are untouched." Assumes nothing.
use Rattle.std.specs.Prelude.{ℕ, ◌+◌, ◌*◌, cond, List, [], ◌∷◌, ◌++◌, ltb, eqb, length, take, drop, replicate, Result, Ok, Err}
use Rattle.refusals.specs.Refusals.{first}
use Rattle.header_record.specs.declared.Header.{Header}
use Rattle.point_record.specs.declared.Point.{Point}
use Rattle.header_record.specs.Header.{encoded_header}
use Rattle.point_record.specs.Point.{encoded_point}
use Rattle.answers.specs.declared.Refusal.{Refusal}
use Rattle.answers.specs.Numbers.{number_of}
use Rattle.master_data.specs.Master.{frame_of}
use Rattle.book.specs.declared.Book.{Book}
use Rattle.book.specs.Library.{Lent, guards}

-- the header, "its entries field the length of L", and its bytes
abbrev pub header_of : Book → Header
header_of b = record { year = b.master.year; month = b.master.month; points = b.master.count; entries = b.length }

unfoldable pub written_header : Header → List ℕ
written_header h = (encoded_header h (replicate 7 0)).1

-- the bytes of points, one after the other
unfoldable pub written_points : List Point → List ℕ
written_points [] = []
written_points (p ∷ ps) = (encoded_point p (replicate 21 0)).1 ++ written_points ps

-- the file: "header .., points and L", whose bytes lie in the journal j
unfoldable pub file_of : Book → List ℕ → List ℕ
file_of b j = written_header (header_of b) ++ written_points (frame_of b.master).points ++ take (12 * b.length) j

unfoldable pub file_length : Book → ℕ
file_length b = 7 + 21 * b.master.count + 12 * b.length

-- "Write: 7, 13.", and 17 before them; 13: "Output shorter than the file to be written"
unfoldable pub write_number : Book → Lent → List ℕ → ℕ
write_number b l out = first (guards b l ++ (13, ltb (length out) (file_length b)) ∷ [])

-- what write gives: the number, the length and the output afterwards
pub record WriteResult : Type 0 where
  pub number : ℕ
  pub length : ℕ
  pub output : List ℕ

abbrev pub write_result : ℕ → ℕ → List ℕ → WriteResult
write_result n k out = record { number = n; length = k; output = out }

-- of an answer. "Beside a refusal's number every other figure given is 0"
abbrev pub write_given : Result ℕ Refusal → List ℕ → WriteResult
write_given (Ok length) out = write_result 0 length out
write_given (Err r) out = write_result (number_of r) 0 out

-- "A refused call changes neither book nor buffer", and "beside a refusal's number every other figure given is 0"
unfoldable pub writing : Book → Lent → List ℕ → WriteResult
writing b l out =
    cond (eqb (write_number b l out) 0)
    (write_result 0 (file_length b) (file_of b l.journal ++ drop (file_length b) out))
    (write_result (write_number b l out) 0 out)
