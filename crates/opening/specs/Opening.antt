-- What open gives: document 01, "Open reads a whole file's header and points", its numbers 1 to 4, and 02's index. Assumes nothing.
use Rattle.std.specs.Prelude.{ℕ, ◌+◌, ◌-◌, ◌*◌, Bool, true, false, cond, not, List, [], ◌∷◌, ◌++◌, ltb, eqb, length, take, drop, replicate, Option, None, Some, Result, Ok, Err}
use Rattle.header_record.specs.declared.Header.{Header}
use Rattle.point_record.specs.declared.Point.{Point}
use Rattle.header_record.specs.Header.{header_in, wrong_header}
use Rattle.point_record.specs.Point.{point_in, wrong_point, no_point}
use Rattle.refusals.specs.Refusals.{first}
use Rattle.answers.specs.declared.Refusal.{Refusal}
use Rattle.worth.specs.Figures.{nothing}
use Rattle.lists.specs.Lists.{any_below, places_below}
use Rattle.index.specs.Index.{short_index, cleared}
use Rattle.master_data.specs.declared.MasterData.{MasterData}
use Rattle.book.specs.declared.Book.{Book}
use Rattle.book.specs.Library.{Lent, with_index}

-- the bytes of the header, and of the point at a place
unfoldable pub header_bytes : List ℕ → List ℕ
header_bytes file = take 7 file

unfoldable pub point_bytes : ℕ → List ℕ → List ℕ
point_bytes i file = take 21 (drop (7 + 21 * i) file)

-- the header, and the first n points
abbrev pub header : List ℕ → Header
header file = header_in (header_bytes file)

abbrev pub first_points : ℕ → List ℕ → List Point
first_points n file = places_below (λ i. point_in (point_bytes i file)) n

abbrev pub points : List ℕ → List Point
points file = first_points (header file).points file

-- 4: "A point record breaks a rule above.": one of the first n
abbrev pub any_wrong : ℕ → List ℕ → Bool
any_wrong n file = any_below (λ i. wrong_point (point_bytes i file)) n

-- the first n points with points of zeros past them, unless one of them is wrong
unfoldable pub read_points : ℕ → List ℕ → Option (List Point)
read_points n file = cond (any_wrong n file) None (Some (first_points n file ++ replicate (8 - n) no_point))

-- 3: "Length differs from 7 + 21 · points + 12 · entries."
unfoldable pub wrong_length : List ℕ → Bool
wrong_length file = not (eqb (length file) (7 + 21 * (header file).points + 12 * (header file).entries))

-- "Open: 1, 2, 3, 4."; 1: "Fewer than 7 bytes." 2: "A header field wrong."; 02, Ticket 6: "17 if the index slice is shorter than the
-- points need, .. in open after 4". The index is x here and below
abbrev pub opening_conditions : List ℕ → List ℕ → List (ℕ × Bool)
opening_conditions file x =
    (1, ltb (length file) 7)
    ∷ (2, wrong_header (header_bytes file))
    ∷ (3, wrong_length file)
    ∷ (4, any_wrong (header file).points file)
    ∷ (17, short_index (header file).points x)
    ∷ []

unfoldable pub opening_number : List ℕ → List ℕ → ℕ
opening_number file x = first (opening_conditions file x)

-- the master data of a header and points, with points of zeros past them
abbrev pub master_of : Header → List Point → MasterData
master_of h ps = record { year = h.year; month = h.month; count = h.points; points = ps }

abbrev pub padded : List Point → List Point
padded ps = ps ++ replicate (8 - length ps) no_point

-- "the void book: closed, no points, every number 0"
unfoldable pub void : Book
void =
    record {
      master = record { year = 0; month = 0; count = 0; points = replicate 8 no_point };
      length = 0;
      closed = true;
      totals = replicate 8 nothing;
    }

-- "A fresh book is what an accepted open gives: L empty, not closed."
abbrev pub fresh_of : MasterData → Book
fresh_of m = record { master = m; length = 0; closed = false; totals = replicate 8 nothing }

-- "A refused open .. hand[s] back the void book"
unfoldable pub opened_book : List ℕ → List ℕ → Book
opened_book file x = cond (eqb (opening_number file x) 0) (fresh_of (master_of (header file) (padded (points file)))) void

-- what is handed back for a book or a refusal
abbrev pub handed_back : Result Book Refusal → Book
handed_back (Ok b) = b
handed_back (Err _) = void

-- 02, Ticket 6: "Opening zeroes those places"; 01: "A refused call changes neither book nor buffer"
unfoldable pub opened_index : List ℕ → List ℕ → List ℕ
opened_index file x = cond (eqb (opening_number file x) 0) (cleared (header file).points x) x

-- what is lent, after its index was lent to the opening
abbrev pub opened_lent : List ℕ → Lent → Lent
opened_lent file l = with_index l (opened_index file l.index)
