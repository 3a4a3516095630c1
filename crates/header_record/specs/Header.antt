-- Document 01, "Month file": the header and its 7 bytes. Assumes nothing.
use Rattle.std.specs.Prelude.{ℕ, Bool, ◌&&◌, List, [], ◌∷◌, Option, Some, None, is_none, leb, eqb, get_or}
use Rattle.header_record.specs.declared.Header.{Header}
use Rattle.record_fields.specs.Record.{Kind, within, decoded, encoded}

-- "the two bytes ..; year 12 bits ..; month 4 ..; points 4 ..; entries 20"
abbrev pub header_widths : List ℕ
header_widths = 8 ∷ 8 ∷ 12 ∷ 4 ∷ 4 ∷ 20 ∷ []

-- the values of these fields, "the two bytes 42 45 hex" first
abbrev pub header_values : Header → List ℕ
header_values h = 0x42 ∷ 0x45 ∷ h.year ∷ h.month ∷ h.points ∷ h.entries ∷ []

-- the header that fields with these values make
abbrev pub header_of : List ℕ → Header
header_of vs = record { year = get_or vs 2 0; month = get_or vs 3 0; points = get_or vs 4 0; entries = get_or vs 5 0 }

-- "year 12 bits (2020 to 2099); month 4 (1 to 12); points 4 (1 to 8); entries 20 (0 to 65,535)"
unfoldable pub header_in_range : Header → Bool
header_in_range h =
    leb 2020 h.year
    && leb h.year 2099
    && leb 1 h.month
    && leb h.month 12
    && leb 1 h.points
    && leb h.points 8
    && leb h.entries 65535

-- a header takes 7 bytes, and opens with "42 45 hex"
abbrev pub header_kind : Kind Header
header_kind =
    record {
      size = 7;
      widths = header_widths;
      values = header_values;
      of = header_of;
      fixed = λ vs. eqb (get_or vs 0 0) 0x42 && eqb (get_or vs 1 0) 0x45;
      in_range = header_in_range;
    }

-- a header of zeros
unfoldable pub no_header : Header
no_header = header_of []

-- the number and the header that an answer gives. "An accepted call gives number 0. Beside a refusal's number every other figure given
-- is 0"
unfoldable pub header_given : Option Header → ℕ × Header
header_given (Some h) = (0, h)
header_given None = (2, no_header)

-- what bytes give. 2: "A header field wrong."; any other length than 7 bytes gives 2 too
unfoldable pub read_header : List ℕ → ℕ × Header
read_header bytes = decoded header_kind (λ h. (0, h)) (2, no_header) bytes

-- the answer that gives it
unfoldable pub decoded_header : List ℕ → Option Header
decoded_header bytes = decoded header_kind Some None bytes

unfoldable pub encoded_header : Header → List ℕ → Bool × List ℕ
encoded_header h bytes = encoded header_kind h bytes

unfoldable pub header_in : List ℕ → Header
header_in bytes = within header_kind bytes

-- whether these bytes are refused
unfoldable pub wrong_header : List ℕ → Bool
wrong_header bytes = is_none (decoded_header bytes)
