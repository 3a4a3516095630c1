-- Document 01, "Month file": a point and its 21 bytes, and its band. Assumes nothing.
use Rattle.std.specs.Prelude.{ℕ, ◌*◌, Bool, true, cond, not, ◌&&◌, ◌||◌, List, [], ◌∷◌, Option, Some, None, is_none, ltb, leb, eqb, get_or, take}
use mir.Val.{bool_byte}
use Rattle.quarter.specs.declared.Transformer.{Transformer}
use Rattle.quarter.specs.Ranges.{tariffs_in_range}
use Rattle.quarter.specs.Reading.{level_of, level_bit}
use Rattle.point_record.specs.declared.Point.{Point}
use Rattle.record_fields.specs.Record.{Kind, within, decoded, encoded}

-- "role 1 bit ..; level 1 ..; transformers 3 ..; payment tariff, billing tariff, penalty 17 bits each ..; then four places of uk 12
-- bits .. and Sn 16 bits"
abbrev pub point_widths : List ℕ
point_widths = 1 ∷ 1 ∷ 3 ∷ 17 ∷ 17 ∷ 17 ∷ 12 ∷ 16 ∷ 12 ∷ 16 ∷ 12 ∷ 16 ∷ 12 ∷ 16 ∷ []

-- the values of these fields; "role 1 bit (0 active, 1 semi-active)", "level 1 (0 is 220 kV, 1 is 380 kV)"
abbrev pub point_values : Point → List ℕ
point_values p =
    bool_byte p.semi_active
    ∷ level_bit p.level
    ∷ p.transformers
    ∷ p.tariffs.payment
    ∷ p.tariffs.billing
    ∷ p.tariffs.penalty
    ∷ p.first.uk
    ∷ p.first.sn
    ∷ p.second.uk
    ∷ p.second.sn
    ∷ p.third.uk
    ∷ p.third.sn
    ∷ p.fourth.uk
    ∷ p.fourth.sn
    ∷ []

abbrev pub place : ℕ → ℕ → Transformer
place u s = record { uk = u; sn = s }

-- the point that fields with these values make
abbrev pub point_of : List ℕ → Point
point_of vs =
    record {
      semi_active = eqb (get_or vs 0 0) 1;
      level = level_of (get_or vs 1 0);
      transformers = get_or vs 2 0;
      tariffs = record { payment = get_or vs 3 0; billing = get_or vs 4 0; penalty = get_or vs 5 0 };
      first = place (get_or vs 6 0) (get_or vs 7 0);
      second = place (get_or vs 8 0) (get_or vs 9 0);
      third = place (get_or vs 10 0) (get_or vs 11 0);
      fourth = place (get_or vs 12 0) (get_or vs 13 0);
    }

-- "uk 12 bits (.. 1 to 4,000) and Sn 16 bits (.. 1 to 20,000). Places past the count are all zero."
unfoldable pub place_in_range : Bool → Transformer → Bool
place_in_range counts t =
    counts && leb 1 t.uk && leb t.uk 4000 && leb 1 t.sn && leb t.sn 20000
    || not counts && eqb t.uk 0 && eqb t.sn 0

-- "transformers 3 (active 0, semi-active 1 to 4)", the tariffs, and the four places, of which the first ones are counted
unfoldable pub point_in_range : Point → Bool
point_in_range p =
    (p.semi_active && leb 1 p.transformers && leb p.transformers 4
    || not p.semi_active && eqb p.transformers 0)
    && tariffs_in_range p.semi_active p.tariffs
    && place_in_range (ltb 0 p.transformers) p.first
    && place_in_range (ltb 1 p.transformers) p.second
    && place_in_range (ltb 2 p.transformers) p.third
    && place_in_range (ltb 3 p.transformers) p.fourth

-- a point takes 21 bytes, and holds all their fields
abbrev pub point_kind : Kind Point
point_kind =
    record { size = 21; widths = point_widths; values = point_values; of = point_of; fixed = λ vs. true; in_range = point_in_range }

-- a point of zeros
unfoldable pub no_point : Point
no_point = point_of []

-- the number and the point that an answer gives. "An accepted call gives number 0. Beside a refusal's number every other figure given
-- is 0"
unfoldable pub point_given : Option Point → ℕ × Point
point_given (Some p) = (0, p)
point_given None = (4, no_point)

-- what bytes give. 4: "A point record breaks a rule above."; any other length than 21 bytes gives 4 too
unfoldable pub read_point : List ℕ → ℕ × Point
read_point bytes = decoded point_kind (λ p. (0, p)) (4, no_point) bytes

-- the answer that gives it
unfoldable pub decoded_point : List ℕ → Option Point
decoded_point bytes = decoded point_kind Some None bytes

unfoldable pub encoded_point : Point → List ℕ → Bool × List ℕ
encoded_point p bytes = encoded point_kind p bytes

unfoldable pub point_in : List ℕ → Point
point_in bytes = within point_kind bytes

-- the transformers that count, for the band: "the sum of uk times Sn over the transformers"
unfoldable pub counted : Point → List Transformer
counted p = take p.transformers (p.first ∷ p.second ∷ p.third ∷ p.fourth ∷ [])

-- what a place adds to the band
abbrev pub product : Bool → Transformer → ℕ
product counts t = cond counts (t.uk * t.sn) 0

-- whether these bytes are refused
unfoldable pub wrong_point : List ℕ → Bool
wrong_point bytes = is_none (decoded_point bytes)
