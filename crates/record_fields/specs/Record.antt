-- Document 01, "Month file": what header, point and entry have in common, and what their decoders and encoders answer. Assumes nothing.
use Rattle.std.specs.Prelude.{ℕ, Bool, true, false, cond, ◌&&◌, List, eqb, length}
use Rattle.bits.specs.Fields.{fields_at, stored_all}

-- A kind of record: its size in bytes and the widths of its fields, the values of these fields and the record that such values make,
-- whether the fields of a fixed value, which the record does not hold, have it, and whether each of the others is in its range.
pub record Kind (R : Type 0) : Type 0 where
  pub size : ℕ
  pub widths : List ℕ
  pub values : R → List ℕ
  pub of : List ℕ → R
  pub fixed : List ℕ → Bool
  pub in_range : R → Bool

-- the record in these bytes, whatever its fields hold
abbrev pub within : {R : Type 0} → Kind R → List ℕ → R
within k bytes = k.of (fields_at bytes 0 k.widths)

-- the answer to fields with these values: the record that they make, or a refusal
abbrev pub judged : {R A : Type 0} → Kind R → (R → A) → A → List ℕ → A
judged k read refused vs = cond (k.fixed vs && k.in_range (k.of vs)) (read (k.of vs)) refused

-- the answer to bytes; any other length than the record's is refused
abbrev pub decoded : {R A : Type 0} → Kind R → (R → A) → A → List ℕ → A
decoded k read refused bytes = cond (eqb (length bytes) k.size) (judged k read refused (fields_at bytes 0 k.widths)) refused

-- whether the record is written, and the slice afterwards, which stays as it is where not
abbrev pub encoded : {R : Type 0} → Kind R → R → List ℕ → Bool × List ℕ
encoded k x bytes =
    cond (eqb (length bytes) k.size && k.in_range x) (true, stored_all bytes 0 k.widths (k.values x)) (false, bytes)
