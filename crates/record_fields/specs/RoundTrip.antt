-- That a record's decoder and its encoder undo each other. Assumes nothing.
use Rattle.std.specs.Prelude.{ℕ, ◌≡◌, Bool, true, List, length}
use Rattle.bits.specs.Fields.{AreBytes}

-- `decoded` and `encoded` are the definitions of a record of `size` bytes, and `read` is the answer that holds the record.
pub record RoundTrip {R A : Type 0} (size : ℕ) (in_range : R → Bool) (read : R → A)
    (decoded : List ℕ → A) (encoded : R → List ℕ → Bool × List ℕ) : Type 0 where
  -- what is encoded decodes to the record, for every record in range
  pub decodes : (x : R) (bytes : List ℕ) → in_range x ≡ true → length bytes ≡ size
      → ((encoded x bytes).0 ≡ true) × (decoded (encoded x bytes).1 ≡ read x)
  -- a record that is decoded is in range, and its bytes have the record's size
  pub accepts : (x : R) (bytes : List ℕ) → decoded bytes ≡ read x → (in_range x ≡ true) × (length bytes ≡ size)
  -- what is decoded encodes to the same bytes, whatever stood where they are written
  pub encodes : (x : R) (bytes out : List ℕ) → AreBytes bytes → decoded bytes ≡ read x → length out ≡ size
      → ◌≡◌ {A = Bool × List ℕ} (encoded x out) (true, bytes)
