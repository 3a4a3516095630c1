-- Bytes that a decoder does not refuse hold the record that their fields make, for every kind of record. Assumes nothing.
use Prim.Native.Nat.{ℕ}
use mathlib.Core.Path.{◌≡◌, refl, sym, ap, ◌∙◌}
use mathlib.Core.Bool.{Bool, true, false, false≢true, cond, ◌&&◌}
use mathlib.Core.List.{List}
use borrow.Author.Tests.{eqb-true}
use lib.Dec.{eqb}
use lib.ListN.{length}
use Rattle.bits.specs.Fields.{fields_at}
use Rattle.record_fields.specs.Record.{Kind, within, decoded}
use Rattle.refusals.proofs.Tests.{both}

-- What a decoder's answer says of the bytes, where `within` is the record that their fields make.
pub record Reads {R A : Type 0} (size : ℕ) (in_range : R → Bool) (read : R → A) (refused : A) (decoded : List ℕ → A)
    (within : List ℕ → R) (refuses : List ℕ → Bool) : Type 0 where
  -- bytes that are not refused are read as that record
  pub readable : (bytes : List ℕ) → refuses bytes ≡ false → decoded bytes ≡ read (within bytes)
  -- it is in range then, and the bytes have the record's size
  pub range : (bytes : List ℕ) → refuses bytes ≡ false → (in_range (within bytes) ≡ true) × (length bytes ≡ size)
  -- what is read is that record
  pub read_is : (bytes : List ℕ) (x : R) → decoded bytes ≡ read x → (refuses bytes ≡ false) × (within bytes ≡ x)
  -- and what is answered by a refusal is refused
  pub refused_is : (bytes : List ℕ) → decoded bytes ≡ refused → refuses bytes ≡ true

module _ {R A : Type 0} (k : Kind R) (read : R → A) (refused : A) (is_refused : A → Bool)
    (reads : (x : R) → is_refused (read x) ≡ false) (refuses : is_refused refused ≡ true) (same : (x y : R) → read x ≡ read y → x ≡ y) where
  -- the test that the fields pass
  abbrev passes : List ℕ → Bool
  passes bytes = k.fixed (fields_at bytes 0 k.widths) && k.in_range (within k bytes)

  -- an answer that is no refusal was given after both tests
  tested : (a b : Bool) (x : R) → is_refused (cond a (cond b (read x) refused) refused) ≡ false → (a ≡ true) × (b ≡ true)
  tested true true x h = (refl, refl)
  tested true false x h = absurd (false≢true (sym h ∙ refuses))
  tested false b x h = absurd (false≢true (sym h ∙ refuses))

  -- so the bytes have the size and pass the test
  shown : (bytes : List ℕ) → is_refused (decoded k read refused bytes) ≡ false
      → (eqb (length bytes) k.size ≡ true) × (passes bytes ≡ true)
  shown bytes h = tested (eqb (length bytes) k.size) (passes bytes) (within k bytes) h

  -- and the answer is the record
  found : (bytes : List ℕ) → is_refused (decoded k read refused bytes) ≡ false → decoded k read refused bytes ≡ read (within k bytes)
  found bytes h = let s = shown bytes h in rw (s.0, s.1)

  -- the four together
  pub all_read : Reads k.size k.in_range read refused (decoded k read refused) (within k)
      (λ bytes. is_refused (decoded k read refused bytes))
  all_read =
      record {
        readable = found;
        range =
            λ bytes h.
            let s = shown bytes h in
            let b = both (k.fixed (fields_at bytes 0 k.widths)) (k.in_range (within k bytes)) s.1 in
            (b.1, eqb-true (length bytes) k.size s.0);
        read_is = λ bytes x e. let r = ap is_refused e ∙ reads x in (r, same (within k bytes) x (sym (found bytes r) ∙ e));
        refused_is = λ bytes e. ap is_refused e ∙ refuses;
      }
