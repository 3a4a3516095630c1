-- The decoder and the encoder of every kind of record undo each other. Assumes nothing.
use Prim.Native.Nat.{ℕ}
use mathlib.Core.Path.{◌≡◌, refl, sym, ap, ◌∙◌}
use mathlib.Core.Bool.{Bool, true, false, cond, ◌&&◌}
use mathlib.Core.List.{List}
use native.Mathlib.Omega.{arith}
use borrow.Author.Tests.{eq-eqb, eqb-true}
use lib.Dec.{eqb}
use lib.ListN.{length}
use Rattle.bits.specs.Fields.{AreBytes, fields_at, stored_all}
use Rattle.bits.proofs.Laws.{length-stored_all, fields_stored, stored_fields}
use Rattle.record_fields.specs.Record.{Kind, within, judged, decoded, encoded}
use Rattle.record_fields.specs.RoundTrip.{RoundTrip}
use Rattle.refusals.proofs.Tests.{both}
use Rattle.record_fields.proofs.Answers.{Lawful}

-- a choice that is not its second answer was made for the first
chosen : {A : Type 0} (b : Bool) (x y z : A) → (y ≡ z → ⊥) → cond b x y ≡ z → (b ≡ true) × (x ≡ z)
chosen true x y z n e = (refl, e)
chosen false x y z n e = absurd (n e)

-- A kind of record, where a refusal is no record, and values and record give each other back.
module _ {R A : Type 0} (k : Kind R) (lawful : Lawful k) (read : R → A) (refused : A)
    (differ : (x : R) → refused ≡ read x → ⊥) (same : (x y : R) → read x ≡ read y → x ≡ y)
    (fixes : (x : R) → k.fixed (k.values x) ≡ true) (back : (x : R) → k.of (k.values x) ≡ x)
    (forth : (bytes : List ℕ) → k.fixed (fields_at bytes 0 k.widths) ≡ true
    → k.values (within k bytes) ≡ fields_at bytes 0 k.widths) where
  writes : (x : R) (bytes : List ℕ) → k.in_range x ≡ true → length bytes ≡ k.size
      → ◌≡◌ {A = Bool × List ℕ} (encoded k x bytes) (true, stored_all bytes 0 k.widths (k.values x))
  writes x bytes t l = rw (eq-eqb (length bytes) k.size l, t)

  reads : (x : R) (bytes : List ℕ) → k.in_range x ≡ true → length bytes ≡ k.size
      → decoded k read refused (stored_all bytes 0 k.widths (k.values x)) ≡ read x
  reads x bytes t l =
      rw (
        eq-eqb (length (stored_all bytes 0 k.widths (k.values x))) k.size (length-stored_all bytes 0 k.widths (k.values x) ∙ l),
        fields_stored bytes 0 k.widths (k.values x) (omega (arith, lawful.filled)) (lawful.fit x t),
        fixes x,
        back x,
        t,
      )

  -- what an accepted record was made of
  made : (x : R) (bytes : List ℕ) → decoded k read refused bytes ≡ read x
      → (length bytes ≡ k.size) × ((k.fixed (fields_at bytes 0 k.widths) ≡ true) × ((k.in_range x ≡ true) × (within k bytes ≡ x)))
  made x bytes d =
      let vs = fields_at bytes 0 k.widths in
      let l = chosen (eqb (length bytes) k.size) (judged k read refused vs) refused (read x) (differ x) d in
      let f = chosen (k.fixed vs && k.in_range (k.of vs)) (read (k.of vs)) refused (read x) (differ x) l.1 in
      let b = both (k.fixed vs) (k.in_range (k.of vs)) f.0 in
      let e : k.of vs ≡ x = same (k.of vs) x f.1 in
      (eqb-true (length bytes) k.size l.0, (b.0, (ap k.in_range (sym e) ∙ b.1, e)))

  again : (x : R) (bytes out : List ℕ) → AreBytes bytes → decoded k read refused bytes ≡ read x → length out ≡ k.size
      → ◌≡◌ {A = Bool × List ℕ} (encoded k x out) (true, bytes)
  again x bytes out small d l =
      let m = made x bytes d in
      let vs : k.values x ≡ fields_at bytes 0 k.widths = ap k.values (sym m.1.1.1) ∙ forth bytes m.1.0 in
      let e : stored_all out 0 k.widths (k.values x) ≡ bytes =
      ap (stored_all out 0 k.widths) vs
      ∙ stored_fields bytes out k.widths small (l ∙ sym m.0) (omega (arith, m.0, lawful.filled)) in
      writes x out m.1.1.0 l ∙ ap (λ (bs : List ℕ). (true, bs)) e

  pub trip : RoundTrip k.size k.in_range read (decoded k read refused) (encoded k)
  trip =
      record {
        decodes =
            λ x bytes t l.
            let e = writes x bytes t l in
            (ap (λ (p : Bool × List ℕ). p.0) e, ap (λ (p : Bool × List ℕ). decoded k read refused p.1) e ∙ reads x bytes t l);
        accepts = λ x bytes d. let m = made x bytes d in (m.1.1.0, m.0);
        encodes = again;
      }
