-- What a decoder and an encoder answer, from the tests that lead to the answer: one argument for the three kinds of record.
-- Assumes nothing.
use Prim.Native.Nat.{ℕ, ◌*◌, ◌≤◌}
use mathlib.Core.Path.{◌≡◌, refl, sym, ap, ◌∙◌}
use mathlib.Core.Bool.{Bool, true, false, cond, not, ◌&&◌}
use mathlib.Core.List.{List}
use native.Mathlib.Omega.{arith}
use borrow.Author.Tests.{eq-eqb, ne_eqb, eqb-true, not-true, not-false}
use lib.Dec.{eqb}
use lib.ListN.{length}
use Rattle.refusals.proofs.Tests.{both}
use Rattle.bits.specs.Fields.{total, fields_at, stored_all, Fit}
use Rattle.record_fields.specs.Layout.{Narrow, Layout}
use Rattle.record_fields.specs.Record.{Kind, judged, decoded, encoded}

-- What holds of each kind: its fields fill its bytes, are of a size that `bits` takes, and hold a record that is in range.
pub record Lawful {R : Type 0} (k : Kind R) : Type 0 where
  pub filled : total k.widths ≡ 8 * k.size
  pub short : k.size ≤ 21
  pub narrow : Narrow k.widths
  pub fit : (x : R) → k.in_range x ≡ true → Fit k.widths (k.values x)

pub layout : {R : Type 0} {k : Kind R} → Lawful k → (bytes : List ℕ) → length bytes ≡ k.size → Layout bytes k.widths
layout {k = k} l bytes h = record { inside = omega (arith, l.filled); short = omega (arith, l.short); narrow = l.narrow }

-- A decoder's answer to a slice of another length than the record's, and to one of its length, where `x` is the record that the
-- fields make.
module _ {R A : Type 0} (k : Kind R) (read : R → A) (refused : A) (bytes : List ℕ) where
  pub other : (length bytes ≡ k.size → ⊥) → refused ≡ decoded k read refused bytes
  other h = rw (ne_eqb (length bytes) k.size h)

  module _ (h : length bytes ≡ k.size) (vs : List ℕ) (e : vs ≡ fields_at bytes 0 k.widths)
      {x : R} (ex : x ≡ k.of vs) {good : Bool} (eg : good ≡ k.in_range x) where
    reached : judged k read refused vs ≡ decoded k read refused bytes
    reached = rw (eq-eqb (length bytes) k.size h) (ap (judged k read refused) e)

    pub accepted : (k.fixed vs && good) ≡ true → read x ≡ decoded k read refused bytes
    accepted t = let j : read x ≡ judged k read refused vs = rw (← ex, ← eg, t) in j ∙ reached

    pub turned_down : (k.fixed vs && good) ≡ false → refused ≡ decoded k read refused bytes
    turned_down t = let j : refused ≡ judged k read refused vs = rw (← ex, ← eg, t) in j ∙ reached

-- What a decoder's answer gives (a number and a record) is what the bytes give; and where no two answers give the same, the answer
-- is known from what it gives.
module _ {R A G : Type 0} (k : Kind R) (read : R → A) (refused : A) (given : A → G) where
  inside : (a b : Bool) (x : R) → given (cond a (cond b (read x) refused) refused) ≡ cond a (cond b (given (read x)) (given refused)) (given refused)
  inside true true x = refl
  inside true false x = refl
  inside false b x = refl

  -- what is given of an answer is what the definitions give of the bytes
  pub given-decoded : (bytes : List ℕ) → given (decoded k read refused bytes) ≡ decoded k (λ x. given (read x)) (given refused) bytes
  given-decoded bytes =
      let vs = fields_at bytes 0 k.widths in
      inside (eqb (length bytes) k.size) (k.fixed vs && k.in_range (k.of vs)) (k.of vs)

  pub answered : ((a b : A) → given a ≡ given b → a ≡ b)
      → (r : A) (bytes : List ℕ) → given r ≡ decoded k (λ x. given (read x)) (given refused) bytes → r ≡ decoded k read refused bytes
  answered same r bytes e = same r (decoded k read refused bytes) (e ∙ sym (given-decoded bytes))

-- An encoder's answer; where it writes, what the test says gives what writing asks.
module _ {R : Type 0} (k : Kind R) (x : R) (bytes : List ℕ) {good : Bool} (eg : good ≡ k.in_range x) where
  pub kept : not (eqb (length bytes) k.size && good) ≡ true → ◌≡◌ {A = Bool × List ℕ} (false, bytes) (encoded k x bytes)
  kept t = rw (← eg, not-true (eqb (length bytes) k.size && good) t)

  module _ (t : not (eqb (length bytes) k.size && good) ≡ false) (vs : List ℕ) (e : vs ≡ k.values x) where
    pub fits : Lawful k → Layout bytes k.widths × Fit k.widths vs
    fits l =
        let b = both (eqb (length bytes) k.size) good (not-false (eqb (length bytes) k.size && good) t) in
        (layout l bytes (eqb-true (length bytes) k.size b.0), rw e (l.fit x (sym eg ∙ b.1)))

    pub written : (after : List ℕ) → after ≡ stored_all bytes 0 k.widths vs → ◌≡◌ {A = Bool × List ℕ} (true, after) (encoded k x bytes)
    written after w = rw (← eg, not-false (eqb (length bytes) k.size && good) t, w, e)
