-- What an encoder writes does not depend on the bytes that it writes over, for every kind of record. Assumes nothing.
use Prim.Native.Nat.{ℕ, zero, suc, ◌+◌}
use mathlib.Core.Path.{◌≡◌, refl, ◌∙◌}
use mathlib.Core.Bool.{Bool, true, false, cond, ◌&&◌}
use mathlib.Core.List.{List, [], ◌∷◌}
use native.Mathlib.Omega.{arith}
use lib.Dec.{eqb}
use lib.ListN.{length, replicate, length-replicate}
use Rattle.bits.specs.Fields.{AreBytes, stored, stored_all}
use Rattle.bits.proofs.Laws.{stored_small, length-stored_all}
use Rattle.record_fields.specs.Record.{Kind, decoded, encoded}
use Rattle.record_fields.specs.RoundTrip.{RoundTrip}

-- What is written of a record into zeros, and so into any bytes.
pub record Overwriting {R : Type 0} (size : ℕ) (in_range : R → Bool) (encoded : R → List ℕ → Bool × List ℕ) : Type 0 where
  -- a record in range is written as into zeros, whatever stood where it is written
  pub writes : (x : R) (out : List ℕ) → in_range x ≡ true → length out ≡ size
      → ◌≡◌ {A = Bool × List ℕ} (encoded x out) (true, (encoded x (replicate size 0)).1)
  -- it takes the record's size
  pub sized : (x : R) → length (encoded x (replicate size 0)).1 ≡ size
  -- and it consists of bytes
  pub small : (x : R) → AreBytes (encoded x (replicate size 0)).1

-- zeros are bytes
zeros_small : (n : ℕ) → AreBytes (replicate n 0)
zeros_small zero i = omega arith
zeros_small (suc n) zero = omega arith
zeros_small (suc n) (suc i) = zeros_small n i

-- fields written into bytes leave bytes
stored_all_small : (bs : List ℕ) (at : ℕ) (ws vs : List ℕ) → AreBytes bs → AreBytes (stored_all bs at ws vs)
unfolding stored_all
stored_all_small bs at [] vs small = small
stored_all_small bs at (w ∷ ws) [] small = small
stored_all_small bs at (w ∷ ws) (v ∷ vs) small = stored_all_small (stored bs at w v) (at + w) ws vs (stored_small bs at w v)

-- The fields of a record that are written where a test holds, and not elsewhere.
module _ (bs ws vs : List ℕ) where
  abbrev written : Bool → List ℕ
  written t = (cond {A = Bool × List ℕ} t (true, stored_all bs 0 ws vs) (false, bs)).1

  -- they keep the length
  length-written : (t : Bool) → length (written t) ≡ length bs
  length-written true = length-stored_all bs 0 ws vs
  length-written false = refl

  -- and leave bytes
  written_small : (t : Bool) → AreBytes bs → AreBytes (written t)
  written_small true small = stored_all_small bs 0 ws vs small
  written_small false small = small

-- what is written into zeros decodes to the record, and so encodes to the same bytes over any others
module _ {R A : Type 0} (k : Kind R) (read : R → A) (refused : A)
    (trip : RoundTrip k.size k.in_range read (decoded k read refused) (encoded k)) where
  abbrev zeros : List ℕ
  zeros = replicate k.size 0

  abbrev test : R → Bool
  test x = eqb (length zeros) k.size && k.in_range x

  bytes-written : (x : R) → AreBytes (encoded k x zeros).1
  bytes-written x = written_small zeros k.widths (k.values x) (test x) (zeros_small k.size)

  pub overwriting : Overwriting k.size k.in_range (encoded k)
  overwriting =
      record {
        writes =
            λ x out t l.
            trip.encodes x (encoded k x zeros).1 out (bytes-written x) (trip.decodes x zeros t (length-replicate k.size 0)).1 l;
        sized = λ x. length-written zeros k.widths (k.values x) (test x) ∙ length-replicate k.size 0;
        small = bytes-written;
      }
