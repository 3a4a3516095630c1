-- The point as a kind of record: what an answer gives, what is read, and that the decoder and the encoder undo each other. Assumes nothing.
use Prim.Native.Nat.{ℕ, ◌<◌}
use mathlib.Core.Path.{◌≡◌, refl, sym, ap}
use mathlib.Core.Bool.{Bool, true, false, cond}
use mathlib.Core.List.{List}
use Rattle.std.specs.Prelude.{Option, Some, None, is_none}
use native.Mathlib.Omega.{arith}
use borrow.Author.Tests.{eqb-true, eqb-false}
use lib.Dec.{eqb}
use Rattle.bits.specs.Fields.{field, fields_at}
use Rattle.bits.proofs.Laws.{field_lt}
use Rattle.quarter.specs.declared.Level.{Level}
use Rattle.quarter.specs.declared.Level.TheVariants.{Kv220, Kv380}
use Rattle.quarter.specs.Reading.{level_of, level_bit}
use Rattle.record_fields.specs.RoundTrip.{RoundTrip}
use Rattle.record_fields.proofs.Answers.{answered}
use Rattle.record_fields.proofs.OneBit.{bit_back, bit_forth}
use Rattle.record_fields.proofs.Overwriting.{Overwriting, overwriting}
use Rattle.record_fields.proofs.Readable.{Reads, all_read}
use Rattle.record_fields.proofs.RoundTrips.{trip}
use Rattle.point_record.specs.declared.Point.{Point}
use Rattle.point_record.specs.Point.{point_values, point_of, point_in_range, point_kind, point_given, read_point}
use Rattle.point_record.specs.Point.{decoded_point, encoded_point, point_in, wrong_point}
use Rattle.point_record.proofs.Points.{point_lawful}

-- no two answers give the same
given-same : (a b : Option Point) → point_given a ≡ point_given b → a ≡ b
unfolding point_given
given-same (Some x) (Some y) e = ap (λ (g : ℕ × Point). Some g.1) e
given-same (Some x) None e = let z : ◌≡◌ {A = ℕ} 0 4 = ap (λ (g : ℕ × Point). g.0) e in absurd (omega arith)
given-same None (Some y) e = let z : ◌≡◌ {A = ℕ} 4 0 = ap (λ (g : ℕ × Point). g.0) e in absurd (omega arith)
given-same None None e = refl

-- so the answer that gives what the bytes do is that of the definitions
pub point-decoded : (r : Option Point) (bytes : List ℕ) → point_given r ≡ read_point bytes → r ≡ decoded_point bytes
unfolding point_given read_point decoded_point
point-decoded r bytes e = answered point_kind Some None point_given given-same r bytes e

pub point_reads : Reads 21 point_in_range Some None decoded_point point_in wrong_point
unfolding decoded_point point_in wrong_point
point_reads = all_read point_kind Some None is_none (λ x. refl) refl (λ x y e. cc)

-- level and bit give each other back
level-back : (l : Level) → level_of (level_bit l) ≡ l
unfolding level_of
level-back Kv220 = refl
level-back Kv380 = refl

level_forth : (v : ℕ) → v < 2 → level_bit (level_of v) ≡ v
unfolding level_of
level_forth v h = go (eqb v 0) refl
  where
    go : (b : Bool) → eqb v 0 ≡ b → level_bit (cond b Kv220 Kv380) ≡ v
    go true e = sym (eqb-true v 0 e)
    go false e = let n = eqb-false v 0 e in omega arith

-- the values of a point make it again
point-back : (p : Point) → point_of (point_values p) ≡ p
point-back p =
    λ i.
    record {
      semi_active = bit_back p.semi_active i;
      level = level-back p.level i;
      transformers = p.transformers;
      tariffs = p.tariffs;
      first = p.first;
      second = p.second;
      third = p.third;
      fourth = p.fourth;
    }

pub point_round_trip : RoundTrip 21 point_in_range Some decoded_point encoded_point
unfolding decoded_point encoded_point fields_at
point_round_trip =
    trip point_kind point_lawful Some None
    (λ x e. let z : ◌≡◌ {A = ℕ} 0 1 = cc in omega arith)
    (λ x y e. cc)
    (λ x. refl)
    point-back
    (λ bytes c. rw (bit_forth (field bytes 0 1) (field_lt bytes 0 1), level_forth (field bytes 1 1) (field_lt bytes 1 1)))

pub point_overwriting : Overwriting 21 point_in_range encoded_point
unfolding decoded_point encoded_point
point_overwriting = overwriting point_kind Some None point_round_trip
