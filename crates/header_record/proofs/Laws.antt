-- The header as a kind of record: what an answer gives, what is read, and that the decoder and the encoder undo each other. Assumes nothing.
use Prim.Native.Nat.{ℕ}
use mathlib.Core.Path.{◌≡◌, refl, ap}
use mathlib.Core.List.{List}
use Rattle.std.specs.Prelude.{Option, Some, None, is_none}
use native.Mathlib.Omega.{arith}
use borrow.Author.Tests.{eqb-true}
use lib.Dec.{eqb}
use Rattle.refusals.proofs.Tests.{both}
use Rattle.bits.specs.Fields.{field, fields_at}
use Rattle.record_fields.specs.RoundTrip.{RoundTrip}
use Rattle.record_fields.proofs.Answers.{answered}
use Rattle.record_fields.proofs.Overwriting.{Overwriting, overwriting}
use Rattle.record_fields.proofs.Readable.{Reads, all_read}
use Rattle.record_fields.proofs.RoundTrips.{trip}
use Rattle.header_record.specs.declared.Header.{Header}
use Rattle.header_record.specs.Header.{header_in_range, header_kind, header_given, read_header}
use Rattle.header_record.specs.Header.{decoded_header, encoded_header, header_in, wrong_header}
use Rattle.header_record.proofs.Headers.{header_lawful}

-- no two answers give the same
given-same : (a b : Option Header) → header_given a ≡ header_given b → a ≡ b
unfolding header_given
given-same (Some x) (Some y) e = ap (λ (g : ℕ × Header). Some g.1) e
given-same (Some x) None e = let z : ◌≡◌ {A = ℕ} 0 2 = ap (λ (g : ℕ × Header). g.0) e in absurd (omega arith)
given-same None (Some y) e = let z : ◌≡◌ {A = ℕ} 2 0 = ap (λ (g : ℕ × Header). g.0) e in absurd (omega arith)
given-same None None e = refl

-- so the answer that gives what the bytes do is that of the definitions
pub header-decoded : (r : Option Header) (bytes : List ℕ) → header_given r ≡ read_header bytes → r ≡ decoded_header bytes
unfolding header_given read_header decoded_header
header-decoded r bytes e = answered header_kind Some None header_given given-same r bytes e

pub header_reads : Reads 7 header_in_range Some None decoded_header header_in wrong_header
unfolding decoded_header header_in wrong_header
header_reads = all_read header_kind Some None is_none (λ x. refl) refl (λ x y e. cc)

pub header_round_trip : RoundTrip 7 header_in_range Some decoded_header encoded_header
unfolding decoded_header encoded_header fields_at
header_round_trip =
    trip header_kind header_lawful Some None
    (λ x e. let z : ◌≡◌ {A = ℕ} 0 1 = cc in omega arith)
    (λ x y e. cc)
    (λ x. refl)
    (λ x. refl)
    (λ bytes c.
    let b = both (eqb (field bytes 0 8) 0x42) (eqb (field bytes 8 8) 0x45) c in
    rw (eqb-true (field bytes 0 8) 0x42 b.0, eqb-true (field bytes 8 8) 0x45 b.1))

pub header_overwriting : Overwriting 7 header_in_range encoded_header
unfolding decoded_header encoded_header
header_overwriting = overwriting header_kind Some None header_round_trip
