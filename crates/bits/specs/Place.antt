-- What `span_of` promises of the bytes that a field lies in. Assumes nothing.
use Rattle.std.specs.Prelude.{ℕ, ◌+◌, ◌*◌, ◌<◌, ◌≡◌}
use Rattle.bits.specs.declared.Span.{Span}

-- The field of `width` bits at bit `at` and the bits before and after it make up the span's bytes; fewer than 8 bits stand on each side.
pub record Covers (at width : ℕ) (span : Span) : Type 0 where
  pub start : 8 * span.first + span.before ≡ at
  pub size : span.before + (width + span.after) ≡ 8 * span.count
  pub before_lt : span.before < 8
  pub after_lt : span.after < 8
