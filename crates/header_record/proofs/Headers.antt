-- The header: what its range test says of its fields, and that they hold it. Assumes nothing.
use Prim.Native.Nat.{◌≤◌}
use mathlib.Core.Path.{◌≡◌, refl}
use mathlib.Core.Bool.{true}
use mathlib.Core.List.{[], ◌∷◌}
use native.Mathlib.Omega.{arith}
use borrow.Author.Rules.{rules}
use borrow.Author.Tests.{leb-true}
use Rattle.refusals.proofs.Tests.{each}
use Rattle.bits.specs.Fields.{Fit}
use Rattle.header_record.specs.declared.Header.{Header}
use Rattle.header_record.specs.Header.{header_widths, header_values, header_in_range, header_kind}
use Rattle.record_fields.proofs.Answers.{Lawful}

-- 01's ranges of a header's fields
pub record InRange (h : Header) : Type 0 where
  pub year_least : 2020 ≤ h.year
  pub year_most : h.year ≤ 2099
  pub month_least : 1 ≤ h.month
  pub month_most : h.month ≤ 12
  pub points_least : 1 ≤ h.points
  pub points_most : h.points ≤ 8
  pub entries_most : h.entries ≤ 65535

pub in_range_lem : (h : Header) → header_in_range h ≡ true → InRange h
unfolding header_in_range
in_range_lem h t =
    let s = each _ (_ ∷ _ ∷ _ ∷ _ ∷ _ ∷ _ ∷ []) t in
    record {
      year_least = leb-true _ _ s.0;
      year_most = leb-true _ _ s.1.0;
      month_least = leb-true _ _ s.1.1.0;
      month_most = leb-true _ _ s.1.1.1.0;
      points_least = leb-true _ _ s.1.1.1.1.0;
      points_most = leb-true _ _ s.1.1.1.1.1.0;
      entries_most = leb-true _ _ s.1.1.1.1.1.1;
    }

values_fit : (h : Header) → header_in_range h ≡ true → Fit header_widths (header_values h)
values_fit h t = let r = in_range_lem h t in (omega arith, (omega arith, (omega arith, (omega arith, (omega arith, (omega arith, tt))))))

pub header_lawful : Lawful header_kind
header_lawful = record { filled = refl; short = omega arith; narrow = search rules; fit = values_fit }
