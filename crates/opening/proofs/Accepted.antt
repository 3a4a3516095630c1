-- A file that open accepts, the book that it gives, and the index that it leaves. Assumes nothing.
use Prim.Native.Nat.{ℕ, ◌+◌, ◌*◌, ◌<◌}
use mathlib.Core.Path.{◌≡◌, refl, sym, ap, ◌∙◌}
use mathlib.Core.Bool.{false, not}
use mathlib.Core.List.{List}
use native.Mathlib.Omega.{arith}
use borrow.Author.Tests.{le-ltb, eq-eqb, eqb-true, not-false}
use lib.ListN.{length}
use Rattle.refusals.proofs.First.{refuse, none_holds, all_passed}
use Rattle.header_record.specs.Header.{wrong_header}
use Rattle.index.specs.Index.{short_index, cleared}
use Rattle.index.proofs.Comparing.{not_short}
use Rattle.index.proofs.Laws.{cleared-length, cleared_again}
use Rattle.opening.specs.Opening.{header_bytes, header, points, any_wrong, wrong_length, opening_conditions, opening_number, master_of, padded, fresh_of, opened_book, opened_index}

-- the length that the header of a file asks for
abbrev pub size : List ℕ → ℕ
size file = 7 + 21 * (header file).points + 12 * (header file).entries

-- A file that 1 to 4 do not stop.
pub record Openable (file : List ℕ) : Type 0 where
  pub header_right : wrong_header (header_bytes file) ≡ false
  pub long : length file ≡ size file
  pub points_right : any_wrong (header file).points file ≡ false

-- With an index.
module _ (file x : List ℕ) where
  -- one that is accepted is such a file
  pub openable : opening_number file x ≡ 0 → Openable file
  unfolding opening_number wrong_length
  openable h =
      let n = none_holds (opening_conditions file x) refl h in
      record { header_right = n.1.0; long = eqb-true (length file) (size file) (not-false _ n.1.1.0); points_right = n.1.1.1.0 }

  -- its index is long enough
  pub opened_long : opening_number file x ≡ 0 → short_index (header file).points x ≡ false
  unfolding opening_number
  opened_long h = (none_holds (opening_conditions file x) refl h).1.1.1.1.0

  -- and such a file is accepted with such an index
  pub accepted : Openable file → short_index (header file).points x ≡ false → opening_number file x ≡ 0
  unfolding opening_number wrong_length
  accepted o enough =
      all_passed (opening_conditions file x) (
        le-ltb (length file) 7 (omega (arith, o.long)),
        (o.header_right, (ap not (eq-eqb (length file) (size file) o.long), (o.points_right, (enough, tt)))),
      )

  -- the book that it gives has its header and its points, and no entry
  pub opened_fresh : opening_number file x ≡ 0 → opened_book file x ≡ fresh_of (master_of (header file) (padded (points file)))
  unfolding opened_book
  opened_fresh h = rw (eq-eqb (opening_number file x) 0 h)

  -- the index is cleared for its points
  pub opened_cleared : opening_number file x ≡ 0 → opened_index file x ≡ cleared (header file).points x
  unfolding opened_index
  opened_cleared h = rw (eq-eqb (opening_number file x) 0 h)

  -- beside a refusal it is as it was
  pub refused_kept : 0 < opening_number file x → opened_index file x ≡ x
  unfolding opened_index
  refused_kept h = rw (refuse h)

-- opened once more with the index that it left, an accepted file gives the same book, and the index stays
pub opened_again : (file x : List ℕ) → opening_number file x ≡ 0
    → let y = opened_index file x in
    (opening_number file y ≡ 0) × ((opened_book file x ≡ opened_book file y) × (y ≡ opened_index file y))
opened_again file x h =
    let n = (header file).points in
    let y = opened_index file x in
    let clear = opened_cleared file x h in
    let enough : short_index n y ≡ false = not_short n y (cleared-length n y (clear ∙ cleared_again n x ∙ ap (cleared n) (sym clear))) in
    let again : opening_number file y ≡ 0 = accepted file y (openable file x h) enough in (
      again,
      (opened_fresh file x h ∙ sym (opened_fresh file y again), clear ∙ cleared_again n x ∙ ap (cleared n) (sym clear) ∙ sym (opened_cleared file y again)),
    )
