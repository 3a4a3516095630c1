-- The book that an accepted open gives: sound over whatever is lent, and the machine's fresh state; and the void book. Assumes nothing.
use Prim.Native.Nat.{ℕ, ◌-◌}
use mathlib.Core.Path.{◌≡◌, refl, sym, ap, subst, ◌∙◌}
use mathlib.Core.Bool.{true, false, not}
use mathlib.Core.List.{List, ◌++◌}
use native.Mathlib.Omega.{arith}
use borrow.Author.Tests.{le-leb}
use lib.ListN.{length, take, replicate}
use lib.Seq.{take_at}
use Rattle.refusals.specs.Refusals.{first}
use Rattle.refusals.proofs.First.{decided, skip, stop}
use Rattle.lists.specs.Lists.{all_of, any_below, places_below}
use Rattle.lists.proofs.Laws.{none-at, all_places}
use Rattle.header_record.specs.declared.Header.{Header}
use Rattle.point_record.specs.declared.Point.{Point}
use Rattle.header_record.specs.Header.{header_in_range}
use Rattle.point_record.specs.Point.{point_in, point_in_range, wrong_point, no_point}
use Rattle.header_record.proofs.Headers.{in_range_lem}
use Rattle.header_record.proofs.Laws.{header_reads}
use Rattle.point_record.proofs.Laws.{point_reads}
use Rattle.machine.specs.Machine.{change, totals, fresh, conditions}
use Rattle.machine.proofs.Totals.{totals-nothing}
use Rattle.calendar.specs.Calendar.{quarters_of}
use Rattle.journal.specs.Journal.{entries}
use Rattle.index.specs.Index.{short_index, cleared}
use Rattle.index.proofs.Comparing.{not_short}
use Rattle.index.proofs.Laws.{indexed-none, cleared_again}
use Rattle.master_data.specs.Master as master
use Rattle.master_data.specs.Master.{frame_of}
use Rattle.audit.specs.Audit.{unlawful}
use Rattle.book.specs.declared.Book.{Book}
use Rattle.book.specs.Library.{Lent, view, unsound, guards, number, totals_given}
use Rattle.book.proofs.Numbers.{called-number}
use Rattle.opening.specs.Opening.{header_bytes, point_bytes, header, points, first_points, any_wrong, opening_number, master_of, padded}
use Rattle.opening.specs.Opening.{void, fresh_of, opened_book, opened_lent}
use Rattle.opening.proofs.Accepted.{openable, opened_fresh, opened_cleared}
use Rattle.opening.proofs.Reading.{length-points}
use Rattle.demand.specs.Demand.{VoidBook}
use Rattle.demand.proofs.OneCall.{Stands}

-- the points of a file are in range, if 4 stops none of them
points_in_range : (n : ℕ) (file : List ℕ) → any_wrong n file ≡ false → all_of point_in_range (first_points n file) ≡ true
points_in_range n file h =
    all_places point_in_range (λ i. point_in (point_bytes i file)) n
    (λ i k. (point_reads.range (point_bytes i file) (none-at (λ x. wrong_point (point_bytes x file)) n i h k)).0)

-- a month in range is so without its entries too
month_in_range : (h : Header) → header_in_range h ≡ true
    → header_in_range (record { year = h.year; month = h.month; points = h.points; entries = 0 }) ≡ true
unfolding header_in_range
month_in_range h t = rw (le-leb h.entries 65535 (in_range_lem h t).entries_most) at t

-- a fresh book of a month and points in range is sound beside a cleared index, and stands for the machine's fresh state
fresh_stands : (h : Header) (ps : List Point) → header_in_range h ≡ true → length ps ≡ h.points → all_of point_in_range ps ≡ true
    → (l : Lent) → l.index ≡ cleared h.points l.index → Stands (fresh_of (master_of h (padded ps))) l (fresh h ps (length l.journal))
unfolding entries places_below any_below master.wrong_month master.wrong_point
fresh_stands h ps t n a l empty =
    let spare = replicate (8 - length ps) no_point in
    let e : take h.points (ps ++ spare) ≡ ps = take_at ps spare h.points n in
    record {
      sound =
          record {
            ranged = record { month = ap not (month_in_range h t); point = ap not (ap (all_of point_in_range) e ∙ a) };
            short = omega arith;
            entries = refl;
            totals = sym (totals-nothing (frame_of (master_of h (padded ps))).points);
            index = empty ∙ sym (indexed-none h.points (quarters_of h.year h.month) l.journal l.index);
          };
      state = λ i. fresh h (e i) (length l.journal);
    }

-- so is the book of an accepted open, over whatever is lent
pub opened : (file : List ℕ) (l : Lent) → opening_number file l.index ≡ 0
    → Stands (opened_book file l.index) (opened_lent file l) (fresh (header file) (points file) (length l.journal))
opened file l h =
    let o = openable file l.index h in
    let n = (header file).points in
    let clear = opened_cleared file l.index h in
    let empty = clear ∙ cleared_again n l.index ∙ ap (cleared n) (sym clear) in
    subst (λ (b : Book). Stands b (opened_lent file l) (fresh (header file) (points file) (length l.journal))) (sym (opened_fresh file l.index h))
    (fresh_stands (header file) (points file) (header_reads.range (header_bytes file) o.header_right).0 (length-points n file)
    (points_in_range n file o.points_right) (opened_lent file l) empty)

-- the void book is "closed, no points, every number 0"
pub void-unsound : (l : Lent) → unsound void l ≡ true
unfolding void unsound unlawful master.wrong_month header_in_range
void-unsound l = refl

-- it needs no place, so an index is long enough
void_long : (l : Lent) → short_index void.master.count l.index ≡ false
unfolding void
void_long l = not_short 0 l.index (omega arith)

-- so 7 comes before each call's own numbers
pub void_guarded : (l : Lent) → first (guards void l) ≡ 7
void_guarded l = skip 17 _ (void_long l) ∙ stop 7 0 (void-unsound l)

-- "so that 7 meets each call on it"
pub void-book : VoidBook
unfolding number totals_given
void-book l (change c) = called-number void l c ∙ decided (guards void l) (conditions (view void l) c) 7 (omega arith) (void_guarded l)
void-book l totals = rw (void_guarded l)
