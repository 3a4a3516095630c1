-- `opening::try_open` meets its contract.
use mathlib.Core.Path.{◌≡◌, sym, ap, ◌∙◌, subst}
use native.Mathlib.Omega.{arith}
use borrow.Author.Rules.{rules}
use Rattle.std.specs.Prelude.{Result, Err, None}
use Rattle.answers.specs.declared.Refusal.{Refusal}
use Rattle.answers.specs.declared.Refusal.TheVariants.{WrongHeader, WrongPoint}
use Rattle.header_record.proofs.Laws.{header-decoded}
use Rattle.index.proofs.Comparing.{is_short, not_short}
use Rattle.book.specs.declared.Book.{Book}
use Rattle.opening.proofs.InOrder.{Opens, too_short, header-bytes, wrong_header_lem, few_points, wrong_length_lem, wrong_point_lem, short-index, accepts}
use Rattle.opening.proofs.try_open.Goals as goal

pub returns-then-file-lt7 : goal.returns-then-file-lt7
returns-then-file-lt7 c = too_short _ _ c.if-file-lt7.true

pub slice_bounds-decode_header-end : goal.slice_bounds-decode_header-end
slice_bounds-decode_header-end c = header-bytes c.args.file.now c.args.index.now (omega arith)

pub returns-in_err-header : goal.returns-in_err-header
returns-in_err-header c =
    let same : Err WrongHeader ≡ c.from_residual.result = search rules in
    let none : c.decode_header.result ≡ None = search rules in
    let a = c.args in
    subst (λ (r : Result Book Refusal). Opens a.file.now a.index.now r a.index.now) same
    (wrong_header_lem _ _ (omega arith) _ (header-decoded _ _ c.decode_header.ensures) none)

pub returns-then-file-count : goal.returns-then-file-count
returns-then-file-count c =
    wrong_length_lem _ _ (omega arith) _ (header-decoded _ _ c.decode_header.ensures) c.in_ok-header.header (search rules) c.if-file-count.true

pub read_points-requires : goal.read_points-requires
read_points-requires c =
    let a = c.args in
    record {
      count_in_bounds = omega (arith, c.if-file-count.false);
      count_bound = few_points a.file.now a.index.now (omega arith) _ (header-decoded _ _ c.decode_header.ensures) c.in_ok-header.header (search rules);
    }

pub returns-in_err-points : goal.returns-in_err-points
returns-in_err-points c =
    let same : Err WrongPoint ≡ c.from_residual-in_err-points.result = search rules in
    let none : c.read_points.result ≡ None = search rules in
    let a = c.args in
    subst (λ (r : Result Book Refusal). Opens a.file.now a.index.now r a.index.now) same
    (wrong_point_lem _ _ (omega arith) _ (header-decoded _ _ c.decode_header.ensures) c.in_ok-header.header (search rules)
    c.if-file-count.false _ c.read_points.ensures none)

pub returns-then-index-places_of : goal.returns-then-index-places_of
returns-then-index-places_of c =
    short-index _ _ (omega arith) _ (header-decoded _ _ c.decode_header.ensures) c.in_ok-header.header (search rules)
    c.if-file-count.false _ c.read_points.ensures c.in_ok-points.points (search rules)
    (is_short _ _ (omega (arith, c.places_of.ensures, c.if-index-places_of.true)))

pub clear-requires : goal.clear-requires
clear-requires c = not_short _ _ (omega (arith, c.places_of.ensures, c.if-index-places_of.false))

pub returns : goal.returns
returns c =
    let enough = not_short c.in_ok-header.header.points c.args.index.now (omega (arith, c.places_of.ensures, c.if-index-places_of.false)) in
    accepts _ _ (omega arith) _ (header-decoded _ _ c.decode_header.ensures) c.in_ok-header.header (search rules)
    c.if-file-count.false _ c.read_points.ensures c.in_ok-points.points (search rules) enough
    c.fresh.result c.fresh.ensures _ c.clear.ensures
