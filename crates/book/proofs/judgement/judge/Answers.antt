-- `book::judgement::judge` meets its contract.
use mathlib.Core.Path.{◌≡◌, sym, ap, ◌∙◌}
use native.Mathlib.Omega.{arith}
use borrow.Author.Rules.{rules}
use Rattle.std.specs.Prelude.{Err}
use Rattle.answers.specs.declared.Refusal.TheVariants.{Unsound}
use Rattle.answers.specs.Numbers.{answered}
use Rattle.index.proofs.Comparing.{is_short, not_short}
use Rattle.book.proofs.Numbers.{judged-short, judged-unlawful, judged-sound, judged-unsound}
use Rattle.book.proofs.judgement.judge.Goals as goal

pub returns-then-index-places_of : goal.returns-then-index-places_of
returns-then-index-places_of c =
    judged-short c.args.book _ (is_short _ _ (omega (arith, c.places_of.ensures, c.if-index-places_of.true)))

pub summed_afresh-requires : goal.summed_afresh-requires
summed_afresh-requires c = not_short _ _ (omega (arith, c.places_of.ensures, c.if-index-places_of.false))

pub returns-in_err-sums : goal.returns-in_err-sums
returns-in_err-sums c =
    let long = not_short _ _ (omega (arith, c.places_of.ensures, c.if-index-places_of.false)) in
    let same : c.from_residual.result ≡ Err Unsound = search rules in
    ap answered same ∙ judged-unlawful c.args.book _ long (sym c.summed_afresh.ensures ∙ search rules)

pub returns-then-not-are_equal : goal.returns-then-not-are_equal
returns-then-not-are_equal c =
    let long = not_short _ _ (omega (arith, c.places_of.ensures, c.if-index-places_of.false)) in
    judged-unsound c.args.book _ long c.in_ok-sums.sums (sym c.summed_afresh.ensures ∙ search rules)
    (sym c.are_equal.ensures ∙ c.if-not-are_equal.true)

pub returns : goal.returns
returns c =
    let long = not_short _ _ (omega (arith, c.places_of.ensures, c.if-index-places_of.false)) in
    judged-sound c.args.book _ long c.in_ok-sums.sums (sym c.summed_afresh.ensures ∙ search rules)
    (sym c.are_equal.ensures ∙ c.if-not-are_equal.false)
