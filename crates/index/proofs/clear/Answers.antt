-- `index::clear` meets its contract: what is filled is the part in front.
use mathlib.Core.Path.{sym, ap, ap₂, ◌∙◌}
use mathlib.Core.List.{List, ◌++◌}
use Prim.Native.Nat.{ℕ}
use native.Mathlib.Omega.{arith}
use lib.ListN.{drop, replicate}
use Rattle.index.proofs.Comparing.{long_enough, front_long}
use Rattle.index.proofs.clear.Goals as goal

pub slice_bounds-fill-end : goal.slice_bounds-fill-end
slice_bounds-fill-end c = omega (arith, c.places_of-places.ensures, long_enough _ _ c.requires)

pub slice_bounds-fill-end-2 : goal.slice_bounds-fill-end-2
slice_bounds-fill-end-2 c = sym (front_long _ _ _ c.places_of-places.ensures c.requires)

pub returns : goal.returns
returns c =
    let filled = c.fill.ensures.after (λ y e. e) ∙ ap (λ (n : ℕ). replicate n 0) (front_long _ _ _ c.places_of-places.ensures c.requires ∙ c.places_of-places.ensures) in
    ap₂ (λ (l : List ℕ) (n : ℕ). l ++ drop n c.args.index.now) filled c.places_of-places.ensures
