-- `index::agree` meets its contract: the parts in front are compared, a place of each at a time.
use Prim.Native.Nat.{ℕ}
use mathlib.Core.Path.{◌≡◌, sym, ap, ◌∙◌}
use mathlib.Core.Bool.{not}
use native.Mathlib.Omega.{arith}
use lib.ListN.{length, take, length-append}
use Rattle.std.proofs.lemmas.Slice.Zip.{zip_turn, zip_end}
use Rattle.index.specs.Index.{differ, places_of}
use Rattle.index.proofs.Comparing.{front_long, none_differ, place_compared}
use Rattle.index.proofs.agree.Goals as goal

pub slice_bounds-iter-end : goal.slice_bounds-iter-end
slice_bounds-iter-end c = sym (front_long _ _ _ c.places_of-compared.ensures c.requires.one_value)

pub slice_bounds-zip-end : goal.slice_bounds-zip-end
slice_bounds-zip-end c = sym (front_long _ _ _ c.places_of-compared.ensures c.requires.other_value)

pub loop-said-init : goal.loop-said-init
loop-said-init c = none_differ _ _

pub loop-said-preserved : goal.loop-said-preserved
loop-said-preserved c =
    let n = c.places_of-compared.result in
    let l = c.loop-said in
    let turn =
    zip_turn (take n c.args.one.now) (take n c.args.other.now) l.yielded c.into_iter-said-iterator.result l.said-iterator c.next.new.self c.next.result
    (cc) (cc) l.yielded_by (c.in-Some.said, c.in-Some.due) c.in-Some.is c.next.ensures.steps in
    place_compared n (length l.yielded) _ c.args.one.now c.args.other.now l.same _ _ l.invariant
    (omega (arith, turn.0, front_long _ _ _ c.places_of-compared.ensures c.requires.one_value)) (length-append l.yielded _) (turn.2 0) (turn.3 0)

pub returns : goal.returns
returns c =
    let n = c.places_of-compared.result in
    let l = c.loop-said in
    let end =
    zip_end (take n c.args.one.now) (take n c.args.other.now) l.yielded c.into_iter-said-iterator.result l.said-iterator c.next.new.self c.next.result
    (cc) (cc) l.yielded_by c.in-None.is c.next.ensures.steps in
    let long = c.places_of-compared.ensures in
    let all : length l.yielded ≡ places_of c.args.count =
    omega (arith, end, long, front_long _ _ _ long c.requires.one_value, front_long _ _ _ long c.requires.other_value) in
    l.invariant ∙ ap (λ (m : ℕ). not (differ m c.args.one.now c.args.other.now)) all
