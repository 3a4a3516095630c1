-- `call_list::running::make_calls` meets its contract.
use mathlib.Core.Path.{sym, ◌∙◌}
use native.Mathlib.Omega.{arith}
use borrow.Author.Rules.{rules}
use Rattle.book.proofs.Numbers.{guarded}
use Rattle.call_script.proofs.Scripts.{calls-none, calls_end}
use Rattle.call_list.proofs.Turns.{none_made, all_given, inside, has_room, goes_on}
use Rattle.call_list.proofs.running.make_calls.Goals as goal

pub loop-init : goal.loop-init
loop-init c = none_made _ _ _ _ (guarded _ _ c.requires.index_value)

pub returns-then-size-eq0 : goal.returns-then-size-eq0
returns-then-size-eq0 c =
    all_given c.loop.invariant (calls-none _ _ _ (sym c.size_at-size.ensures ∙ c.if-size-eq0.true))

pub answer_call-book-requires : goal.answer_call-book-requires
answer_call-book-requires c =
    let sized = c.size_at-size.ensures in
    let whole = c.if-size-eq0.false in
    record {
      at_nonzero = omega (arith, whole, sized);
      at_in_bounds = has_room c.loop.invariant c.loop-test.true _ sized (omega (arith, whole)) c.requires.script_in_bounds;
    }

pub overflow_add-to : goal.overflow_add-to
overflow_add-to c =
    let sized = c.size_at-size.ensures in
    let room = has_room c.loop.invariant c.loop-test.true _ sized (omega (arith, c.if-size-eq0.false)) c.requires.script_in_bounds in
    omega (arith, room, c.room_at-room.ensures.value, c.loop.invariant.size)

pub overflow_add-at : goal.overflow_add-at
overflow_add-at c =
    let end = inside c.loop.invariant c.loop-test.true _ c.size_at-size.ensures (omega (arith, c.if-size-eq0.false)) in
    omega (arith, end)

pub loop-preserved : goal.loop-preserved
loop-preserved c =
    let e = c.answer_call-book.ensures in
    goes_on c.loop.invariant c.loop-test.true _ c.size_at-size.ensures (omega (arith, c.if-size-eq0.false))
    c.requires.script_in_bounds _ _ _ _ c.room_at-room.ensures.value e.value e.index_after e.output_after
    (search rules) (search rules) (search rules)

pub returns : goal.returns
returns c = all_given c.loop.invariant (calls_end c.args.script.now c.loop.counter c.loop.at c.loop-test.false)
