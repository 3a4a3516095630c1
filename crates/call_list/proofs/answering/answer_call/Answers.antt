-- `call_list::answering::answer_call` meets its contract.
use Prim.Native.Nat.{ℕ}
use mathlib.Core.Path.{◌≡◌, sym, ap, subst, ◌∙◌}
use mathlib.Core.List.{List, [], ◌∷◌}
use native.Mathlib.Omega.{arith}
use Rattle.std.specs.Result.{result_unwrap_or}
use Rattle.bits.specs.Fields.{with_words}
use Rattle.answers.specs.Numbers.{answered}
use Rattle.machine.specs.Machine.{Call}
use Rattle.book.specs.declared.Book.{Book}
use Rattle.book.specs.declared.Reply.{Reply}
use Rattle.book.specs.Library.{Lent, no_totals, outcome, after}
use Rattle.book.proofs.Numbers.{taken_apart}
use Rattle.call_script.specs.Kinds.{byte_of}
use Rattle.call_script.specs.Room.{room}
use Rattle.call_script.proofs.Scripts.{whole-inside, whole_kind, whole_delivery, call_delivery, call_take_back, call_close, call_totals}
use Rattle.call_script.proofs.Fitting.{room-totals, room_other}
use Rattle.call_list.proofs.Answered.{Left, totals_left, change_left}
use Rattle.call_list.proofs.answering.answer_call.Goals as goal

-- the call whose number was put, and the book handed back
put : (b : Book) (l : Lent) (call : Call) (out : List ℕ) (to : ℕ) → 8 ≡ room call
    → (r : Reply) (k : Lent) (after-book : Book) (xs : List ℕ) → outcome (answered r.answer) r.book k ≡ after b l call
    → after-book ≡ r.book → xs ≡ with_words out to (answered r.answer ∷ []) → Left b l call out to after-book k xs
put b l call out to h r k after-book xs e back written =
    subst (λ (d : Book). Left b l call out to d k xs) (sym back) (change_left b l call out to h _ xs e written)

pub bounds-script-at : goal.bounds-script-at
bounds-script-at c = whole-inside _ _ c.requires.at_nonzero

pub returns-in-Err : goal.returns-in-Err
returns-in-Err c = absurd (omega (arith, whole_kind _ _ c.requires.at_nonzero, c.in-Err.ensures.0))

pub overflow_add-start : goal.overflow_add-start
overflow_add-start c =
    let byte = c.in-Ok-Deliver.ensures ∙ ap byte_of c.in-Ok-Deliver.field-0-is in
    omega (arith, whole_delivery _ _ c.requires.at_nonzero byte)

pub overflow_add-end : goal.overflow_add-end
overflow_add-end c =
    let byte = c.in-Ok-Deliver.ensures ∙ ap byte_of c.in-Ok-Deliver.field-0-is in
    omega (arith, whole_delivery _ _ c.requires.at_nonzero byte)

pub bounds-script-at-in-Ok-Deliver : goal.bounds-script-at-in-Ok-Deliver
bounds-script-at-in-Ok-Deliver c =
    let byte = c.in-Ok-Deliver.ensures ∙ ap byte_of c.in-Ok-Deliver.field-0-is in
    omega (arith, whole_delivery _ _ c.requires.at_nonzero byte)

pub overflow_add-end-in-Ok-Deliver : goal.overflow_add-end-in-Ok-Deliver
overflow_add-end-in-Ok-Deliver c =
    let byte = c.in-Ok-Deliver.ensures ∙ ap byte_of c.in-Ok-Deliver.field-0-is in
    omega (arith, whole_delivery _ _ c.requires.at_nonzero byte)

pub slice_bounds-deliver-end : goal.slice_bounds-deliver-end
slice_bounds-deliver-end c =
    let byte = c.in-Ok-Deliver.ensures ∙ ap byte_of c.in-Ok-Deliver.field-0-is in
    omega (arith, whole_delivery _ _ c.requires.at_nonzero byte)

pub put_totals-requires : goal.put_totals-requires
put_totals-requires c =
    let byte = c.in-Ok-Totals.ensures ∙ ap byte_of c.in-Ok-Totals.field-0-is in
    omega (arith, c.requires.at_in_bounds, room-totals c.args.script.now c.args.at byte)

pub returns-in-Ok-Deliver : goal.returns-in-Ok-Deliver
returns-in-Ok-Deliver c =
    let byte = c.in-Ok-Deliver.ensures ∙ ap byte_of c.in-Ok-Deliver.field-0-is in
    put _ _ _ _ _ (room_other c.args.script.now c.args.at (omega (arith, byte))) c.deliver.result _ _ _
    (c.deliver.ensures ∙ ap (after _ _) (call_delivery c.args.script.now c.args.at byte)) c.put_reply.ensures.value c.put_reply.ensures.output_after

pub returns-in-Ok-TakeBack : goal.returns-in-Ok-TakeBack
returns-in-Ok-TakeBack c =
    let byte = c.in-Ok-TakeBack.ensures ∙ ap byte_of c.in-Ok-TakeBack.field-0-is in
    let p = c.put_reply-in-Ok-TakeBack.ensures in
    put _ _ _ _ _ (room_other c.args.script.now c.args.at (omega (arith, byte))) c.take_back.result _ _ _
    (c.take_back.ensures ∙ ap (after _ _) (call_take_back _ _ byte)) p.value p.output_after

pub returns-in-Ok-Close : goal.returns-in-Ok-Close
returns-in-Ok-Close c =
    let byte = c.in-Ok-Close.ensures ∙ ap byte_of c.in-Ok-Close.field-0-is in
    let p = c.put_reply-in-Ok-Close.ensures in
    put _ _ _ _ _ (room_other c.args.script.now c.args.at (omega (arith, byte))) c.close.result _ _ _
    (c.close.ensures ∙ ap (after _ _) (call_close _ _ byte)) p.value p.output_after

pub returns-in-Ok-Totals : goal.returns-in-Ok-Totals
returns-in-Ok-Totals c =
    let byte = c.in-Ok-Totals.ensures ∙ ap byte_of c.in-Ok-Totals.field-0-is in
    let totals : c.unwrap_or-totals.result ≡ result_unwrap_or c.totals-given.result no_totals = c.unwrap_or-totals.ensures ∙ ap (result_unwrap_or c.totals-given.result) c.none.ensures in
    totals_left _ _ _ _ _ (call_totals c.args.script.now c.args.at byte) _ _ (taken_apart c.totals-given.result ∙ c.totals-given.ensures)
    (rw (c.answered.ensures, totals) at c.put_totals.ensures)
