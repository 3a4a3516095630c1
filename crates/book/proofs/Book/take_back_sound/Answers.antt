-- `book::Book::take_back_sound` meets its contract.
use Prim.Native.Nat.{◌-◌}
use mathlib.Core.Path.{◌≡◌, refl, sym, ap, ◌∙◌}
use native.Mathlib.Omega.{arith}
use borrow.Author.Rules.{rules}
use Rattle.std.specs.Prelude.{Result, Err, Some, ⊤}
use Rattle.answers.specs.declared.Refusal.{Refusal}
use Rattle.answers.specs.Numbers.{answered}
use Rattle.audit.proofs.Placed.{read_range, placed, placed_read, place-room}
use Rattle.entry_record.specs.Entry.{decoded_entry}
use Rattle.entry_record.proofs.Laws.{entry_decoded}
use Rattle.journal.specs.Journal.{bytes_at}
use Rattle.book.specs.Library.{lent, outcome}
use Rattle.book.proofs.Numbers.{guarded}
use Rattle.book.proofs.TakingBack.{Tested, is_refused, is_some, lies, is_read, is_place, position_small, is_unposted}
use Rattle.book.proofs.Book.take_back_sound.Goals.{After-may_take_back, In_ok-entry}
use Rattle.book.proofs.Book.take_back_sound.Goals as goal

-- both conditions were tested
tested : (c : After-may_take_back)
    → Tested c.args.self.now (lent c.args.journal.now c.args.index.now) c.may_take_back.result
tested c = record { sound = guarded _ _ c.requires; number = c.may_take_back.ensures }

-- the last entry was read
read : (c : In_ok-entry) → decoded_entry (bytes_at (c.args.self.now.length - 1) c.args.journal.now) ≡ Some c.in_ok-entry.entry
read c = sym (entry_decoded _ _ c.entry_at.ensures) ∙ search rules

pub returns-in_err-may_take_back : goal.returns-in_err-may_take_back
returns-in_err-may_take_back c =
    let same : c.from_residual.result ≡ Err c.in_err-may_take_back.field-0.0 = search rules in
    let a = c.args in
    ap (λ (r : Result ⊤ Refusal). outcome (answered r) a.self.now (lent a.journal.now a.index.now)) same
    ∙ is_refused (tested (goal.at.returns-in_err-may_take_back c).After-may_take_back) _ c.in_err-may_take_back.was

pub overflow_sub-last : goal.overflow_sub-last
overflow_sub-last c = is_some (tested (goal.at.overflow_sub-last c).After-may_take_back) _ c.in_ok-may_take_back.was

pub entry_at-requires : goal.entry_at-requires
entry_at-requires c = lies (tested (goal.at.entry_at-requires c).After-may_take_back) _ c.in_ok-may_take_back.was

pub returns-in_err-entry : goal.returns-in_err-entry
returns-in_err-entry c =
    absurd (is_read (tested (goal.at.returns-in_err-entry c).After-may_take_back) _ c.in_ok-may_take_back.was (sym (entry_decoded _ _ c.entry_at.ensures) ∙ search rules))

pub standing_place-earlier_at-requires : goal.standing_place-earlier_at-requires
standing_place-earlier_at-requires c =
    let room = lies (tested (goal.at.standing_place-earlier_at-requires c).After-may_take_back) _ c.in_ok-may_take_back.was in
    let r = read_range _ _ (read (goal.at.standing_place-earlier_at-requires c).In_ok-entry) in
    record { count_in_bounds = omega (arith, room); quarter_bound = r.quarter }

pub found_at-earlier-requires : goal.found_at-earlier-requires
found_at-earlier-requires c =
    let room = lies (tested (goal.at.found_at-earlier-requires c).After-may_take_back) _ c.in_ok-may_take_back.was in
    place-room _ _ _ _ _ (omega (arith, room)) c.standing_place-earlier_at.ensures

pub write_at-requires : goal.write_at-requires
write_at-requires c =
    let room = lies (tested (goal.at.write_at-requires c).After-may_take_back) _ c.in_ok-may_take_back.was in
    record { at_in_bounds = room; bytes_len = refl }

pub overflow_cast-index : goal.overflow_cast-index
overflow_cast-index c =
    let k = tested (goal.at.overflow_cast-index c).After-may_take_back in
    record { fits = position_small k _ c.in_ok-may_take_back.was _ _ c.standing_place-earlier_at.ensures }

pub bounds-index-place : goal.bounds-index-place
bounds-index-place c =
    let k = tested (goal.at.bounds-index-place c).After-may_take_back in
    is_place k _ c.in_ok-may_take_back.was (read (goal.at.bounds-index-place c).In_ok-entry) _ c.key_place-place.ensures

pub restate-requires : goal.restate-requires
restate-requires c =
    let r = read_range _ _ (read (goal.at.restate-requires c).In_ok-entry) in
    record { point_bound = r.point; placed = placed _ _ _ c.found_at-earlier.ensures; placed_2 = placed_read _ r }

pub returns : goal.returns
returns c =
    is_unposted (tested (goal.at.returns c).After-may_take_back) _ c.in_ok-may_take_back.was (read (goal.at.returns c).In_ok-entry)
    _ c.key_place-place.ensures c.standing_place-earlier_at.ensures c.found_at-earlier.ensures c.write_at.ensures refl c.restate.ensures
