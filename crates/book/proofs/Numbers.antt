-- The number of a call from its conditions. Assumes nothing.
use Prim.Native.Nat.{ℕ, ◌<◌}
use mathlib.Core.Path.{◌≡◌, refl, sym, ap, ◌∙◌}
use mathlib.Core.Bool.{Bool, true, false, cond}
use mathlib.Core.List.{List}
use borrow.Author.Tests.{eqb-true, not-true, not-false}
use Rattle.std.specs.Prelude.{None, Some, Result, Ok, Err, ⊤}
use Rattle.std.specs.Result.{result_unwrap_or}
use Rattle.answers.specs.declared.Refusal.{Refusal}
use Rattle.answers.specs.Numbers.{number_of, answered}
use Rattle.answers.proofs.Refusing.{refused-number}
use Rattle.machine.specs.Machine as machine
use Rattle.worth.specs.declared.Figures.{Figures}
use lib.Dec.{eqb}
use Rattle.refusals.specs.Refusals.{first}
use Rattle.refusals.proofs.First.{skip, stop, refuse, NoneHolds, none_holds, all_passed, past, decided}
use Rattle.machine.specs.Machine.{Change, deliver, take_back, close, conditions}
use Rattle.index.specs.Index.{short_index}
use Rattle.audit.specs.Audit.{afresh, all_same}
use Rattle.book.specs.declared.Book.{Book}
use Rattle.book.specs.declared.Totals.{Totals}
use Rattle.book.specs.Library.{Lent, view, unsound, guards, number, outcome, accepted, called, no_totals, totals_answer, totals_given}
use Rattle.book.proofs.Sound.{Sound, sound, not_short, not_unsound, judged_none, judged_some}

-- where none of the numbers before a call's own applies, the book is sound
pub guarded : (b : Book) (l : Lent) → first (guards b l) ≡ 0 → Sound b l
guarded b l h = let n = none_holds (guards b l) refl h in sound b l n.0 n.1.0

-- and where it is, none of them does
passed : {b : Book} {l : Lent} → Sound b l → NoneHolds (guards b l)
passed s = (not_short s, (not_unsound s, tt))

pub unguarded : {b : Book} {l : Lent} → Sound b l → first (guards b l) ≡ 0
unguarded {b} {l} s = all_passed (guards b l) (passed s)

-- the number of a call on a sound book is the machine's
pub sound_number : {b : Book} {l : Lent} → Sound b l → (c : Change) → number b l c ≡ first (conditions (view b l) c)
unfolding number
sound_number {b} {l} s c = past (guards b l) (conditions (view b l) c) (passed s)

-- a call with number 0 is accepted
pub called-accepted : (b : Book) (l : Lent) (c : Change) → number b l c ≡ 0 → accepted b l c ≡ called b l c
unfolding called
called-accepted b l c h = rw h

-- one with another number is refused
pub called-refused : (b : Book) (l : Lent) (c : Change) (n : ℕ) → 0 < n → number b l c ≡ n → outcome n b l ≡ called b l c
unfolding called
called-refused b l c n p h = rw (h, refuse p)

-- one of the numbers before a call's own refuses every call
pub guard_refused : (b : Book) (l : Lent) (c : Change) (n : ℕ) → 0 < n → n ≡ first (guards b l) → outcome n b l ≡ called b l c
unfolding number
guard_refused b l c n p h = called-refused b l c n p (decided (guards b l) (conditions (view b l) c) n p (sym h))

-- so it does when the judgement's refusal is handed on
pub judged_refused : (b : Book) (l : Lent) (c : Change) {a handed : Result ⊤ Refusal} {r : Refusal} → a ≡ Err r
    → answered a ≡ first (guards b l) → handed ≡ Err r → outcome (answered handed) b l ≡ called b l c
judged_refused b l c {r = r} is judged same =
    ap (λ (h : Result ⊤ Refusal). outcome (answered h) b l) same
    ∙ guard_refused b l c (number_of r) (refused-number r) (sym (ap answered is) ∙ judged)

-- Calls on a sound book, by the machine's conditions.
module _ {b : Book} {l : Lent} (s : Sound b l) (c : Change) where
  -- one condition that is the first to hold refuses
  pub sound_refused : (n : ℕ) → 0 < n → first (conditions (view b l) c) ≡ n → outcome n b l ≡ called b l c
  sound_refused n p h = called-refused b l c n p (sound_number s c ∙ h)

  -- where none holds, the call is accepted
  pub sound_accepted : first (conditions (view b l) c) ≡ 0 → accepted b l c ≡ called b l c
  sound_accepted h = called-accepted b l c (sound_number s c ∙ h)

-- the number answered is the number of the call
pub called-number : (b : Book) (l : Lent) (c : Change) → (called b l c).number ≡ number b l c
unfolding called
called-number b l c = go (eqb (number b l c) 0) refl
  where
    zero_number : (c : Change) → (accepted b l c).number ≡ 0
    zero_number (deliver bytes) = refl
    zero_number take_back = refl
    zero_number close = refl

    go : (t : Bool) → eqb (number b l c) 0 ≡ t → (cond t (accepted b l c) (outcome (number b l c) b l)).number ≡ number b l c
    go true e = zero_number c ∙ sym (eqb-true (number b l c) 0 e)
    go false e = refl

-- What the tests of the index's length and of the sums afresh say of the numbers before a call's own.
module _ (b : Book) (l : Lent) where
  pub judged-short : short_index b.master.count l.index ≡ true → 17 ≡ first (guards b l)
  judged-short h = sym (stop 17 _ h)

  -- The index is not too short.
  module _ (long : short_index b.master.count l.index ≡ false) where
    -- the entries have no sums afresh
    pub judged-unlawful : afresh b.master b.length l.journal l.index ≡ None → 7 ≡ first (guards b l)
    judged-unlawful h = sym (skip 17 _ long ∙ stop 7 0 (judged_none b l h))

    -- they have, which the stored totals are compared with
    module _ (ts : List Figures) (sums : afresh b.master b.length l.journal l.index ≡ Some ts) where
      pub judged-sound : all_same b.totals ts ≡ true → 0 ≡ first (guards b l)
      judged-sound h = sym (skip 17 _ long ∙ skip 7 0 (not-true (unsound b l) (sym (judged_some b l ts sums) ∙ h)))

      pub judged-unsound : all_same b.totals ts ≡ false → 7 ≡ first (guards b l)
      judged-unsound h = sym (skip 17 _ long ∙ stop 7 0 (not-false (unsound b l) (sym (judged_some b l ts sums) ∙ h)))

-- what totals gives of a sound book
pub sound_given : {b : Book} {l : Lent} → Sound b l
    → totals_given b l ≡ record { number = 0; figures = b.totals; entries = b.length }
unfolding totals_given
sound_given {b} {l} s = rw (unguarded s)

-- an answer of totals, by its number and what it has beside it
pub taken_apart : (r : Result Totals Refusal) → let t = result_unwrap_or r no_totals in
    ◌≡◌ {A = machine.Answer} (record { number = answered r; figures = t.points; entries = t.length }) (totals_answer r)
taken_apart (Ok t) = refl
taken_apart (Err r) = refl
