-- Demand 3, for every file that open accepts, whatever is lent and every list of calls; and what the index says after each call.
-- Assumes nothing.
use Prim.Native.Nat.{ℕ, ◌≤◌, ◌<◌}
use mathlib.Core.Path.{◌≡◌, refl, sym, ap, ap₂, ◌∙◌, subst}
use mathlib.Core.HLevel.{⊥_prop}
use mathlib.Core.Logic.Or
use mathlib.Core.Bool.{false, false≢true}
use mathlib.Core.List.{List, [], ◌∷◌, Mem, eq-or-mem_of_mem-cons, not-mem-nil}
use native.Mathlib.Omega.{arith}
use lib.ListN.{length, get_or}
use Rattle.refusals.proofs.First.{listed, given_listed}
use Rattle.worth.specs.declared.Figures.{Figures}
use Rattle.worth.specs.Figures.{nothing}
use Rattle.machine.specs.Machine as machine
use Rattle.machine.specs.Machine.{Frame, State, Change, deliver, take_back, close, Call, change, totals, Answer, conditions, next, totals_in}
use Rattle.machine.proofs.Frames.{run-frame}
use Rattle.machine.proofs.Totals.{totals_get, total_energy, conserved-totals}
use Rattle.master_data.proofs.Ranged.{points_most}
use Rattle.book.specs.declared.Book.{Book}
use Rattle.book.specs.Library as library
use Rattle.book.specs.Library.{Lent, after}
use Rattle.book.proofs.Numbers.{guarded}
use Rattle.opening.specs.Opening.{opening_number}
use Rattle.demand.specs.Demand.{beside, standing_energy, Conserved, Demand3, IndexSays}
use Rattle.demand.proofs.OneCall.{Stands, stays, answers_alike}
use Rattle.demand.proofs.FreshBook.{opened}

-- A book that stands for the machine's state ..
module _ {b : Book} {l : Lent} {s : State} (r : Stands b l s) where
  -- .. stands for its next state after any call
  moved : (c : Call) → Stands (after b l c).book (after b l c).lent (next s c)
  moved c = let t = stays r.sound c in record { sound = t.sound; state = t.state ∙ ap (λ (x : State). next x c) r.state }

  -- .. and answers as the machine does
  answered : (c : Call) → library.answer b l c ≡ machine.answer s c
  answered c = answers_alike r.sound c ∙ ap (λ (t : State). machine.answer t c) r.state

-- every list of calls is answered as by the machine
pub same-answers : {b : Book} {l : Lent} {s : State} → Stands b l s → (cs : List Call) → library.answers b l cs ≡ machine.answers s cs
unfolding library.answers machine.answers
same-answers r [] = refl
same-answers {b = b} {l = l} r (c ∷ cs) =
    ap₂ ◌∷◌ (answered r c) (same-answers {b = (after b l c).book} {l = (after b l c).lent} (moved r c) cs)

-- and ends in the machine's state
pub same_end : {b : Book} {l : Lent} {s : State} → Stands b l s → (cs : List Call)
    → Stands (library.run b l cs).book (library.run b l cs).lent (machine.run s cs)
unfolding library.run machine.run
same_end r [] = r
same_end {b = b} {l = l} r (c ∷ cs) = same_end {b = (after b l c).book} {l = (after b l c).lent} (moved r c) cs

-- The machine "passes over 7, which no call of such a list gets", and over 17.

-- they are none of a call's own numbers
unlisted_7 : (s : State) (c : Change) → listed 7 (conditions s c) ≡ false
unlisted_7 s (deliver bytes) = refl
unlisted_7 s take_back = refl
unlisted_7 s close = refl

unlisted_17 : (s : State) (c : Change) → listed 17 (conditions s c) ≡ false
unlisted_17 s (deliver bytes) = refl
unlisted_17 s take_back = refl
unlisted_17 s close = refl

-- A number above 0 that is none of them.
module _ (n : ℕ) (refusal : 0 < n) (unlisted : (s : State) (c : Change) → listed n (conditions s c) ≡ false) where
  -- no call gets it from the machine
  machine_never : (s : State) (c : Call) → (machine.answer s c).number ≡ n → ⊥
  machine_never s (change c) h =
      false≢true (sym (unlisted s c) ∙ sym (ap (λ (k : ℕ). listed k (conditions s c)) h) ∙ given_listed (conditions s c))
  machine_never s totals h = omega arith

  -- nor does a call of a list
  none_gets : (s : State) (cs : List Call) (a : Answer) → Mem a (machine.answers s cs) → a.number ≡ n → ⊥
  unfolding machine.answers
  none_gets s [] a m h = not-mem-nil m
  none_gets s (c ∷ cs) a m h =
      Or.elim ⊥_prop (eq-or-mem_of_mem-cons m)
      (λ e. machine_never s c (ap (λ (x : Answer). x.number) (sym e) ∙ h))
      (λ k. none_gets (next s c) cs a k h)

-- The totals at a point are conserved.

-- those of the machine, which has at most eight points
conserved_in : (s : State) (p : ℕ) → p < length s.frame.points → length s.frame.points ≤ 8
    → Conserved (get_or (totals_in s) p nothing) (standing_energy s p)
conserved_in s p inside most =
    let ps = s.frame.points in
    let l = s.entries in
    subst (λ (f : Figures). Conserved f (standing_energy s p)) (sym (totals_get ps p inside most l))
    (record { shares = conserved-totals ps l p; standing = total_energy ps l p })

-- the index after each call on a sound book
pub index_says : IndexSays
index_says b l c h = (stays (guarded b l h) c).sound.index

-- demand 3
pub demand_3 : (file : List ℕ) (l : Lent) (calls : List Call) → opening_number file l.index ≡ 0 → Demand3 file l calls
demand_3 file l calls h =
    let r = opened file l h in
    let e = same_end r calls in
    let end = machine.run (beside file (length l.journal)) calls in
    let same = same-answers r calls in
    let stored = e.sound.totals ∙ ap totals_in e.state in
    let kept = ap (λ (f : Frame). length f.points) (run-frame (beside file (length l.journal)) calls) in
    let most = subst (λ (s : State). length s.frame.points ≤ 8) e.state (points_most e.sound.ranged) in
    record {
      answered = same;
      stored = stored;
      never_7 = λ a m. none_gets 7 (omega arith) unlisted_7 (beside file (length l.journal)) calls a (subst (Mem a) same m);
      never_17 = λ a m. none_gets 17 (omega arith) unlisted_17 (beside file (length l.journal)) calls a (subst (Mem a) same m);
      conserved =
          λ p inside.
          subst (λ (ts : List Figures). Conserved (get_or ts p nothing) (standing_energy end p)) (sym stored)
          (conserved_in end p (omega arith) most);
    }
