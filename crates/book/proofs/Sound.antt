-- What a book has that is sound, with an index that is long enough: number 7 of document 01, and 17, taken apart and put together.
-- Assumes nothing.
use Prim.Native.Nat.{◌≤◌}
use mathlib.Core.Path.{◌≡◌, refl, sym, ap, subst, ◌∙◌}
use mathlib.Core.Bool.{Bool, true, false, cond, not, ◌||◌}
use mathlib.Core.List.{List}
use borrow.Author.Tests.{not-false}
use lib.ListN.{length}
use Rattle.std.specs.Prelude.{Option, None, Some, MatchOption, unwrap_or, ⊤}
use Rattle.worth.specs.declared.Figures.{Figures}
use Rattle.index.specs.Index.{short_index}
use Rattle.refusals.proofs.Tests.{neither, not_not}
use Rattle.machine.specs.Machine.{capacity_of, totals_in}
use Rattle.master_data.specs.Master.{frame_of}
use Rattle.audit.specs.Audit.{any_stopped, unlawful, afresh, all_same, wrong_totals}
use Rattle.audit.proofs.Equal.{all_same_lem, all_self}
use Rattle.audit.proofs.Lawful.{Lawful, lawful, long_enough, not_unlawful}
use Rattle.master_data.proofs.Ranged.{Ranged}
use Rattle.walk.specs.Walk.{index_to}
use Rattle.book.specs.declared.Book.{Book}
use Rattle.book.specs.Library.{Lent, view, unsound}

-- the facts that 7 and 17 ask for, of a book and what is lent
pub record Sound (b : Book) (l : Lent) : Type 0 where
  pub ranged : Ranged b.master
  pub short : b.length ≤ capacity_of (length l.journal)
  pub entries : any_stopped (frame_of b.master) b.length l.journal ≡ false
  pub totals : b.totals ≡ totals_in (view b l)
  pub index : l.index ≡ index_to b.master b.length l.journal l.index

-- a book that is not unsound has these facts, if the index is not too short
pub sound : (b : Book) (l : Lent) → short_index b.master.count l.index ≡ false → unsound b l ≡ false → Sound b l
unfolding unsound wrong_totals
sound b l long h =
    let t = neither _ (wrong_totals b.master b.length l.journal b.totals) h in
    let k = lawful b.master b.length l.journal l.index long t.0 in
    record { ranged = k.ranged; short = k.short; entries = k.entries; totals = all_same_lem _ _ (not-false _ t.1); index = k.index }

-- the journal and the index of a book that has them are lawful
pub journal_lawful : {b : Book} {l : Lent} → Sound b l → Lawful b.master b.length l.journal l.index
journal_lawful s = record { ranged = s.ranged; short = s.short; entries = s.entries; index = s.index }

-- the index is not too short
pub not_short : {b : Book} {l : Lent} → Sound b l → short_index b.master.count l.index ≡ false
not_short s = long_enough _ _ _ _ (journal_lawful s)

-- and the book is not unsound
pub not_unsound : {b : Book} {l : Lent} → Sound b l → unsound b l ≡ false
unfolding unsound wrong_totals
not_unsound {b} {l} s =
    let t : all_same b.totals (totals_in (view b l)) ≡ true = ap (all_same b.totals) (sym s.totals) ∙ all_self b.totals in
    rw (not_unlawful b.master b.length l.journal l.index (journal_lawful s), t)

-- The test of the sums afresh.
module _ (b : Book) (l : Lent) where
  abbrev sums : List Figures
  sums = totals_in (view b l)

  -- where there are none the book is unsound
  pub judged_none : afresh b.master b.length l.journal l.index ≡ None → unsound b l ≡ true
  unfolding afresh unsound
  judged_none = go (unlawful b.master b.length l.journal l.index)
    where
      go : (t : Bool) → cond t None (Some sums) ≡ None → (t || wrong_totals b.master b.length l.journal b.totals) ≡ true
      go true e = refl
      go false e = absurd (subst (λ (o : Option (List Figures)). MatchOption o ⊥ (λ _. ⊤)) e tt)

  -- where there are some the stored totals decide
  pub judged_some : (ts : List Figures) → afresh b.master b.length l.journal l.index ≡ Some ts → all_same b.totals ts ≡ not (unsound b l)
  unfolding afresh unsound wrong_totals
  judged_some ts = go (unlawful b.master b.length l.journal l.index)
    where
      go : (t : Bool) → cond t None (Some sums) ≡ Some ts → all_same b.totals ts ≡ not (t || not (all_same b.totals sums))
      go true e = absurd (subst (λ (o : Option (List Figures)). MatchOption o ⊤ (λ _. ⊥)) e tt)
      go false e =
          let same : sums ≡ ts = ap (λ (o : Option (List Figures)). unwrap_or o sums) e in
          sym (not_not _ ∙ ap (all_same b.totals) same)
