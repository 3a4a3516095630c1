-- Take back on a sound book: what each return of the code gives is what the call gives. Assumes nothing.
use Prim.Native.Nat.{ℕ, suc, ◌-◌, ◌*◌, ◌+◌, ◌^◌, ◌≤◌, ◌<◌}
use mathlib.Core.Path.{◌≡◌, refl, sym, ap, subst, ◌∙◌}
use mathlib.Core.Bool.{false, true≢false}
use mathlib.Core.List.{List, [], ◌∷◌}
use native.Mathlib.Omega.{arith}
use borrow.Author.Tests.{eqb-false}
use lib.Dec.{eqb}
use lib.ListN.{length, set, replicate}
use lib.Seq.{paste}
use Rattle.refusals.specs.Refusals.{first}
use Rattle.refusals.proofs.First.{none_holds}
use Rattle.entry_record.specs.declared.Entry.{Entry}
use Rattle.std.specs.Prelude.{Option, None, Some, Result, Ok, Err, ⊤}
use Rattle.entry_record.specs.Entry.{decoded_entry}
use Rattle.entry_record.proofs.Laws.{entry_reads}
use Rattle.answers.specs.declared.Refusal.{Refusal}
use Rattle.answers.specs.Numbers.{number_of, answered}
use Rattle.answers.proofs.Refusing.{refused-number}
use Rattle.machine.specs.Machine.{take_back, capacity_of, empty, conditions}
use Rattle.journal.specs.Journal.{bytes_at, entries, standing_place}
use Rattle.journal.specs.Found.{found_at}
use Rattle.journal.proofs.Entries.{length-entries, place_most}
use Rattle.index.specs.Index.{key_place}
use Rattle.master_data.specs.Master.{frame_of}
use Rattle.master_data.proofs.Ranged.{Inside, inside}
use Rattle.audit.specs.Audit.{any_stopped}
use Rattle.audit.proofs.Fitting.{Passes, passes_at}
use Rattle.audit.proofs.OneEntry.{same, outside_read, totals-back}
use Rattle.audit.proofs.Placed.{entries-room}
use Rattle.machine.specs.Machine.{totals_of}
use Rattle.walk.proofs.Noted.{Noted, has_place, noted_less}
use Rattle.filing.proofs.Alike.{alike_before}
use Rattle.filing.proofs.Deliveries.{noted}
use Rattle.book.specs.declared.Book.{Book}
use Rattle.book.specs.Library.{Lent, lent, view, with_length, with_totals, unposted, outcome, called}
use Rattle.book.specs.Steps.{restated_held}
use Rattle.book.proofs.Numbers.{sound_refused, sound_accepted}
use Rattle.book.proofs.Sound.{Sound, journal_lawful}

-- A sound book, and the answer that the code's tests of 8 and 11 give.
pub record Tested (b : Book) (l : Lent) (a : Result ⊤ Refusal) : Type 0 where
  pub sound : Sound b l
  pub number : answered a ≡ first ((8, b.closed) ∷ (11, eqb b.length 0) ∷ [])

module _ {b : Book} {l : Lent} {a : Result ⊤ Refusal} (k : Tested b l a) where
  -- its number is the machine's
  machine_number : first (conditions (view b l) take_back) ≡ answered a
  unfolding empty
  machine_number = rw (length-entries b.length l.journal) (sym k.number)

  -- 8 and 11
  pub is_refused : (r : Refusal) → a ≡ Err r → outcome (number_of r) b l ≡ called b l take_back
  is_refused r h = sound_refused k.sound take_back (number_of r) (refused-number r) (machine_number ∙ ap answered h)

  -- Accepted.
  module _ (t : ⊤) (accepts : a ≡ Ok t) where
    zero_number : answered a ≡ 0
    zero_number = ap answered accepts

    -- there is an entry
    pub is_some : 1 ≤ b.length
    is_some =
        let n = none_holds ((8, b.closed) ∷ (11, eqb b.length 0) ∷ []) refl (sym k.number ∙ zero_number) in
        omega (arith, eqb-false b.length 0 n.1.0)

    -- which lies in the journal
    pub lies : 12 * (b.length - 1) + 12 ≤ length l.journal
    lies = omega (arith, entries-room _ _ k.sound.short, is_some)

    -- the position of one before it, counted from 1, fits 16 bits
    pub position_small : (p q : ℕ) {position : ℕ} → position ≡ standing_place p q (b.length - 1) l.journal → position < 2 ^ 16
    unfolding capacity_of
    position_small p q e = omega (arith, place_most p q (b.length - 1) l.journal, k.sound.short)

    last : suc (b.length - 1) ≡ b.length
    last = omega (arith, is_some)

    -- none of the entries is stopped, counted up to the last
    none : any_stopped (frame_of b.master) (suc (b.length - 1)) l.journal ≡ false
    none = ap (λ (n : ℕ). any_stopped (frame_of b.master) n l.journal) last ∙ k.sound.entries

    -- it passes 5, 6 and 9
    passing : Passes (frame_of b.master) (entries (b.length - 1) l.journal) (bytes_at (b.length - 1) l.journal)
    passing = passes_at (frame_of b.master) (suc (b.length - 1)) (b.length - 1) l.journal none (omega arith)

    -- it can be read
    pub is_read : decoded_entry (bytes_at (b.length - 1) l.journal) ≡ None → ⊥
    is_read h = true≢false (sym (entry_reads.refused_is (bytes_at (b.length - 1) l.journal) h) ∙ passing.readable)

    -- It was read.
    module _ {e : Entry} (read : decoded_entry (bytes_at (b.length - 1) l.journal) ≡ Some e) where
      here : Inside b.master e
      here = inside b.master e (sym (outside_read (bytes_at (b.length - 1) l.journal) read (frame_of b.master)) ∙ passing.within)

      -- the index says what stands among the entries, counted up to it
      says : Noted b.master (suc (b.length - 1)) l.journal l.index l.index
      says = subst (λ (n : ℕ). Noted b.master n l.journal l.index l.index) (sym last) (noted (journal_lawful k.sound))

      module _ (place : ℕ) (own : place ≡ key_place e.point e.quarter) where
        -- its place is one of the index's
        pub is_place : place < length l.index
        is_place = has_place says here place own

        -- it is taken back, and its place says the position of the one that stood before it
        pub is_unposted : {position : ℕ} {found : Option Entry} {after x : List ℕ} {left : Book}
            → position ≡ standing_place e.point e.quarter (b.length - 1) l.journal → found ≡ found_at position l.journal
            → after ≡ paste l.journal (12 * (b.length - 1)) (replicate 12 0) 12 → x ≡ set l.index place position
            → left ≡ restated_held b e.point found (Some e) (b.length - 1)
            → outcome 0 left (lent after x) ≡ called b l take_back
        unfolding unposted
        is_unposted {after = after} {x = x} stood looked ea ex er =
            let s = k.sound in
            let n = b.length - 1 in
            let j = l.journal in
            let zeros : List ℕ = replicate 12 0 in
            let stored = s.totals ∙ ap (λ (y : ℕ). totals_of (frame_of b.master).points (entries y j)) (sym last) in
            let sums = totals-back n j read (looked ∙ ap (λ (y : ℕ). found_at y j) stood) s.ranged none b.totals stored in
            let index =
            ex ∙ ap (set l.index place) stood
            ∙ noted_less says here place own (same (bytes_at n j) read) (paste j (12 * n) zeros 12) (alike_before n j zeros (omega (arith, lies))) in
            ap (λ (c : Book). outcome 0 c (lent after x)) er
            ∙ (λ i. outcome 0 (with_length (with_totals b (sums i)) n) (lent (ea i) (index i)))
            ∙ sound_accepted s take_back (machine_number ∙ zero_number)
