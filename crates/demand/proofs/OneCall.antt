-- One call: a sound book stays sound, and stands for the machine's next state; its answer is the machine's. Assumes nothing.
use Prim.Native.Nat.{ℕ, suc, ◌+◌, ◌-◌, ◌*◌, ◌≤◌, ◌<◌}
use mathlib.Core.Path.{◌≡◌, refl, sym, ap, ◌∙◌}
use mathlib.Core.Bool.{Bool, true, false, cond}
use mathlib.Core.List.{List, [], ◌∷◌, ◌++◌}
use native.Mathlib.Numerals.{add-one}
use native.Mathlib.Omega.{arith}
use borrow.Author.Tests.{leb-false, eqb-true, eqb-false}
use lib.Dec.{eqb}
use lib.ListN.{length, take, replicate}
use lib.Seq.{paste, length-paste}
use Rattle.refusals.specs.Refusals.{first}
use Rattle.refusals.proofs.First.{none_holds}
use Rattle.lists.proofs.Laws.{tests_same, none-next, none_last}
use Rattle.entry_record.specs.declared.Entry.{Entry}
use Rattle.entry_record.specs.Entry.{entry_in, unreadable}
use Rattle.entry_record.proofs.Laws.{entry_reads}
use Rattle.worth.specs.declared.Figures.{Figures}
use Rattle.machine.specs.Machine as machine
use Rattle.machine.specs.Machine.{Frame, State, Change, deliver, take_back, close, Call, change, totals, capacity_of, outside, not_above, full, empty}
use Rattle.machine.specs.Machine.{conditions, step, changed, next, totals_of}
use Rattle.journal.specs.Journal.{bytes_at, entry_at, entries}
use Rattle.journal.proofs.Entries.{length-entries, take-entries, one_more, bytes_at_paste, bytes_at_before, entries_before}
use Rattle.master_data.specs.Master.{frame_of}
use Rattle.audit.specs.Audit.{stopped, stopped_at, any_stopped}
use Rattle.restating.specs.Restating.{restated}
use Rattle.master_data.proofs.Ranged.{inside, points_most}
use Rattle.audit.proofs.Fitting.{passes}
use Rattle.audit.proofs.Placed.{entries-room}
use Rattle.audit.proofs.OnePlace.{one_in, one_out}
use Rattle.walk.specs.Walk.{index_to}
use Rattle.walk.proofs.Noted.{says_again}
use Rattle.book.specs.declared.Book.{Book}
use Rattle.book.specs.Library as library
use Rattle.book.specs.Library.{Lent, lent, with_length, with_totals, with_closed, view, posted, unposted, outcome, accepted, called, after}
use Rattle.book.proofs.Numbers.{sound_number, called-number, sound_given}
use Rattle.book.proofs.Sound.{Sound}

-- A sound book, with what is lent, and the state that it stands for.
pub record Stands (b : Book) (l : Lent) (s : State) : Type 0 where
  pub sound : Sound b l
  pub state : view b l ≡ s

-- What an accepted deliver says of the machine's state and the bytes.
record Delivers (s : State) (bytes : List ℕ) : Type 0 where
  readable : unreadable bytes ≡ false
  within : outside s.frame (entry_in bytes).point (entry_in bytes).quarter ≡ false
  above : not_above s.entries (entry_in bytes) ≡ false
  room : full s ≡ false

delivers : (s : State) (bytes : List ℕ) → first (conditions s (deliver bytes)) ≡ 0 → Delivers s bytes
delivers s bytes h =
    let n = none_holds (conditions s (deliver bytes)) refl h in
    record { readable = n.0; within = n.1.0; above = n.1.1.1.0; room = n.1.1.1.1.0 }

-- an L that does not fill the capacity, and one that is not empty
not_full : (s : State) → full s ≡ false → length s.entries < s.capacity
unfolding full
not_full s h = leb-false s.capacity (length s.entries) h

not_empty : (s : State) → first (conditions s take_back) ≡ 0 → 0 < length s.entries
unfolding empty
not_empty s h = omega (arith, eqb-false (length s.entries) 0 (none_holds (conditions s take_back) refl h).1.0)

-- the entries before 12 bytes that are written are stopped as they were
before : (f : Frame) (m n : ℕ) (j bs : List ℕ) → m ≤ n → 12 * n ≤ length j → any_stopped f m (paste j (12 * n) bs 12) ≡ any_stopped f m j
before f m n j bs h k =
    tests_same (stopped_at f (paste j (12 * n) bs 12)) (stopped_at f j) m
    (λ i b.
    let e = entries_before n j bs i (omega arith) k in
    let x = bytes_at_before n j bs i (omega arith) k in
    λ t. stopped f (e t) (x t))

-- One entry more, in the 12 bytes behind the first n.
module _ (n : ℕ) (j bytes : List ℕ) (fits : 12 * n + 12 ≤ length j) (size : length bytes ≡ 12) where
  abbrev written : List ℕ
  written = paste j (12 * n) bytes 12

  -- it follows the first n, which stay
  appended : entries (n + 1) written ≡ entries n j ++ entry_in bytes ∷ []
  appended =
      ap (λ (m : ℕ). entries m written) (add-one n) ∙ one_more n written
      ∙ (λ t. entries_before n j bytes n (omega arith) (omega arith) t ++ entry_in (bytes_at_paste n j bytes fits size t) ∷ [])

  -- none is stopped, if it is not and none of the others was
  none-stopped : (f : Frame) → any_stopped f n j ≡ false → stopped f (entries n j) bytes ≡ false → any_stopped f (n + 1) written ≡ false
  none-stopped f h w =
      none-next (stopped_at f written) n (before f n n j bytes (omega arith) (omega arith) ∙ h)
      ((λ t. stopped f (entries_before n j bytes n (omega arith) (omega arith) t) (bytes_at_paste n j bytes fits size t)) ∙ w)

-- A sound book changes, the first n entries of the journal are now es, and the index says which of them stand.
module _ {b : Book} {l : Lent} (s : Sound b l) (n : ℕ) (es : List Entry) (c : Bool) (ts : List Figures) (k x : List ℕ)
    (size : length k ≡ length l.journal) (held : entries n k ≡ es) (says : x ≡ index_to b.master n k x) where
  -- it stands for the state with these entries, if L is no longer than the capacity, none of its entries is stopped and the totals
  -- are theirs
  changed_stands : n ≤ capacity_of (length l.journal) → any_stopped (frame_of b.master) n k ≡ false
      → ts ≡ totals_of (frame_of b.master).points es
      → Stands (with_closed (with_length (with_totals b ts) n) c) (lent k x)
      (record { frame = frame_of b.master; capacity = capacity_of (length l.journal); entries = es; closed = c })
  changed_stands room none sums =
      record {
        sound =
            record {
              ranged = s.ranged;
              short = rw size room;
              entries = none;
              totals = sums ∙ ap (totals_of (frame_of b.master).points) (sym held);
              index = says;
            };
        state = λ i. record { frame = frame_of b.master; capacity = capacity_of (size i); entries = held i; closed = c };
      }

-- The calls on a sound book.
module _ {b : Book} {l : Lent} (s : Sound b l) where
  -- deliver: the new entry follows the others
  delivered : (bytes : List ℕ) → Delivers (view b l) bytes
      → Stands (accepted b l (deliver bytes)).book (accepted b l (deliver bytes)).lent (step (view b l) (deliver bytes))
  unfolding posted stopped
  delivered bytes d =
      let n = b.length in
      let j = l.journal in
      let e = entry_in bytes in
      let ps = (frame_of b.master).points in
      let size : length bytes ≡ 12 = (entry_reads.range bytes d.readable).1 in
      let below : n < capacity_of (length j) = omega (arith, not_full (view b l) d.room, length-entries n j) in
      let fits : 12 * n + 12 ≤ length j = omega (arith, entries-room (suc n) (length j) below) in
      let here : stopped (frame_of b.master) (entries n j) bytes ≡ false = rw (d.readable, d.within, d.above) in
      let sums = ap (λ (us : List Figures). restated us e.point (library.entry_worth b e) (library.standing_worth b l e n)) s.totals
      ∙ one_in ps n j e (inside b.master e d.within).point (points_most s.ranged) in
      changed_stands s (n + 1) (entries n j ++ e ∷ []) b.closed _ (paste j (12 * n) bytes 12) _
      (length-paste j (12 * n) bytes 12 fits (omega arith)) (appended n j bytes fits size)
      (says_again b.master (n + 1) (paste j (12 * n) bytes 12) l.index) (omega arith)
      (none-stopped n j bytes fits size (frame_of b.master) s.entries here) sums

  -- take back: the others are left
  taken_back : 0 < length (entries b.length l.journal)
      → Stands (accepted b l take_back).book (accepted b l take_back).lent (step (view b l) take_back)
  unfolding unposted
  taken_back some =
      let n = b.length in
      let m = n - 1 in
      let j = l.journal in
      let f = frame_of b.master in
      let zeros : List ℕ = replicate 12 0 in
      let count : length (entries n j) ≡ n = length-entries n j in
      let last : suc m ≡ n = omega (arith, some) in
      let short : n ≤ capacity_of (length j) = s.short in
      let fits : 12 * m + 12 ≤ length j = omega (arith, entries-room n (length j) short) in
      let left : entries m j ≡ take (length (entries n j) - 1) (entries n j) =
      sym (ap (λ (x : ℕ). take (x - 1) (entries n j)) count ∙ take-entries m n j (omega arith)) in
      let held : entries m (paste j (12 * m) zeros 12) ≡ entries m j = entries_before m j zeros m (omega arith) (omega arith) in
      let rest = none_last (stopped_at f j) m (ap (λ (x : ℕ). any_stopped f x j) last ∙ s.entries) in
      let p = passes f (entries m j) (bytes_at m j) rest.1 in
      let e = entry_at m j in
      let stored = s.totals ∙ ap (λ (x : ℕ). totals_of f.points (entries x j)) (sym last) in
      let sums = ap (λ (us : List Figures). restated us e.point (library.standing_worth b l e m) (library.entry_worth b e)) stored
      ∙ one_out f.points m j (inside b.master e p.within).point (points_most s.ranged)
      ∙ ap (totals_of f.points) left in
      changed_stands s m (take (length (entries n j) - 1) (entries n j)) b.closed _ (paste j (12 * m) zeros 12) _
      (length-paste j (12 * m) zeros 12 fits (omega arith)) (held ∙ left)
      (says_again b.master m (paste j (12 * m) zeros 12) l.index) (omega arith)
      (before f m m j zeros (omega arith) (omega arith) ∙ rest.0) sums

  -- close: L stays, and with it the totals and the index
  closed : Stands (accepted b l close).book (accepted b l close).lent (step (view b l) close)
  closed =
      changed_stands s b.length (entries b.length l.journal) true b.totals l.journal l.index refl refl s.index s.short
      s.entries s.totals

  -- any accepted call
  acted : (c : Change) → first (conditions (view b l) c) ≡ 0
      → Stands (accepted b l c).book (accepted b l c).lent (step (view b l) c)
  acted (deliver bytes) h = delivered bytes (delivers (view b l) bytes h)
  acted take_back h = taken_back (not_empty (view b l) h)
  acted close h = closed

  -- any change, with n for its number
  chosen : (c : Change) (n : ℕ) → (n ≡ 0 → Stands (accepted b l c).book (accepted b l c).lent (step (view b l) c))
      → Stands (cond (eqb n 0) (accepted b l c) (outcome n b l)).book (cond (eqb n 0) (accepted b l c) (outcome n b l)).lent
      (cond (eqb n 0) (step (view b l) c) (view b l))
  chosen c n act = go (eqb n 0) refl
    where
      go : (t : Bool) → eqb n 0 ≡ t
          → Stands (cond t (accepted b l c) (outcome n b l)).book (cond t (accepted b l c) (outcome n b l)).lent
          (cond t (step (view b l) c) (view b l))
      go true e = act (eqb-true n 0 e)
      go false e = record { sound = s; state = refl }

  -- after a change the book is sound, and stands for the machine's next state
  pub changes : (c : Change) → Stands (called b l c).book (called b l c).lent (changed (view b l) c)
  unfolding called changed
  changes c = rw (sound_number s c) (chosen c (first (conditions (view b l) c)) (acted c))

  -- and so after any call
  pub stays : (c : Call) → Stands (after b l c).book (after b l c).lent (next (view b l) c)
  stays (change c) = changes c
  stays totals = record { sound = s; state = refl }

  -- each call answers what the machine answers
  pub answers_alike : (c : Call) → library.answer b l c ≡ machine.answer (view b l) c
  answers_alike (change c) = ap machine.number_alone (called-number b l c ∙ sound_number s c)
  answers_alike totals =
      sound_given s ∙ (λ i. record { number = 0; figures = s.totals i; entries = sym (length-entries b.length l.journal) i })
