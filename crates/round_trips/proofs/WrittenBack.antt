-- Write accepts a sound book, and posting the file that it wrote gives an open book with the same month, points, L and totals. Assumes nothing.
use Prim.Native.Nat.{ℕ, ◌*◌, ◌≤◌, ◌<◌}
use mathlib.Core.Path.{◌≡◌, refl, sym, ap, ap₂, subst, ◌∙◌}
use mathlib.Core.Bool.{false}
use mathlib.Core.List.{List}
use native.Mathlib.Omega.{arith}
use borrow.Author.Tests.{lt-leb}
use lib.ListN.{length, take, drop}
use lib.Seq.{take_at}
use Rattle.refusals.specs.Refusals.{first}
use Rattle.refusals.proofs.First.{all_passed}
use Rattle.header_record.specs.declared.Header.{Header}
use Rattle.point_record.specs.declared.Point.{Point}
use Rattle.entry_record.specs.declared.Entry.{Entry}
use Rattle.machine.specs.Machine.{Frame, State, deliver, with_entries, fresh, capacity_of, full, conditions, totals_in}
use Rattle.journal.specs.Journal.{bytes_at, entries}
use Rattle.journal.proofs.Entries.{length-entries, bytes_at-take, entries-take}
use Rattle.index.specs.Index.{places_of}
use Rattle.index.proofs.Comparing.{not_short}
use Rattle.master_data.specs.Master.{frame_of}
use Rattle.audit.proofs.Fitting.{Passes, passes_at}
use Rattle.book.specs.declared.Book.{Book}
use Rattle.book.specs.Library.{Lent, view, number}
use Rattle.book.proofs.Numbers.{guarded, sound_number}
use Rattle.book.proofs.Sound.{Sound}
use Rattle.opening.specs.Opening.{header, points, opening_number}
use Rattle.opening.proofs.Accepted.{Openable, accepted}
use Rattle.posting.specs.Posting.{entries_of, entry_bytes, posting}
use Rattle.round_trips.specs.RoundTrip.{Same, WrittenBack, WrittenPostsBack}
use Rattle.writing.specs.Writing.{header_of, file_of, file_length}
use Rattle.writing.proofs.FileWritten.{Writable, sound_writable, points-counted, entries_held, file_sized, written}
use Rattle.round_trips.proofs.InFull.{after, Holds, in_full, number_zero}
use Rattle.round_trips.proofs.Parts.{rest, entry_bytes_lem}
use Rattle.round_trips.proofs.WrittenFiles.{header_is, points_are, rest_is, written_opens}

-- the state of an open book
abbrev reopened : Frame → ℕ → List Entry → State
reopened f c es = record { frame = f; capacity = c; entries = es; closed = false }

-- it accepts an entry that passes, where there is room
accepts_entry : (f : Frame) (c : ℕ) (es : List Entry) (bytes : List ℕ) → Passes f es bytes → length es < c
    → first (conditions (reopened f c es) (deliver bytes)) ≡ 0
unfolding full
accepts_entry f c es bytes p room =
    all_passed (conditions (reopened f c es) (deliver bytes))
    (p.readable, (p.within, (refl, (p.above, (lt-leb c (length es) room, tt)))))

-- a journal with the bytes of n entries has the capacity for them
held_capacity : (n size : ℕ) → n ≤ 65535 → 12 * n ≤ size → n ≤ capacity_of size
unfolding capacity_of
held_capacity n size h k = omega arith

-- The file of a sound book with places for eight points.
module _ (b : Book) (l : Lent) (eight : length b.master.points ≡ 8) (s : Sound b l) where
  abbrev file : List ℕ
  file = file_of b l.journal

  abbrev ps : List Point
  ps = (frame_of b.master).points

  abbrev tail : List ℕ
  tail = take (12 * b.length) l.journal

  w : Writable b l.journal
  w = sound_writable s

  count : length ps ≡ b.master.count
  count = points-counted w eight

  -- it can be opened
  file_openable : Openable file
  unfolding file_of
  file_openable = written_opens (header_of b) ps tail w.header w.points count (entries_held w)

  -- with the header of the book
  file_header : header file ≡ header_of b
  unfolding file_of
  file_header = (header_is (header_of b) ps tail w.header w.points).1

  -- the points of the book
  file_points : points file ≡ ps
  unfolding file_of
  file_points = points_are (header_of b) ps tail w.header w.points count

  -- and the entries of the journal
  file_rest : rest file ≡ tail
  unfolding file_of
  file_rest = rest_is (header_of b) ps tail w.header w.points count

  file_bytes : (i : ℕ) → i < b.length → entry_bytes i file ≡ bytes_at i l.journal
  file_bytes i h = entry_bytes_lem i file ∙ ap (bytes_at i) file_rest ∙ bytes_at-take i b.length l.journal h

  file_entries : (i : ℕ) → i ≤ b.length → entries i (rest file) ≡ entries i l.journal
  file_entries i h = ap (entries i) file_rest ∙ entries-take i b.length l.journal h

  -- The journal of k, which it is posted into, holds L, and the index of k has the places.
  module _ (k : Lent) (holds : 12 * b.length ≤ length k.journal) (long : places_of b.master.count ≤ length k.index) where
    abbrev capacity : ℕ
    capacity = capacity_of (length k.journal)

    -- the state after i entries
    state : (i : ℕ) → i ≤ b.length → after file k i ≡ reopened (frame_of b.master) capacity (entries i l.journal)
    state i h = λ x. with_entries (fresh (file_header x) (file_points x) (length k.journal)) (file_entries i h x)

    -- accepts the next one
    next-accepted : (i : ℕ) (c : Book) (j : Lent) → i < entries_of file → Holds file k i c j
        → number c j (deliver (entry_bytes i file)) ≡ 0
    next-accepted i c j h p =
        let below : i < b.length = omega (arith, ap (λ (x : Header). x.entries) file_header) in
        let room = held_capacity b.length (length k.journal) w.length_most holds in
        sound_number p.stands.sound (deliver (entry_bytes i file))
        ∙ ap₂ (λ (t : State) (bytes : List ℕ). first (conditions t (deliver bytes)))
        (p.stands.state ∙ state i (omega arith)) (file_bytes i below)
        ∙ accepts_entry (frame_of b.master) capacity (entries i l.journal) (bytes_at i l.journal)
        (passes_at (frame_of b.master) b.length i l.journal s.entries below)
        (omega (arith, length-entries i l.journal))

    -- it is opened
    file_opened : opening_number file k.index ≡ 0
    file_opened =
        accepted file k.index file_openable
        (not_short (header file).points k.index (omega (arith, ap (λ (x : Header). x.points) file_header)))

    -- so all are posted
    all_posted : (posting file k).number ≡ 0
    all_posted = number_zero file k file_opened next-accepted

    -- and what comes of it stands for an open book with the same month, points and L
    end : view (posting file k).book (posting file k).lent
        ≡ reopened (frame_of b.master) capacity (entries b.length l.journal)
    end =
        (in_full file k all_posted).1.stands.state
        ∙ ap (λ (x : Header). after file k x.entries) file_header ∙ state b.length (omega arith)

    posts_back : Same (posting file k) b l
    posts_back =
        record {
          accepted = all_posted;
          unclosed = ap (λ (t : State). t.closed) end;
          frame = ap (λ (t : State). t.frame) end;
          entries = ap (λ (t : State). t.entries) end;
          totals = (in_full file k all_posted).1.stands.sound.totals ∙ ap totals_in end ∙ sym s.totals;
        }

-- write accepts, and posting what it wrote gives "an open book with the same month, points, L and totals"
pub written_posts_back : WrittenPostsBack
written_posts_back b l k out eight none room holds long =
    let s = guarded b l none in
    let size = file_sized (sound_writable s) eight in
    subst (WrittenBack b l k) (written b l out none room _ refl)
    (record {
      accepted = refl;
      sized = sym size;
      back =
          subst (λ (f : List ℕ). Same (posting f k) b l) (sym (take_at (file_of b l.journal) (drop (file_length b) out) (file_length b) size))
          (posts_back b l eight s k holds long);
    })
