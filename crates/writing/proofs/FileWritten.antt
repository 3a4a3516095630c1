-- A sound book written as a file: header, points and entries fill one part of the output each. Assumes nothing.
use Prim.Native.Nat.{ℕ, ◌+◌, ◌-◌, ◌*◌, ◌<◌, ◌≤◌}
use mathlib.Core.Path.{◌≡◌, refl, sym, ap, ◌∙◌}
use mathlib.Core.Bool.{Bool, true, false, cond}
use mathlib.Core.List.{List, [], ◌∷◌, ◌++◌}
use native.Mathlib.Omega.{arith}
use borrow.Author.Tests.{le-leb, lt-ltb, le-ltb, ltb-false, not-false}
use lib.Dec.{ltb}
use lib.ListN.{length, take, drop, length-append}
use lib.Seq.{length-take-le}
use Rattle.refusals.specs.Refusals.{first}
use Rattle.refusals.proofs.First.{refuse, none_holds, past, decided}
use Rattle.lists.specs.Lists.{all_of}
use Rattle.header_record.specs.Header.{header_in_range, encoded_header}
use Rattle.point_record.specs.Point.{point_in_range}
use Rattle.header_record.proofs.Laws.{header_overwriting}
use Rattle.machine.specs.Machine.{capacity_of}
use Rattle.answers.specs.declared.Refusal.{Refusal}
use Rattle.answers.specs.Numbers.{number_of}
use Rattle.answers.proofs.Refusing.{refused-number}
use Rattle.master_data.specs.Master.{frame_of, month_of, wrong_month, wrong_point}
use Rattle.master_data.proofs.Ranged.{count_most}
use Rattle.audit.specs.Audit.{too_long}
use Rattle.audit.proofs.Placed.{entries-room}
use Rattle.book.specs.declared.Book.{Book}
use Rattle.book.specs.Library.{Lent, guards}
use Rattle.book.proofs.Sound.{Sound}
use Rattle.writing.specs.Writing.{header_of, written_header, written_points, file_of, file_length, write_number, write_result, writing}
use Rattle.writing.proofs.Filled.{returned, length_part, part_filled, length_filled}
use Rattle.writing.proofs.PointsWritten.{length-points}

-- What a sound book has for its file, with the journal's bytes.
pub record Writable (b : Book) (j : List ℕ) : Type 0 where
  pub header : header_in_range (header_of b) ≡ true
  pub points : all_of point_in_range (frame_of b.master).points ≡ true
  pub count_most : b.master.count ≤ 8
  pub length_most : b.length ≤ 65535
  pub held : 12 * b.length ≤ length j

-- no journal holds more entries than a header can say
capacity_most : (size : ℕ) → capacity_of size ≤ 65535
unfolding capacity_of
capacity_most size = omega arith

pub writable : {b : Book} {j : List ℕ} → wrong_month b.master ≡ false → wrong_point b.master ≡ false → too_long b.length j ≡ false
    → Writable b j
unfolding wrong_month wrong_point header_in_range too_long
writable {b} {j} right points short =
    let room : b.length ≤ capacity_of (length j) = ltb-false _ _ short in
    let most : b.length ≤ 65535 = omega (arith, room, capacity_most (length j)) in
    let month : header_in_range (month_of b.master) ≡ true = not-false _ right in
    record {
      header = rw (le-leb b.length 65535 most) month;
      points = not-false _ points;
      count_most = count_most b.master right;
      length_most = most;
      held = entries-room b.length (length j) room;
    }

-- A sound book is not too long for its journal, and can be written.
module _ {b : Book} {l : Lent} (s : Sound b l) where
  pub is_short : too_long b.length l.journal ≡ false
  unfolding too_long
  is_short = le-ltb (capacity_of (length l.journal)) b.length s.short

  pub sound_writable : Writable b l.journal
  sound_writable = writable s.ranged.month s.ranged.point is_short

-- it has as many points as it counts, if it has places for eight
pub points-counted : {b : Book} {j : List ℕ} → Writable b j → length b.master.points ≡ 8
    → length (frame_of b.master).points ≡ b.master.count
points-counted {b} w eight = length-take-le b.master.count b.master.points (omega (arith, w.count_most))

-- and its file the bytes of as many entries
pub entries_held : {b : Book} {j : List ℕ} → Writable b j → length (take (12 * b.length) j) ≡ 12 * b.length
entries_held {b} {j} w = length-take-le (12 * b.length) j w.held

-- the file has its length
pub file_sized : {b : Book} {j : List ℕ} → Writable b j → length b.master.points ≡ 8 → length (file_of b j) ≡ file_length b
unfolding file_of file_length written_header
file_sized {b} {j} w eight =
    let ps = (frame_of b.master).points in
    let front = written_header (header_of b) ++ written_points ps in
    length-append front (take (12 * b.length) j)
    ∙ omega (
      arith,
      length-append (written_header (header_of b)) (written_points ps),
      header_overwriting.sized (header_of b),
      length-points ps,
      points-counted w eight,
      entries_held w,
    )

-- The three parts, on an output that has room for the file.
module _ {b : Book} {j : List ℕ} (w : Writable b j) (out : List ℕ) (room : file_length b ≤ length out)
    (t : Bool) (hs : List ℕ) (encoded : ◌≡◌ {A = Bool × List ℕ} (t, hs) (encoded_header (header_of b) (take 7 out))) where
  -- where the entries begin, and where the file ends
  abbrev begin : ℕ
  begin = 7 + 21 * b.master.count

  abbrev end : ℕ
  end = begin + 12 * b.length

  -- the output has these places
  places : end ≤ length out
  unfolding file_length
  places = room

  -- the output with the header's part filled
  abbrev headed : List ℕ
  headed = hs ++ drop 7 out

  abbrev heading : List ℕ
  heading = written_header (header_of b)

  header-written : headed ≡ heading ++ drop 7 out
  unfolding written_header
  header-written =
      let k : length (take 7 out) ≡ 7 = length-take-le 7 out (omega (arith, places)) in
      ap (λ (r : Bool × List ℕ). r.1 ++ drop 7 out) (encoded ∙ header_overwriting.writes (header_of b) (take 7 out) w.header k)

  length-header : length heading ≡ 7
  unfolding written_header
  length-header = header_overwriting.sized (header_of b)

  -- the length stays
  pub header_kept : length headed ≡ length out
  header_kept = length_filled out headed heading 7 header-written length-header (omega (arith, places))

  -- the points' part has 21 bytes for each
  pub points_part : length (take (begin - 7) (drop 7 headed)) ≡ 21 * b.master.count
  points_part =
      let e : begin - 7 ≡ 21 * b.master.count = omega arith in
      length_part headed 7 begin (omega (arith, header_kept, places)) ∙ e

  -- The points are written too.
  module _ (eight : length b.master.points ≡ 8) (ps : List ℕ) (points : ps ≡ written_points (frame_of b.master).points) where
    -- the output with their part filled, and what stands before the entries
    abbrev pointed : List ℕ
    pointed = returned headed 7 begin ps

    abbrev front : List ℕ
    front = heading ++ written_points (frame_of b.master).points

    points-written : pointed ≡ front ++ drop begin out
    points-written =
        part_filled out headed heading 7 header-written length-header begin ps (omega arith)
        ∙ ap (λ (bs : List ℕ). (heading ++ bs) ++ drop begin out) points

    length_front : length front ≡ begin
    length_front =
        length-append heading (written_points (frame_of b.master).points)
        ∙ omega (arith, length-header, length-points (frame_of b.master).points, points-counted w eight)

    -- the length stays
    pub points_kept : length pointed ≡ length out
    points_kept = length_filled out pointed front begin points-written length_front (omega (arith, places))

    -- the entries' part has 12 bytes for each
    pub entries_part : length (take (end - begin) (drop begin pointed)) ≡ 12 * b.length
    entries_part =
        let e : end - begin ≡ 12 * b.length = omega arith in
        length_part pointed begin end (omega (arith, points_kept, places)) ∙ e

    -- and with the entries copied into it the output is the file
    pub file_written : (es : List ℕ) → es ≡ take (12 * b.length) j
        → returned pointed begin end es ≡ file_of b j ++ drop (file_length b) out
    unfolding file_of file_length
    file_written es entries =
        part_filled out pointed front begin points-written length_front end es (omega arith)
        ∙ ap (λ (bs : List ℕ). (front ++ bs) ++ drop end out) entries

-- What write answers.
module _ (b : Book) (l : Lent) (out : List ℕ) where
  -- one of the numbers that come before its own
  pub guard_answered : (r : Refusal) → number_of r ≡ first (guards b l) → write_result (number_of r) 0 out ≡ writing b l out
  unfolding writing write_number
  guard_answered r h =
      let p = refused-number r in
      rw (decided (guards b l) ((13, ltb (length out) (file_length b)) ∷ []) (number_of r) p (sym h), refuse p)

  -- None of these.
  module _ (none : first (guards b l) ≡ 0) where
    own_number : write_number b l out ≡ cond (ltb (length out) (file_length b)) 13 0
    unfolding write_number
    own_number = past (guards b l) ((13, ltb (length out) (file_length b)) ∷ []) (none_holds (guards b l) refl none)

    -- 13 where the output is shorter than the file
    pub thirteen : length out < file_length b → write_result 13 0 out ≡ writing b l out
    unfolding writing
    thirteen k = rw (own_number, lt-ltb (length out) (file_length b) k)

    -- elsewhere the file is written
    pub written : file_length b ≤ length out → (after : List ℕ) → after ≡ file_of b l.journal ++ drop (file_length b) out
        → write_result 0 (file_length b) after ≡ writing b l out
    unfolding writing
    written k after e = rw (own_number, le-ltb (length out) (file_length b) k, e)
