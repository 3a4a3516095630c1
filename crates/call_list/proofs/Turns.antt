-- The calls of a script, made one after the other: what holds after so many of them, and what each turn gives. Assumes nothing.
use Prim.Native.Nat.{ℕ, ◌+◌, ◌-◌, ◌*◌, ◌<◌, ◌≤◌}
use mathlib.Core.Path.{◌≡◌, refl, sym, ap, ◌∙◌}
use mathlib.Core.List.{List, [], ◌∷◌, ◌++◌}
use native.Mathlib.Omega.{arith}
use lib.ListN.{length, length-append}
use Rattle.bits.specs.Fields.{with_words}
use Rattle.bits.proofs.Sequence.{with_more, with_none}
use Rattle.machine.specs.Machine as machine
use Rattle.machine.specs.Machine.{State, Call, change, totals, totals_of}
use Rattle.book.specs.declared.Book.{Book}
use Rattle.book.specs.Library as library
use Rattle.book.specs.Library.{Lent, after}
use Rattle.book.proofs.Sound.{Sound}
use Rattle.demand.proofs.Demand.{same-answers}
use Rattle.demand.proofs.OneCall.{stays, answers_alike}
use Rattle.call_script.specs.Script.{size_at, call_at, calls_from, calls}
use Rattle.call_script.specs.Room.{room, room_of}
use Rattle.call_script.proofs.Scripts.{whole_end, calls-next}
use Rattle.call_answers.specs.Answers.{columns, length_and_figures, numbers, all_numbers}

-- the machine's answer to a call takes the room of that call
machine_room : (s : State) (c : Call) → 8 * length (numbers (machine.answer s c)) ≡ room c
unfolding totals_of length_and_figures columns
machine_room s (change c) = refl
machine_room s totals = refl

-- and the answers to a list of calls that of the list
pub machine_rooms : (s : State) (cs : List Call) → 8 * length (all_numbers (machine.answers s cs)) ≡ room_of cs
unfolding machine.answers all_numbers room_of
machine_rooms s [] = refl
machine_rooms s (c ∷ cs) =
    let here = machine_room s c in
    let rest = machine_rooms (machine.next s c) cs in
    omega (arith, here, rest, length-append (numbers (machine.answer s c)) (all_numbers (machine.answers (machine.next s c) cs)))

-- A sound book answers as the machine does, so its answers take the same room.
module _ {b : Book} {l : Lent} (s : Sound b l) where
  sound_room : (c : Call) → 8 * length (numbers (library.answer b l c)) ≡ room c
  sound_room c = ap (λ (a : machine.Answer). 8 * length (numbers a)) (answers_alike s c) ∙ machine_room _ c

  sound_rooms : (cs : List Call) → 8 * length (all_numbers (library.answers b l cs)) ≡ room_of cs
  sound_rooms cs =
      ap (λ (xs : List machine.Answer). 8 * length (all_numbers xs)) (same-answers (record { sound = s; state = refl }) cs)
      ∙ machine_rooms _ cs

-- With so many turns made: the book is sound, and what is left to call gives what the whole script gives.
pub record Turns (script : List ℕ) (b₀ : Book) (l₀ : Lent) (out₀ : List ℕ) (b : Book) (l : Lent) (out : List ℕ) (i at end : ℕ) : Type 0 where
  pub sound : Sound b l
  pub within : at ≤ length script
  pub journal-size : length l.journal ≡ length l₀.journal
  pub places : length l.index ≡ length l₀.index
  pub size : length out ≡ length out₀
  pub room : end + room_of (calls_from (length script - i) script at) ≡ room_of (calls script)
  pub lent : (library.run b l (calls_from (length script - i) script at)).lent ≡ (library.run b₀ l₀ (calls script)).lent
  pub answers : with_words out end (all_numbers (library.answers b l (calls_from (length script - i) script at)))
      ≡ with_words out₀ 0 (all_numbers (library.answers b₀ l₀ (calls script)))

-- before the first
pub none_made : (script : List ℕ) (b : Book) (l : Lent) (out : List ℕ) → Sound b l → Turns script b l out b l out 0 0 0
unfolding calls
none_made script b l out s =
    let all : length script - 0 ≡ length script = omega arith in
    record {
      sound = s;
      within = omega arith;
      journal-size = refl;
      places = refl;
      size = refl;
      room = omega (arith, ap (λ (n : ℕ). room_of (calls_from n script 0)) all);
      lent = ap (λ (n : ℕ). (library.run b l (calls_from n script 0)).lent) all;
      answers = ap (λ (n : ℕ). with_words out 0 (all_numbers (library.answers b l (calls_from n script 0)))) all;
    }

-- A turn, with book, what is lent and answers as they are before it.
module _ {script : List ℕ} {b₀ : Book} {l₀ : Lent} {out₀ : List ℕ} {b : Book} {l : Lent} {out : List ℕ} {i at end : ℕ}
    (t : Turns script b₀ l₀ out₀ b l out i at end) where
  -- What is given at the end, where no call is left.
  module _ (none : calls_from (length script - i) script at ≡ []) where
    all_room : end ≡ room_of (calls script)
    unfolding room_of
    all_room = omega (arith, t.room, ap room_of none)

    all_lent : l ≡ (library.run b₀ l₀ (calls script)).lent
    unfolding library.run
    all_lent = ap (λ (cs : List Call). (library.run b l cs).lent) (sym none) ∙ t.lent

    all_answers : out ≡ with_words out₀ 0 (all_numbers (library.answers b₀ l₀ (calls script)))
    unfolding library.answers all_numbers
    all_answers =
        sym (with_none out end)
        ∙ ap (λ (cs : List Call). with_words out end (all_numbers (library.answers b l cs))) (sym none)
        ∙ t.answers

    pub all_given : record {
      value : end ≡ room_of (calls script);
      index_after : l ≡ (library.run b₀ l₀ (calls script)).lent;
      output_after : out ≡ with_words out₀ 0 (all_numbers (library.answers b₀ l₀ (calls script)));
    }
    all_given = record { value = all_room; index_after = all_lent; output_after = all_answers }

  -- A call of this size is left, whose answer takes this room.
  module _ (some : i < length script) (size : ℕ) (measured : size ≡ size_at script at) (whole : 0 < size) where
    abbrev call : Call
    call = call_at script at

    abbrev later : List Call
    later = calls_from (length script - (i + 1)) script (at + size_at script at)

    -- it stands in the script
    stands : 0 < size_at script at
    stands = omega (arith, measured)

    pub inside : at + size ≤ length script
    inside = omega (arith, measured, whole_end script at stands)

    -- it is the first of those that are left
    left : calls_from (length script - i) script at ≡ call ∷ later
    left = calls-next script i at some stands

    rooms : end + (room call + room_of later) ≡ room_of (calls script)
    unfolding room_of
    rooms = ap (λ (cs : List Call). end + room_of cs) (sym left) ∙ t.room

    -- Where the answers fit ..
    module _ (fits : room_of (calls script) ≤ length out₀) where
      -- .. there is room for this one
      pub has_room : end + room call ≤ length out
      has_room = omega (arith, rooms, t.size)

      -- .. and after it the others are left
      pub goes_on : (taken : ℕ) (b' : Book) (l' : Lent) (out' : List ℕ) → taken ≡ room call
          → b' ≡ (after b l call).book → l' ≡ (after b l call).lent → out' ≡ with_words out end (numbers (library.answer b l call))
          → length l'.journal ≡ length l.journal → length l'.index ≡ length l.index → length out' ≡ length out
          → Turns script b₀ l₀ out₀ b' l' out' (i + 1) (at + size) (end + taken)
      unfolding library.run library.answers all_numbers
      goes_on taken b' l' out' et eb el eo ll lx lo =
          let here = numbers (library.answer b l call) in
          let o = after b l call in
          let rest = all_numbers (library.answers o.book o.lent later) in
          let still : Sound o.book o.lent = (stays t.sound call).sound in
          let width : 8 * length here ≡ room call = sound_room t.sound call in
          let enough : end + 8 * length here + 8 * length rest ≤ length out =
          omega (arith, rooms, t.size, width, sound_rooms still later)
          in
          let behind : with_words (with_words out end here) (end + room call) rest ≡ with_words out end (here ++ rest) =
          ap (λ (n : ℕ). with_words (with_words out end here) (end + n) rest) (sym width) ∙ with_more out end here rest enough
          in
          let long : length o.lent.journal ≡ length l₀.journal = sym (ap (λ (x : Lent). length x.journal) el) ∙ ll ∙ t.journal-size in
          let placed : length o.lent.index ≡ length l₀.index = sym (ap (λ (x : Lent). length x.index) el) ∙ lx ∙ t.places in
          let wide : length (with_words out end here) ≡ length out₀ = sym (ap length eo) ∙ lo ∙ t.size in
          rw (eb, el, eo, et, measured)
          record {
            sound = still;
            within = whole_end script at stands;
            journal-size = long;
            places = placed;
            size = wide;
            room = omega (arith, rooms);
            lent = ap (λ (cs : List Call). (library.run b l cs).lent) (sym left) ∙ t.lent;
            answers =
                behind ∙ ap (λ (cs : List Call). with_words out end (all_numbers (library.answers b l cs))) (sym left) ∙ t.answers;
          }
