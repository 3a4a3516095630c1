-- What running a script gives, by the room for the answers and the number of the opening. Assumes nothing.
use Prim.Native.Nat.{ℕ, ◌*◌, ◌<◌, ◌≤◌}
use mathlib.Core.Path.{◌≡◌, refl, sym, ap, ap₂, ◌∙◌}
use mathlib.Core.Bool.{true, false}
use mathlib.Core.List.{List, ◌++◌}
use native.Mathlib.Omega.{arith}
use borrow.Author.Tests.{leb-true, leb-false, lt-ltb, le-ltb}
use lib.Dec.{ltb, leb}
use lib.ListN.{length, drop}
use Rattle.bits.specs.Fields.{words, with_words}
use Rattle.bits.proofs.Sequence.{length-words, with_front}
use Rattle.refusals.specs.Refusals.{first}
use Rattle.refusals.proofs.First.{refuse}
use Rattle.machine.specs.Machine as machine
use Rattle.book.specs.declared.Book.{Book}
use Rattle.book.specs.Library as library
use Rattle.book.specs.Library.{Lent, with_index}
use Rattle.book.proofs.Numbers.{unguarded}
use Rattle.opening.specs.Opening.{opening_number, opened_book, opened_index, opened_lent}
use Rattle.opening.proofs.Accepted.{refused_kept}
use Rattle.demand.specs.Demand.{beside}
use Rattle.demand.proofs.Demand.{demand_3}
use Rattle.demand.proofs.FreshBook as Fresh
use Rattle.call_script.specs.Script.{calls}
use Rattle.call_script.specs.Room.{room_of}
use Rattle.call_answers.specs.Answers.{all_numbers}
use Rattle.call_list.specs.Run.{answered, run_number, run_result, running}
use Rattle.call_list.proofs.Turns.{machine_rooms}

module _ (file script : List ℕ) (l : Lent) (out : List ℕ) where
  -- the bytes of the machine's answers
  abbrev text : List ℕ
  text = answered file script (length l.journal)

  -- the machine's answers take the room of the calls
  answered-room : length text ≡ room_of (calls script)
  unfolding answered
  answered-room = length-words _ ∙ machine_rooms (beside file (length l.journal)) (calls script)

  -- with a number above 0 all is as it was
  refused : (n : ℕ) → n ≡ run_number file script l out → 0 < n → run_result n 0 l out ≡ running file script l out
  unfolding running
  refused n e p = rw (← e, refuse p)

  -- with too little room
  pub too_short : leb (room_of (calls script)) (length out) ≡ false → run_result 13 0 l out ≡ running file script l out
  unfolding run_number
  too_short h =
      let less : ltb (length out) (length text) ≡ true =
      lt-ltb (length out) (length text) (omega (arith, answered-room, leb-false (room_of (calls script)) (length out) h))
      in
      refused 13 (rw less refl) (omega arith)

  -- With room enough.
  module _ (h : leb (room_of (calls script)) (length out) ≡ true) where
    enough : ltb (length out) (length text) ≡ false
    enough = le-ltb (length out) (length text) (omega (arith, answered-room, leb-true (room_of (calls script)) (length out) h))

    -- a file that is not opened, which leaves the index
    pub not_opened : (n : ℕ) (x : List ℕ) → n ≡ opening_number file l.index → x ≡ opened_index file l.index → 0 < n
        → run_result n 0 (with_index l x) out ≡ running file script l out
    unfolding run_number
    not_opened n x e k p =
        ap (λ (y : List ℕ). run_result n 0 (with_index l y) out) (k ∙ refused_kept file l.index (omega (arith, e)))
        ∙ refused n (rw (enough, ← e, refuse p)) p

    -- A file that is opened, and the book and the index that it gives.
    module _ (opened : opening_number file l.index ≡ 0) (b : Book) (x : List ℕ) (eb : b ≡ opened_book file l.index)
        (ex : x ≡ opened_index file l.index) where
      -- its number
      accepted : run_number file script l out ≡ 0
      unfolding run_number
      accepted = rw (enough, opened)

      -- the calls of the opened book give the machine's answers
      same_numbers : words (all_numbers (library.answers b (with_index l x) (calls script))) ≡ text
      unfolding answered
      same_numbers =
          ap₂ (λ (c : Book) (y : List ℕ). words (all_numbers (library.answers c (with_index l y) (calls script)))) eb ex
          ∙ ap (λ (xs : List machine.Answer). words (all_numbers xs)) (demand_3 file l (calls script) opened).answered

      -- and they are in front
      in_front : with_words out 0 (all_numbers (library.answers b (with_index l x) (calls script))) ≡ text ++ drop (length text) out
      in_front =
          let ns = all_numbers (library.answers b (with_index l x) (calls script)) in
          let fits : 8 * length ns ≤ length out =
          omega (arith, leb-true (room_of (calls script)) (length out) h, length-words ns, ap length same_numbers, answered-room) in
          with_front out ns fits ∙ ap (λ (xs : List ℕ). xs ++ drop (length xs) out) same_numbers

      -- what the calls gave is what a run gives
      pub runs : (n : ℕ) (l' : Lent) (out' : List ℕ) → n ≡ room_of (calls script) → l' ≡ (library.run b (with_index l x) (calls script)).lent
          → out' ≡ with_words out 0 (all_numbers (library.answers b (with_index l x) (calls script)))
          → run_result 0 n l' out' ≡ running file script l out
      unfolding running
      runs n l' out' en el eo =
          let lengths : n ≡ length text = en ∙ sym answered-room in
          let lents : l' ≡ (library.run (opened_book file l.index) (opened_lent file l) (calls script)).lent =
          el ∙ ap₂ (λ (c : Book) (y : List ℕ). (library.run c (with_index l y) (calls script)).lent) eb ex
          in
          let answers = eo ∙ in_front in
          rw accepted (λ i. run_result 0 (lengths i) (lents i) (answers i))

      -- they begin with a sound book
      pub begins : first (library.guards b (with_index l x)) ≡ 0
      begins =
          ap₂ (λ (c : Book) (y : List ℕ). first (library.guards c (with_index l y))) eb ex ∙ unguarded (Fresh.opened file l opened).sound
