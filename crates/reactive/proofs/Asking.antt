-- Totals asked for again and again: what stands in the slice for the answer after so many calls. Assumes nothing.
use Prim.Native.Nat.{ℕ, zero, suc, ◌+◌, ◌*◌, ◌≤◌, ◌<◌}
use mathlib.Core.Path.{◌≡◌, refl, sym, ap, ◌∙◌}
use mathlib.Core.Bool.{Bool, true, false}
use mathlib.Core.List.{List, ◌++◌}
use native.Mathlib.Numerals.{add-one}
use native.Mathlib.Omega.{arith}
use borrow.Author.Tests.{lt-ltb, le-ltb, eqb-true}
use lib.Dec.{eqb}
use lib.ListN.{length, drop, length-append, length-drop}
use lib.Seq.{drop_at}
use Rattle.bits.specs.Fields.{words, with_words}
use Rattle.bits.proofs.Sequence.{length-words, with_front}
use Rattle.worth.specs.declared.Figures.{Figures}
use Rattle.refusals.specs.Refusals.{first}
use Rattle.machine.specs.Machine as machine
use Rattle.machine.specs.Machine.{totals_of}
use Rattle.book.specs.declared.Book.{Book}
use Rattle.book.specs.Library.{Lent, guards, totals_given}
use Rattle.book.proofs.Numbers.{guarded, sound_given}
use Rattle.posting.specs.Posting.{PostResult, posting}
use Rattle.call_answers.specs.Answers.{columns, length_and_figures, numbers}
use Rattle.reactive.specs.Measured.{totals_bytes, asked, measured}

-- what totals gives takes 528 bytes, on every book
given-room : (b : Book) (l : Lent) → 8 * length (numbers (totals_given b l)) ≡ 528
unfolding totals_given totals_of length_and_figures columns
given-room b l = go (eqb (first (guards b l)) 0) refl
  where
    go : (t : Bool) → eqb (first (guards b l)) 0 ≡ t → 8 * length (numbers (totals_given b l)) ≡ 528
    go false e = rw e
    go true e =
        let s = guarded b l (eqb-true (first (guards b l)) 0 e) in
        let answer : List Figures → machine.Answer = λ fs. record { number = 0; figures = fs; entries = b.length } in
        ap (λ (a : machine.Answer). 8 * length (numbers a)) (sound_given s ∙ ap answer s.totals)

length-totals : (b : Book) (l : Lent) → length (totals_bytes b l) ≡ 528
unfolding totals_bytes
length-totals b l = length-words (numbers (totals_given b l)) ∙ given-room b l

module _ (b : Book) (l : Lent) (out : List ℕ) (room : 528 ≤ length out) where
  -- the slice keeps its length
  size : (n : ℕ) → length (asked n b l out) ≡ length out
  unfolding asked
  size zero = refl
  size (suc n) =
      length-append (totals_bytes b l) (drop 528 out) ∙ omega (arith, length-totals b l, length-drop 528 out)

  pub length-asked : (n : ℕ) (xs : List ℕ) → xs ≡ asked n b l out → length xs ≡ length out
  length-asked n xs e = ap length e ∙ size n

  -- the first 528 bytes are written anew, whatever they were
  behind : (n : ℕ) → drop 528 (asked n b l out) ≡ drop 528 out
  unfolding asked
  behind zero = refl
  behind (suc n) = drop_at (totals_bytes b l) (drop 528 out) 528 (length-totals b l)

  -- one call more
  pub asked-next : (n : ℕ) (xs ys : List ℕ) (a : machine.Answer) → xs ≡ asked n b l out → a ≡ totals_given b l
      → ys ≡ with_words xs 0 (numbers a) → ys ≡ asked (n + 1) b l out
  unfolding totals_bytes asked
  asked-next n xs ys a e g p =
      let ns = numbers (totals_given b l) in
      let width : length (words ns) ≡ 528 = length-totals b l in
      let fits : 8 * length ns ≤ length (asked n b l out) = omega (arith, given-room b l, size n) in
      p
      ∙ ap (λ (x : machine.Answer). with_words xs 0 (numbers x)) g
      ∙ ap (λ (x : List ℕ). with_words x 0 ns) e
      ∙ with_front (asked n b l out) ns fits
      ∙ ap (λ (k : ℕ). words ns ++ drop k (asked n b l out)) width
      ∙ ap (λ (x : List ℕ). words ns ++ x) (behind n)
      ∙ ap (λ (m : ℕ). asked m b l out) (sym (add-one n))

  -- all calls
  pub asked_all : (n m : ℕ) (xs : List ℕ) → xs ≡ asked n b l out → n ≤ m → m ≤ n → xs ≡ asked m b l out
  asked_all n m xs e h k = let same : n ≡ m = omega arith in e ∙ ap (λ (i : ℕ). asked i b l out) same

-- what the whole call gives, by the length of the slice
pub too_short : (file : List ℕ) (l : Lent) (n : ℕ) (out : List ℕ) → length out < 528 → (13, (l, out)) ≡ measured file l n out
unfolding measured
too_short file l n out h = rw (lt-ltb (length out) 528 h)

pub measures : (file : List ℕ) (l : Lent) (n : ℕ) (out : List ℕ) → 528 ≤ length out → (r : PostResult) (out' : List ℕ) → r ≡ posting file l
    → out' ≡ asked n r.book r.lent out → (r.number, (r.lent, out')) ≡ measured file l n out
unfolding measured
measures file l n out h r out' e p =
    rw (le-ltb (length out) 528 h)
    (ap (λ (x : List ℕ). (r.number, (r.lent, x))) p
    ∙ ap (λ (x : PostResult). (x.number, (x.lent, asked n x.book x.lent out))) e)
