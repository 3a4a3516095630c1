-- What `answer_call` leaves: the book and what is lent after the call, and its answer in the slice. Totals changes nothing and answers
-- what it gives; any other call answers its number alone. Assumes nothing.
use Prim.Native.Nat.{ℕ}
use mathlib.Core.Path.{◌≡◌, refl, ap, ◌∙◌}
use mathlib.Core.List.{List, [], ◌∷◌}
use native.Mathlib.Omega.{arith}
use Rattle.bits.specs.Fields.{with_words}
use Rattle.machine.specs.Machine.{Answer, Call, change, totals}
use Rattle.book.specs.declared.Book.{Book}
use Rattle.book.specs.Library.{Lent, Outcome, answer, after, totals_given}
use Rattle.call_script.specs.Room.{room}
use Rattle.call_answers.specs.Answers.{length_and_figures, numbers}

-- a call whose answer takes eight bytes answers its number alone
alone : (b : Book) (l : Lent) (c : Call) → 8 ≡ room c → (after b l c).number ∷ [] ≡ numbers (answer b l c)
unfolding length_and_figures
alone b l (change c) h = refl
alone b l totals h = absurd (omega arith)

-- the call c on book b and what is lent, its answer put into `out` from `to` on
module _ (b : Book) (l : Lent) (c : Call) (out : List ℕ) (to : ℕ) where
  -- the book, what is lent and the slice are as the call leaves them
  abbrev pub Left : Book → Lent → List ℕ → Type 0
  Left b' l' xs =
      record {
        value : b' ≡ (after b l c).book;
        index_after : l' ≡ (after b l c).lent;
        output_after : xs ≡ with_words out to (numbers (answer b l c));
      }

  -- totals, with what it gave in the slice
  pub totals_left : totals ≡ c → (a : Answer) (xs : List ℕ) → a ≡ totals_given b l → xs ≡ with_words out to (numbers a) → Left b l xs
  totals_left e a xs g p =
      record {
        value = ap (λ (d : Call). (after b l d).book) e;
        index_after = ap (λ (d : Call). (after b l d).lent) e;
        output_after = p ∙ ap (λ (x : Answer). with_words out to (numbers x)) (g ∙ ap (answer b l) e);
      }

  -- any other call, with its number in the slice
  pub change_left : 8 ≡ room c → (o : Outcome) (xs : List ℕ) → o ≡ after b l c → xs ≡ with_words out to (o.number ∷ [])
      → Left o.book o.lent xs
  change_left h o xs e p =
      record {
        value = ap (λ (x : Outcome). x.book) e;
        index_after = ap (λ (x : Outcome). x.lent) e;
        output_after = p ∙ ap (with_words out to) (ap (λ (x : Outcome). x.number ∷ []) e ∙ alone b l c h);
      }
