-- What the benchmark times: a file is posted, and then totals is asked for so many times. Assumes nothing.
use Rattle.std.specs.Prelude.{ℕ, zero, suc, cond, List, ◌++◌, ltb, length, drop}
use Rattle.bits.specs.Fields.{words}
use Rattle.book.specs.declared.Book.{Book}
use Rattle.book.specs.Library.{Lent, totals_given}
use Rattle.posting.specs.Posting.{posting}
use Rattle.call_answers.specs.Answers.{numbers}

-- the bytes of what totals gives
unfoldable pub totals_bytes : Book → Lent → List ℕ
totals_bytes b l = words (numbers (totals_given b l))

-- the slice for the answer after so many calls: each puts what it gives into the first 528 bytes, and the others stay
unfoldable pub asked : ℕ → Book → Lent → List ℕ → List ℕ
asked zero b l out = out
asked (suc n) b l out = totals_bytes b l ++ drop 528 out

-- the number of post, with what is lent and the answer afterwards; a slice for the answer under 528 bytes gets 13 before anything is
-- done
unfoldable pub measured : List ℕ → Lent → ℕ → List ℕ → ℕ × (Lent × List ℕ)
measured file l rounds out =
    let r = posting file l in
    cond (ltb (length out) 528) (13, (l, out)) (r.number, (r.lent, asked rounds r.book r.lent out))
